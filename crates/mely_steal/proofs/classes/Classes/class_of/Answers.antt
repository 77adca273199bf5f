use Rattle.std.proofs.Common.{◌≡◌, ◌<◌, length, get_or, sym, ap, subst, ◌∙◌}
use Rattle.std.proofs.lemmas.List.{get_or_read}
use Rattle.mely_steal.specs.declared.links.Link.{Link}
use Rattle.mely_steal.specs.Links.{blank_link}
use Rattle.mely_steal.specs.Entering.{ClassesState, class_in}
use Rattle.mely_steal.proofs.OrderLemmas.{class-is}
use Rattle.mely_steal.proofs.classes.Classes.class_of.Goals as goal

pub returns : goal.returns
returns c =
    let L = c.self.inside.links.items in
    let Within : ClassesState → Type 0 = λ v. c.args.colour < v.places in
    let within : c.args.colour < length L = subst Within (sym c.self.view_is) c.requires in
    let read : c.index.result.now ≡ get_or L c.args.colour blank_link = get_or_read L c.args.colour c.index.result.now within c.index.ensures blank_link in
    ap (λ (l : Link). l.list) read
    ∙ (sym (class-is L c.self.inside.ends c.self.inside.numbers.items c.self.inside.next c.args.colour c.self.invariant within)
    ∙ ap (λ (v : ClassesState). class_in c.args.colour v.entries) c.self.view_is)
