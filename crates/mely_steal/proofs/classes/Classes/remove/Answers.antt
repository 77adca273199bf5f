use Rattle.std.proofs.Common.{◌≡◌, ◌<◌, ◌-◌, ℕ, List, length, get_or, set, inl, inr, sym, ap, subst, ◌∙◌}
use Rattle.std.specs.Vec.{with_items}
use Rattle.std.proofs.lemmas.List.{get_or_read, with_items_is}
use Rattle.mely_steal.specs.declared.links.Link.{Link}
use Rattle.mely_steal.specs.Links.{blank_link, list_at, places_of, without_place, IsStrung, SparesOthers, MovesOnly}
use Rattle.mely_steal.specs.Entering.{Ranked, ClassesState, entries_without, entries_of, StandInOrder}
use Rattle.mely_steal.proofs.OrderLemmas.{IsClass, class-cases, class-is, has-none, entries_without-absent, leave-stands, list_of}
use Rattle.mely_steal.proofs.classes.Classes.remove.Goals as goal

pub returns-then-class-eq0 : goal.returns-then-class-eq0
returns-then-class-eq0 c =
    let L = c.self.inside.links.items in
    let ends = c.self.inside.ends in
    let N = c.self.inside.numbers.items in
    let s = c.self.invariant in
    let g = entries_of L ends N in
    let Within : ClassesState → Type 0 = λ v. c.args.colour < v.places in
    let within : c.args.colour < length L = subst Within (sym c.self.view_is) c.requires in
    let read : c.index.result.now ≡ get_or L c.args.colour blank_link = get_or_read L c.args.colour c.index.result.now within c.index.ensures blank_link in
    let free : list_at L c.args.colour ≡ 0 = sym (ap (λ (l : Link). l.list) read) ∙ c.if-class-eq0.true in
    let none = has-none c.args.colour g s.merge.classed (class-is L ends N c.self.inside.next c.args.colour s within ∙ free) in
    let like : List Ranked → ClassesState = λ h. record { entries = h; places = length L } in
    let Stays : ClassesState → Type 0 = λ v. v ≡ record { entries = entries_without c.args.colour v.entries; places = v.places } in
    subst Stays c.self.view_is (ap like (sym (entries_without-absent c.args.colour g none)))

-- what is left once the colour is unlinked
left : (c : goal.After-self-1) → (entries_of c.unlink.new.links (set c.self.inside.ends (c.index.result.now.list - 1) c.unlink.new.ends) c.self.inside.numbers.items ≡ entries_without c.args.colour (entries_of c.self.inside.links.items c.self.inside.ends c.self.inside.numbers.items))
    × StandInOrder c.unlink.new.links (set c.self.inside.ends (c.index.result.now.list - 1) c.unlink.new.ends) c.self.inside.numbers.items c.self.inside.next
left c =
    let L = c.self.inside.links.items in
    let M = c.unlink.new.links in
    let ends = c.self.inside.ends in
    let N = c.self.inside.numbers.items in
    let s = c.self.invariant in
    let colour = c.args.colour in
    let k = c.index.result.now.list in
    let Within : ClassesState → Type 0 = λ v. colour < v.places in
    let within : colour < length L = subst Within (sym c.self.view_is) c.requires in
    let read : c.index.result.now ≡ get_or L colour blank_link = get_or_read L colour c.index.result.now within c.index.ensures blank_link in
    let at : list_at L colour ≡ k = sym (ap (λ (l : Link). l.list) read) in
    let isk : IsClass k = elim (class-cases k (let le = s.classes colour in rw (sym at) le)) [ inl none ↦ absurd (c.if-class-eq0.false none) | inr is ↦ is ] in
    let begins : c.deref_mut.result.now ≡ L = c.deref_mut.ensures.value in
    let now = c.unlink.new.ends in
    let Listed : List Link → Type 0 = λ l. places_of M now ≡ without_place colour (list_of l ends k) in
    let Strung : List Link → Type 0 = λ l. IsStrung (list_at l colour) M now in
    let Numbered : ℕ → Type 0 = λ n. IsStrung n M now in
    let Spares : List Link → Type 0 = λ l. SparesOthers (list_at l colour) l M in
    let SparesAt : ℕ → Type 0 = λ n. SparesOthers n L M in
    let Moves : List Link → Type 0 = λ l. MovesOnly colour 0 l M in
    leave-stands L M ends N c.self.inside.next k colour now s isk within at
    (subst Listed begins c.unlink.ensures.listed)
    (subst Numbered at (subst Strung begins c.unlink.ensures.strung))
    (subst SparesAt at (subst Spares begins c.unlink.ensures.spares))
    (subst Moves begins c.unlink.ensures.moves)

pub invariant_of-self : goal.invariant_of-self
invariant_of-self c =
    let written : (with_items c.self.inside.links c.unlink.new.links).items ≡ c.unlink.new.links = with_items_is c.self.inside.links c.unlink.new.links (c.unlink.auto.links ∙ c.deref_mut.ensures.len) in
    let Stands : List Link → Type 0 = λ l. StandInOrder l (set c.self.inside.ends (c.index.result.now.list - 1) c.unlink.new.ends) c.self.inside.numbers.items c.self.inside.next in
    subst Stands (sym written) (left c).1

pub returns : goal.returns
returns c =
    let L = c.self.inside.links.items in
    let M = c.unlink.new.links in
    let late = set c.self.inside.ends (c.index.result.now.list - 1) c.unlink.new.ends in
    let written : (with_items c.self.inside.links M).items ≡ M = with_items_is c.self.inside.links M (c.unlink.auto.links ∙ c.deref_mut.ensures.len) in
    let long : length M ≡ length L = c.unlink.auto.links ∙ ap (λ (l : List Link). length l) c.deref_mut.ensures.value in
    let seen : List Link → ClassesState = λ l. record { entries = entries_of l late c.self.inside.numbers.items; places = length l } in
    let Left : ClassesState → Type 0 = λ v. seen M ≡ record { entries = entries_without c.args.colour v.entries; places = v.places } in
    ap seen written ∙ subst Left c.self.view_is (λ i. record { entries = (left c).0 i; places = long i })
