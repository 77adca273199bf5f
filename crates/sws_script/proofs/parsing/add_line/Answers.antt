use Rattle.std.proofs.Common.{◌≡◌, None, refl, ap, ◌∙◌, rules}
use Rattle.sws_script.specs.Lines.{IsSpelled, SpellsLine, IsLine}
use Rattle.sws_script.specs.Order.{state_after}
use Rattle.sws_script.specs.Parsers.{state}
use Rattle.sws_script.proofs.LineLemmas.{SpellsLine-unique}
use Rattle.sws_script.proofs.parsing.add_line.Goals as goal

pub returns-else-branch : goal.returns-else-branch
returns-else-branch c =
    let read : SpellsLine c.args.text.now c.in-Some.says × IsLine c.in-Some.says = search rules in
    let spelled : IsSpelled c.args.text.now c.in-Some.says = record { spells = read.0; is = read.1 } in
    let refused : state_after c.args.parser.now.cores (state c.args.parser.now) c.in-Some.says ≡ None = search rules in
    (refl, λ says is. ap (state_after c.args.parser.now.cores (state c.args.parser.now)) (SpellsLine-unique c.args.text.now says c.in-Some.says is spelled) ∙ refused)
