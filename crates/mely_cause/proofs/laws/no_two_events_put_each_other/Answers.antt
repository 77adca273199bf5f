use Rattle.std.proofs.Common.{◌<◌, ◌∙◌, sym, subst, arith}
use Rattle.std.proofs.lemmas.Option.{same_Some}
use Rattle.mely_cause.specs.Causes.{Registration}
use Rattle.mely_cause.proofs.laws.no_two_events_put_each_other.Goals as goal

-- each was registered before the other
pub returns : goal.returns
returns g c = λ begin loaded runs are c d i j one two at_one at_two by_two by_one.
    let first = are.caused c d i j one at_one by_two in
    let second = are.caused d c j i two at_two by_one in
    let is_two = same_Some _ _ (sym first.1 ∙ at_two) in
    let is_one = same_Some _ _ (sym second.1 ∙ at_one) in
    let low : two.at < one.at = subst (λ (r : Registration _). r.at < one.at) is_two first.2 in
    let high : one.at < two.at = subst (λ (r : Registration _). r.at < two.at) is_one second.2 in
    omega (arith, low, high)
