use Rattle.std.proofs.Common.{[], ◌∷◌, ◌++◌}
use Rattle.sws_text.specs.Numbers.{space_number}
use Rattle.mely_check.proofs.ReadingLemmas.{second_is}
use Rattle.mely_check.proofs.reading.three.Goals as goal

pub returns-in_err-second : goal.returns-in_err-second
returns-in_err-second c =
    rw c.from_residual-in_err-second.ensures
    (λ a b d few_a few_b few_d is.
    let read = c.in_ok-first.ensures in
    c.in_err-second.ensures b d few_b few_d
    (second_is c.args.text.now c.in_ok-first.rest.now (space_number d ++ 10 ∷ []) c.in_ok-first.first a b read.0 few_a read.1 read.2 is))
