-- The connections and the schedule of an input.
use Rattle.std.proofs.Common.{ℕ, ◌^◌, ◌<◌, Bool, refl, arith}
use Rattle.std.specs.Prelude.{sum_by}
use Rattle.std.proofs.lemmas.List.Recursion.{is_sum_by}
use Rattle.sws_script.specs.declared.input.Input.{Input}
use Rattle.sws_script.specs.Inputs.{IsInput, total_of}

pub steps_are_few : (schedule : Bool) (cores : ℕ) (input : Input) → IsInput schedule cores input → sum_by (λ part. part.1) input.steps < 2 ^ 64
steps_are_few schedule cores input is =
    let same = is_sum_by total_of (λ (part : ℕ × ℕ). part.1) refl (λ _ _. refl) input.steps in
    let few = is.count in
    omega (arith, same, few)
