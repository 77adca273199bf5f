use Rattle.std.proofs.Common.{◌≡◌, ◌<◌, ℕ, Some, false}
use Rattle.std.specs.Prelude.{slice_get}
use Rattle.mely_actor.proofs.running.are_well.Given as goal

abbrev pub invariant-loop-state : goal.invariant-loop-state
invariant-loop-state g l = (number : ℕ) (state : _) → number < l.state-index → slice_get l.states number ≡ Some state → state.failed ≡ false
