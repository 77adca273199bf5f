use Rattle.std.proofs.Common.{◌≡◌, ◌<◌, ℕ, Some}
use Rattle.std.specs.Prelude.{slice_get}
use Rattle.sws_handlers.specs.Invariant.{IsConsistent}
use Rattle.sws_engine.proofs.threads.are_kept.Given as goal

abbrev pub invariant-loop-place : goal.invariant-loop-place
invariant-loop-place g l = (number : ℕ) (place : _) → number < l.place-index → slice_get l.places number ≡ Some place → IsConsistent g.W.World g.W.Link.Link g.T.Talk place
