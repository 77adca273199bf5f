use Rattle.std.proofs.Common.{◌≡◌, ◌<◌, ℕ, Some, []}
use Rattle.std.specs.Prelude.{slice_get}
use Rattle.mely_core.specs.CoreQueue.{CoreQueueState}
use Rattle.mely_weave.proofs.weave.Weave.are_all_empty.Given as goal

abbrev pub invariant-loop-chain : goal.invariant-loop-chain
invariant-loop-chain g l = (k : ℕ) (queue : CoreQueueState) → k < l.chain-index → slice_get l.self.chains k ≡ Some queue → queue.chain ≡ []
