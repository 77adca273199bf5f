use Rattle.std.proofs.Common.{◌≡◌, ◌<◌, ◌≤◌, ℕ, Some}
use Rattle.std.specs.Prelude.{slice_get}
use Rattle.mely_core.specs.CoreQueue.{CoreQueueState}
use Rattle.mely_weave.specs.Gathering.{MayGatherChain}
use Rattle.mely_weave.specs.Making.{empty_chain}
use Rattle.mely_weave.specs.SideStands.{ChainStands}
use Rattle.mely_weave.proofs.gathering.empty_all.Given as goal

abbrev pub invariant-loop-chain : goal.invariant-loop-chain
invariant-loop-chain l = record {
  own : (core : ℕ) (queue : CoreQueueState) → l.chain-index ≤ core → slice_get l.chains core ≡ Some queue → MayGatherChain l.setup queue;
  empty : (core : ℕ) (queue : CoreQueueState) → core < l.chain-index → slice_get l.chains core ≡ Some queue → queue ≡ empty_chain l.setup;
  stand : (core : ℕ) (queue : CoreQueueState) → core < l.chain-index → slice_get l.chains core ≡ Some queue → ChainStands l.setup queue;
}
