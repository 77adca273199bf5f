use Rattle.std.proofs.Common.{◌≡◌, ℕ, Some}
use Rattle.std.specs.Prelude.{slice_get}
use Rattle.mely_core.specs.CoreQueue.{CoreQueueState}
use Rattle.mely_weave.specs.Gathering.{AreChained}
use Rattle.mely_weave.specs.Side.{readiness_for}
use Rattle.mely_weave.specs.SideStands.{ChainStands}
use Rattle.mely_weave.proofs.gathering.chain_ready.Given as goal

abbrev pub invariant-loop-number : goal.invariant-loop-number
invariant-loop-number g l = record {
  chained : AreChained l.setup (readiness_for l.setup l.shards) l.number l.chains;
  stand : (core : ℕ) (queue : CoreQueueState) → slice_get l.chains core ≡ Some queue → ChainStands l.setup queue;
}
