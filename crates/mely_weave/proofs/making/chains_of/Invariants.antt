use Rattle.std.proofs.Common.{◌≡◌, ◌≤◌, ℕ, Some, length, vec_len, vec_capacity}
use Rattle.std.specs.Prelude.{slice_get}
use Rattle.mely_core.specs.CoreQueue.{CoreQueueState}
use Rattle.mely_history.specs.Setup.{shape_of}
use Rattle.mely_weave.specs.Making.{empty_chain}
use Rattle.mely_weave.proofs.making.chains_of.Given as goal

abbrev pub invariant-loop-core : goal.invariant-loop-core
invariant-loop-core l = record {
  room : (shape_of l.setup).cores ≤ vec_capacity l.chains;
  len : vec_len l.chains ≡ l.core;
  many : length l.chains.items ≡ l.core;
  empty : (core : ℕ) (queue : CoreQueueState) → slice_get l.chains.items core ≡ Some queue → queue ≡ empty_chain l.setup;
}
