use Rattle.std.proofs.Common.{◌≡◌, ◌≤◌, ℕ, Some, length, vec_len, vec_capacity}
use Rattle.std.specs.Prelude.{slice_get}
use Rattle.mely_history.specs.Setup.{shape_of}
use Rattle.mely_worker.specs.IdleWorker.{IdleWorkerState}
use Rattle.mely_weave.specs.Making.{initial_idle_worker}
use Rattle.mely_weave.proofs.making.rested_of.Given as goal

abbrev pub invariant-loop-core : goal.invariant-loop-core
invariant-loop-core g l = record {
  room : (shape_of l.setup).cores ≤ vec_capacity l.rested;
  len : vec_len l.rested ≡ l.core;
  many : length l.rested.items ≡ l.core;
  first : (core : ℕ) (rest : IdleWorkerState g.row.P.Denot) → slice_get l.rested.items core ≡ Some rest → rest ≡ initial_idle_worker l.setup core;
}
