use Rattle.std.proofs.Common.{◌≡◌, ◌≤◌, ◌+◌, ◌++◌, ℕ, Some, length, vec_len, vec_capacity}
use Rattle.std.specs.Prelude.{slice_get}
use Rattle.std.specs.Vec.Iter.{into_iter_items, into_iter_len}
use Rattle.mely_history.specs.Setup.{shape_of}
use Rattle.mely_worker.specs.IdleWorker.{IdleWorkerState}
use Rattle.mely_worker.specs.Worker.{WorkerState}
use Rattle.mely_weave.specs.Making.{initial_idle_worker, initial_worker}
use Rattle.mely_weave.proofs.making.workers_of.Given as goal

abbrev pub invariant-loop-worker : goal.invariant-loop-worker
invariant-loop-worker g l = record {
  count : length (l.yielded ++ into_iter_items l.worker-iterator) ≡ (shape_of l.setup).cores;
  rests : (core : ℕ) (rest : IdleWorkerState g.row.P.Denot) → slice_get (l.yielded ++ into_iter_items l.worker-iterator) core ≡ Some rest → rest ≡ initial_idle_worker l.setup core;
  left : into_iter_len l.worker-iterator ≡ length (into_iter_items l.worker-iterator);
  room : vec_len l.workers + length (into_iter_items l.worker-iterator) ≤ vec_capacity l.workers;
  many : length l.workers.items ≡ length l.yielded;
  first : (core : ℕ) (w : WorkerState g.row.S.Denot g.row.P.Denot) → slice_get l.workers.items core ≡ Some w → w ≡ initial_worker l.setup core;
}
