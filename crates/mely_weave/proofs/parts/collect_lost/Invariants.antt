use Rattle.std.proofs.Common.{◌≡◌, ◌≤◌, ◌+◌, ◌*◌, ◌++◌, ℕ, IsTrue, Some, length, vec_len, vec_capacity}
use Rattle.std.specs.Prelude.{slice_get, flat_map, reverse}
use Rattle.mely_worker.specs.Phase.{is_free}
use Rattle.mely_worker.specs.Worker.{WorkerState}
use Rattle.mely_weave.proofs.parts.collect_lost.Given as goal

abbrev pub invariant-loop-worker : goal.invariant-loop-worker
invariant-loop-worker g l = record {
  free : (core : ℕ) (w : WorkerState g.row.S.Denot g.row.P.Denot) → slice_get (reverse l.workers.items) core ≡ Some w → (IsTrue (is_free w.phase)) × (w.batch ≡ l.batch);
  room : vec_len l.lost + 2 * l.batch * length l.workers.items ≤ vec_capacity l.lost;
  moved : l.lost.items ++ flat_map (λ w. w.lost) (reverse l.workers.items) ≡ flat_map (λ w. w.lost) l.fn.workers.items;
}

abbrev pub decreases-loop-worker : goal.decreases-loop-worker
decreases-loop-worker g l = vec_len l.workers
