use Rattle.std.proofs.Common.{◌≡◌, ◌≤◌, ◌+◌, ◌++◌, length, map, vec_len, vec_capacity}
use Rattle.std.specs.Vec.Iter.{into_iter_items, into_iter_len}
use Rattle.mely_worker.specs.IdleWorker.{resumed_worker}
use Rattle.mely_fleet.proofs.seat.wake_all.Given as goal

abbrev pub invariant-rested : goal.invariant-rested
invariant-rested g l = record {
  split : l.yielded ++ into_iter_items l.rest-iterator ≡ l.fn.rested.items;
  left : into_iter_len l.rest-iterator ≡ length (into_iter_items l.rest-iterator);
  room : vec_len l.workers + length (into_iter_items l.rest-iterator) ≤ vec_capacity l.workers;
  woken : l.workers.items ≡ map (λ rest. resumed_worker rest) l.yielded;
}
