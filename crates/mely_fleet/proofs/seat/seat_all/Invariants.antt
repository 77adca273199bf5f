use Rattle.std.proofs.Common.{◌≡◌, ◌≤◌, ◌+◌, ◌++◌, Some, length, map, vec_len, vec_capacity}
use Rattle.std.specs.Prelude.{reverse}
use Rattle.std.specs.Vec.Iter.{into_iter_items, into_iter_len}
use Rattle.mely_fleet.proofs.seat.seat_all.Given as goal

abbrev pub invariant-passes : goal.invariant-passes
invariant-passes g l = record {
  split : l.yielded ++ into_iter_items l.own-iterator ≡ l.fn.passes.items;
  left : into_iter_len l.own-iterator ≡ length (into_iter_items l.own-iterator);
  room : vec_len l.seats + length (into_iter_items l.own-iterator) ≤ vec_capacity l.seats;
  many : length l.seats.items ≡ length l.yielded;
  passes : map (λ seat. seat.passes) l.seats.items ≡ l.yielded;
  workers : map (λ seat. seat.worker) l.seats.items ++ map (λ rest. Some rest) (reverse l.left.items) ≡ map (λ rest. Some rest) l.fn.rested.items;
}
