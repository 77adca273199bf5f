use Rattle.std.proofs.Common.{◌≡◌, ◌≤◌, ◌+◌, ◌++◌, ℕ, Some, length, map, vec_len, vec_capacity}
use Rattle.std.specs.Prelude.{IsSome, slice_get}
use Rattle.std.specs.Vec.Iter.{into_iter_items, into_iter_len}
use Rattle.mely_fleet.proofs.seat.leave_all.Given as goal

abbrev pub invariant-seats : goal.invariant-seats
invariant-seats g l = record {
  split : l.yielded ++ into_iter_items l.seat-iterator ≡ l.fn.seats.items;
  left : into_iter_len l.seat-iterator ≡ length (into_iter_items l.seat-iterator);
  room : vec_len l.passes + length (into_iter_items l.seat-iterator) ≤ vec_capacity l.passes;
  rested_room : vec_len l.rested + length (into_iter_items l.seat-iterator) ≤ vec_capacity l.rested;
  rest : (n : ℕ) (seat : _) → slice_get (l.yielded ++ into_iter_items l.seat-iterator) n ≡ Some seat → IsSome seat.worker;
  behind : l.passes.items ≡ l.fn.passes.items ++ map (λ seat. seat.passes) l.yielded;
  workers : map (λ rest. Some rest) l.rested.items ≡ map (λ seat. seat.worker) l.yielded;
}
