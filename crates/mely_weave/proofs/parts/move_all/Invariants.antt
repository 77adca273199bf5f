use Rattle.std.proofs.Common.{◌≡◌, ◌≤◌, ◌+◌, ◌++◌, length, vec_len, vec_capacity}
use Rattle.std.specs.Vec.Iter.{into_iter_items, into_iter_len}
use Rattle.mely_weave.proofs.parts.move_all.Given as goal

abbrev pub invariant-loop-item : goal.invariant-loop-item
invariant-loop-item g l = record {
  split : l.yielded ++ into_iter_items l.item-iterator ≡ l.fn.from.items;
  left : into_iter_len l.item-iterator ≡ length (into_iter_items l.item-iterator);
  room : vec_len l.into + length (into_iter_items l.item-iterator) ≤ vec_capacity l.into;
  capacity : vec_capacity l.into ≡ vec_capacity l.fn.into;
  moved : l.into.items ≡ l.fn.into.items ++ l.yielded;
  len : vec_len l.into ≡ vec_len l.fn.into + length l.yielded;
}
