use Rattle.std.proofs.Common.{◌≡◌, ◌<◌, ◌≤◌, ◌+◌, ◌++◌, ℕ, Some, length, get_or, vec_len, vec_capacity}
use Rattle.std.specs.Prelude.{slice_get}
use Rattle.std.specs.Vec.Iter.{into_iter_items, into_iter_len}
use Rattle.mely_lock.specs.Words.{initial_value}
use Rattle.mely_fleet.specs.Rows.{HavePasses}
use Rattle.mely_fleet.specs.Dealing.{IsInitialRow}
use Rattle.mely_fleet.proofs.dealing.lock_all.Given as goal

abbrev pub invariant-locks : goal.invariant-locks
invariant-locks g l = record {
  split : l.yielded ++ into_iter_items l.value-iterator ≡ l.fn.values.items;
  left : into_iter_len l.value-iterator ≡ length (into_iter_items l.value-iterator);
  room : vec_len l.locks + length (into_iter_items l.value-iterator) ≤ vec_capacity l.locks;
  row_room : (n : ℕ) (d : _) → n < l.passes → vec_len (get_or l.rows.items n d) + length (into_iter_items l.value-iterator) ≤ vec_capacity (get_or l.rows.items n d);
  many : length l.rows.items ≡ l.passes;
  locks : length l.locks.items ≡ length l.yielded;
  rows : (n : ℕ) (d : _) → n < l.passes → IsInitialRow g.V.Kept.frame_of l.locks.items n (get_or l.rows.items n d).items;
  frames : (k : ℕ) (lock : _) (value : _) → slice_get l.locks.items k ≡ Some lock → slice_get l.yielded k ≡ Some value → g.V.Kept.frame_of (initial_value lock) ≡ g.V.Kept.frame_of value;
  dealt : HavePasses l.passes l.locks.items;
}
