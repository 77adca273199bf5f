use Rattle.std.proofs.Common.{◌≡◌, ◌≤◌, [], length, vec_len, vec_capacity}
use Rattle.mely_fleet.specs.Closed.{AreFilled}
use Rattle.mely_fleet.proofs.room.columns.Given as goal

abbrev pub invariant-lists : goal.invariant-lists
invariant-lists g l = record {
  room : l.lists ≤ vec_capacity l.columns;
  len : vec_len l.columns ≡ l._list;
  many : length l.columns.items ≡ l._list;
  filled : AreFilled (λ list. list.items) vec_len vec_capacity [] l.room l.columns.items;
}
