use Rattle.std.proofs.Common.{◌≡◌, ◌≤◌, ◌+◌, ◌*◌, ◌++◌, ℕ, Some, length, vec_len, vec_capacity}
use Rattle.std.specs.Prelude.{slice_get}
use Rattle.std.specs.Vec.Iter.{into_iter_items, into_iter_len}
use Rattle.mely_history.specs.Setup.{shape_of, colours_of}
use Rattle.mely_shard.specs.Shard.{ShardState, IsInitialShard}
use Rattle.mely_weave.proofs.shards_room.fill_each.Given as goal

abbrev pub invariant-loop-states : goal.invariant-loop-states
invariant-loop-states g l = record {
  split : l.yielded ++ into_iter_items l.states-iterator ≡ l.fn.by_shard.items;
  left : into_iter_len l.states-iterator ≡ length (into_iter_items l.states-iterator);
  number : l.number ≡ length l.yielded;
  room : vec_len l.shards + length (into_iter_items l.states-iterator) ≤ vec_capacity l.shards;
  rooms_left : length l.rooms.items ≡ length (into_iter_items l.states-iterator);
  rooms : (i : ℕ) (one : _) → slice_get l.rooms.items i ≡ Some one → colours_of l.setup ≤ one.colours * (shape_of l.setup).shards;
  many : length l.shards.items ≡ length l.yielded;
  first : (shard : ℕ) (pile : _) (has : ShardState g.row.S.Denot g.row.P.Denot) → slice_get l.yielded shard ≡ Some pile → slice_get l.shards.items shard ≡ Some has → IsInitialShard l.setup shard pile.items has;
}
