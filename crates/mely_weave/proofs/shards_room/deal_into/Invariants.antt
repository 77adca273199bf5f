use Rattle.std.proofs.Common.{◌≡◌, ◌++◌, length, vec_capacity}
use Rattle.std.specs.Vec.Iter.{into_iter_items, into_iter_len}
use Rattle.mely_history.specs.Setup.{shape_of, colours_of}
use Rattle.mely_weave.specs.Dealing.{AreDealt, HaveRoomFor}
use Rattle.mely_weave.proofs.shards_room.deal_into.Given as goal

abbrev pub invariant-loop-state : goal.invariant-loop-state
invariant-loop-state g l = record {
  split : l.yielded ++ into_iter_items l.state-iterator ≡ l.fn.states.items;
  left : into_iter_len l.state-iterator ≡ length (into_iter_items l.state-iterator);
  number : l.number ≡ length l.yielded;
  room : HaveRoomFor vec_capacity (colours_of l.setup) (shape_of l.setup).shards l.by_shard.items;
  dealt : AreDealt (λ pile. pile.items) (shape_of l.setup).shards l.yielded l.by_shard.items;
}
