use Rattle.std.proofs.Common.{◌≡◌, ◌≤◌, ◌+◌, ◌*◌, ◌++◌, length, vec_len, vec_capacity}
use Rattle.std.specs.Vec.Iter.{into_iter_items, into_iter_len}
use Rattle.mely_history.specs.Setup.{shape_of}
use Rattle.mely_shard.specs.Invariant.{AreInitialSlots}
use Rattle.mely_shard.proofs.colour_slot.slots_of.Given as goal

abbrev pub invariant-loop-state : goal.invariant-loop-state
invariant-loop-state g l = record {
  split : l.yielded ++ into_iter_items l.state-iterator ≡ l.fn.states.items;
  left : into_iter_len l.state-iterator ≡ length (into_iter_items l.state-iterator);
  many : length l.slots.items ≡ length l.yielded;
  room : vec_len l.slots + length (into_iter_items l.state-iterator) ≤ vec_capacity l.slots;
  colour : l.colour ≡ length l.yielded * (shape_of l.setup).shards + l.shard;
  first : AreInitialSlots l.setup l.shard l.yielded l.slots.items;
}
