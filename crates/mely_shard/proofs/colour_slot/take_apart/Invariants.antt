use Rattle.std.proofs.Common.{◌≡◌, ◌≤◌, ◌+◌, ◌++◌, Some, length, map, vec_len, vec_capacity}
use Rattle.std.specs.Vec.Iter.{into_iter_items, into_iter_len}
use Rattle.mely_shard.specs.Invariant.{AreAtHome}
use Rattle.mely_shard.proofs.colour_slot.take_apart.Given as goal

abbrev pub invariant-loop-slot : goal.invariant-loop-slot
invariant-loop-slot g l = record {
  split : l.yielded ++ into_iter_items l.slot-iterator ≡ l.fn.slots.items;
  left : into_iter_len l.slot-iterator ≡ length (into_iter_items l.slot-iterator);
  at_home : AreAtHome (into_iter_items l.slot-iterator);
  room_for_states : vec_len l.states + length (into_iter_items l.slot-iterator) ≤ vec_capacity l.states;
  room_for_queues : vec_len l.queues + length (into_iter_items l.slot-iterator) ≤ vec_capacity l.queues;
  states : map (λ state. Some state) l.states.items ≡ map (λ state. Some state) l.fn.states.items ++ map (λ slot. slot.home) l.yielded;
  queues : map (λ queue. queue.items) l.queues.items ≡ map (λ queue. queue.items) l.fn.queues.items ++ map (λ slot. slot.queue.events) l.yielded;
}
