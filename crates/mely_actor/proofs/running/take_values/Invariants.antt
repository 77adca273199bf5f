use Rattle.std.proofs.Common.{◌≡◌, ◌≤◌, ◌+◌, ◌++◌, length, vec_len, vec_capacity}
use Rattle.std.specs.Vec.Iter.{into_iter_items, into_iter_len}
use Rattle.mely_actor.specs.Received.{AreValues}
use Rattle.mely_actor.proofs.running.take_values.Given as goal

abbrev pub invariant-states : goal.invariant-states
invariant-states g l = record {
  split : l.yielded ++ into_iter_items l.state-iterator ≡ l.fn.states.items;
  left : into_iter_len l.state-iterator ≡ length (into_iter_items l.state-iterator);
  room : vec_len l.values + length (into_iter_items l.state-iterator) ≤ vec_capacity l.values;
  values : AreValues l.yielded l.values.items;
}
