use Rattle.std.proofs.Common.{◌≡◌, ◌++◌, length, map}
use Rattle.std.specs.Vec.Iter.{into_iter_items, into_iter_len}
use Rattle.mely_actor.specs.Received.{AreMade}
use Rattle.mely_actor.proofs.running.make_states.Given as goal

abbrev pub invariant-values : goal.invariant-values
invariant-values g l = record {
  split : l.yielded ++ into_iter_items l.value-iterator ≡ l.fn.values.items;
  left : into_iter_len l.value-iterator ≡ length (into_iter_items l.value-iterator);
  number : l.number ≡ length l.yielded;
  made : AreMade g.A.Actor l.plan l.number l.states.items;
  values : map (λ state. state.value) l.states.items ≡ l.yielded;
}
