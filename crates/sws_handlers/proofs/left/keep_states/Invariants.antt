use Rattle.std.proofs.Common.{◌≡◌, ◌≤◌, ◌+◌, ◌++◌, length, vec_len, vec_capacity}
use Rattle.std.specs.Vec.Iter.{into_iter_items, into_iter_len}
use Rattle.std.specs.List.{AllByRecursion}
use Rattle.sws_handlers.specs.RunLeaves.{StateTells, talkers}
use Rattle.sws_handlers.specs.LeftKept.{KeepsStates}
use Rattle.sws_handlers.proofs.left.keep_states.Given as goal

abbrev pub invariant-loop-place : goal.invariant-loop-place
invariant-loop-place g l = record {
  split : l.yielded ++ into_iter_items l.place-iterator ≡ l.fn.states.items;
  left : into_iter_len l.place-iterator ≡ length (into_iter_items l.place-iterator);
  served : vec_len l.left.served + length (talkers (into_iter_items l.place-iterator)) ≤ vec_capacity l.left.served;
  trails : vec_len l.left.trails + length (into_iter_items l.place-iterator) ≤ vec_capacity l.left.trails;
  kept : KeepsStates g.T.Talk l.yielded l.initial.left l.left;
  tell : AllByRecursion (StateTells g.W.World g.W.Link.Link g.T.Talk) l.yielded;
}
