use Rattle.std.proofs.Common.{◌≡◌, ◌≤◌, ◌+◌, ◌++◌, true, length, map, vec_len, vec_capacity}
use Rattle.std.specs.Vec.Iter.{into_iter_items, into_iter_len}
use Rattle.std.specs.List.{AllByRecursion}
use Rattle.sws_replay.proofs.writing.lists_of.Given as goal

abbrev pub invariant-loop-history : goal.invariant-loop-history
invariant-loop-history l = record {
  split : l.yielded ++ into_iter_items l.history-iterator ≡ l.fn.histories.items;
  left : into_iter_len l.history-iterator ≡ length (into_iter_items l.history-iterator);
  room : vec_len l.lists + length (into_iter_items l.history-iterator) ≤ vec_capacity l.lists;
  listed : AllByRecursion (λ history. history.listed ≡ true) (into_iter_items l.history-iterator);
  lists : map (λ list. list.items) l.lists.items ≡ map (λ history. history.items) l.yielded;
}
