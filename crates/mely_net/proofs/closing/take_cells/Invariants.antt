use Rattle.std.proofs.Common.{◌≡◌, ◌≤◌, ◌+◌, ◌++◌, length, vec_len, vec_capacity}
use Rattle.std.specs.Vec.Iter.{into_iter_items, into_iter_len}
use Rattle.mely_net.specs.Runs.{cells_in}
use Rattle.mely_net.proofs.closing.take_cells.Given as goal

abbrev pub invariant-parts : goal.invariant-parts
invariant-parts g l = record {
  split : l.yielded ++ into_iter_items l.part-iterator ≡ l.fn.parts.items;
  left : into_iter_len l.part-iterator ≡ length (into_iter_items l.part-iterator);
  room : vec_len l.cells + length (into_iter_items l.part-iterator) ≤ vec_capacity l.cells;
  taken : l.cells.items ≡ cells_in l.yielded;
}
