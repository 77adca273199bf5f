use Rattle.std.proofs.Common.{◌≡◌, ◌+◌, ◌++◌, length}
use Rattle.std.specs.Vec.Iter.{into_iter_items, into_iter_len}
use Rattle.mely_net.specs.Parts.{AreFresh}
use Rattle.mely_net.proofs.fresh.make_parts.Given as goal

abbrev pub invariant-cells : goal.invariant-cells
invariant-cells g l = record {
  split : l.yielded ++ into_iter_items l.cell-iterator ≡ l.fn.cells.items;
  left : into_iter_len l.cell-iterator ≡ length (into_iter_items l.cell-iterator);
  many : length l.parts.items ≡ length l.yielded + 1;
  fresh : AreFresh l.fn.cells.items l.parts.items;
}
