use Rattle.std.proofs.Common.{◌≡◌, ℕ, Some, length}
use Rattle.std.specs.Prelude.{slice_get}
use Rattle.mely_net.proofs.fresh.begin_cells.Given as goal

abbrev pub invariant-cells : goal.invariant-cells
invariant-cells g l = record {
  many : length l.cells.items ≡ l.cell;
  begin : (cell : ℕ) (value : _) → slice_get l.cells.items cell ≡ Some value → (g.S.Service.rules_of l.service).Begins cell value;
}
