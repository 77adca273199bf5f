use Rattle.std.proofs.Common.{◌≡◌, length}
use Rattle.example_redis.proofs.saved.no_cells.Given as goal

abbrev pub invariant-cells : goal.invariant-cells
invariant-cells l = length l.cells.items ≡ l.counter
