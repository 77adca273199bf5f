use Rattle.std.proofs.Common.{◌≡◌, take}
use Rattle.std.specs.Prelude.{flat_map}
use Rattle.example_redis.specs.Saved.{saved_cell}
use Rattle.example_redis.proofs.saved.save.Given as goal

abbrev pub invariant-cells : goal.invariant-cells
invariant-cells l = l.out.items ≡ flat_map (saved_cell l.now) (take l.cell-index l.cells)
