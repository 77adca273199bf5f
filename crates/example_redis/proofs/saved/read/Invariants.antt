use Rattle.std.proofs.Common.{◌≡◌, ◌≤◌, length}
use Rattle.example_redis.specs.declared.limits.TheConstants.{CELLS}
use Rattle.example_redis.proofs.saved.read.Given as goal

abbrev pub invariant-requests : goal.invariant-requests
invariant-requests l = record {
  within : l.from ≤ length l.bytes;
  many : length l.cells.items ≡ CELLS;
}
