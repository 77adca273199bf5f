use Rattle.std.proofs.Common.{◌≡◌}
use Rattle.test_runtime.proofs.tests.chains.pick_all.Given as goal

abbrev pub invariant-colours : goal.invariant-colours
invariant-colours l = l.queue.colours ≡ 65536
