use Rattle.std.proofs.Common.{◌≡◌}
use Rattle.test_runtime.proofs.tests.chains.goes_round.Given as goal

abbrev pub invariant-rounds : goal.invariant-rounds
invariant-rounds l = l.queue.colours ≡ 65536
