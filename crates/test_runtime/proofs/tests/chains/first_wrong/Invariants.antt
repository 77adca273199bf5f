use Rattle.std.proofs.Common.{◌≡◌}
use Rattle.test_runtime.proofs.tests.chains.first_wrong.Given as goal

abbrev pub invariant-calls : goal.invariant-calls
invariant-calls l = l.queue.colours ≡ 4
