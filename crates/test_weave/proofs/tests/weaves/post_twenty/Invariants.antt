use Rattle.std.proofs.Common.{◌≡◌}
use Rattle.test_weave.proofs.tests.weaves.post_twenty.Given as goal

abbrev pub invariant-loop-arg : goal.invariant-loop-arg
invariant-loop-arg l = l.weave.setup ≡ l.fn.weave.setup
