use Rattle.std.proofs.Common.{◌≡◌}
use Rattle.test_weave.proofs.tests.weaves.play.Given as goal

abbrev pub invariant-parts : goal.invariant-parts
invariant-parts l = l.weave.setup ≡ l.fn.setup
