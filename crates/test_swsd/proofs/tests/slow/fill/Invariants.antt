use Rattle.sws_net.specs.Initial.{IsOpen}
use Rattle.test_swsd.proofs.tests.slow.fill.Given as goal

abbrev pub invariant-pieces : goal.invariant-pieces
invariant-pieces l = IsOpen l.link
