use Rattle.sws_net.specs.Initial.{IsOpen}
use Rattle.test_swsd.proofs.tests.slow.take_while_written.Given as goal

abbrev pub invariant-pieces : goal.invariant-pieces
invariant-pieces g l = IsOpen l.link
