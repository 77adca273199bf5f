use Rattle.sws_net.specs.Initial.{IsOpen}
use Rattle.test_swsd.proofs.tests.slow.answered_of_three.Given as goal

abbrev pub invariant-asks : goal.invariant-asks
invariant-asks g l = IsOpen l.link
