use Rattle.std.proofs.Common.{◌≡◌, false}
use Rattle.test_swsd.proofs.tests.heads.plays.Given as goal

abbrev pub invariant-calls : goal.invariant-calls
invariant-calls l = l.link.socket.is_shut ≡ false
