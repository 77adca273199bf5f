use Rattle.std.proofs.Common.{◌≡◌, false}
use Rattle.test_server.proofs.tests.links.takes_so.Given as goal

abbrev pub invariant-writes : goal.invariant-writes
invariant-writes g l = g.L.Link.is_shut l.link ≡ false
