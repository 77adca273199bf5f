use Rattle.std.proofs.Common.{◌≡◌, false}
use Rattle.test_server.proofs.tests.links.gives_so.Given as goal

abbrev pub invariant-reads : goal.invariant-reads
invariant-reads g l = g.L.Link.is_shut l.link ≡ false
