use Rattle.std.proofs.Common.{◌≡◌, false}
use Rattle.test_server.proofs.tests.connections.leaves.Given as goal

abbrev pub invariant-turns : goal.invariant-turns
invariant-turns l = l.link.shut ≡ false
