use Rattle.std.proofs.Common.{◌≤◌}
use Rattle.test_server.proofs.tests.links.worlds.plays.Given as goal

abbrev pub invariant-calls : goal.invariant-calls
invariant-calls g l = (g.W.World.tells l.world).accepted ≤ l.reads
