use Rattle.std.proofs.Common.{◌≤◌}
use Rattle.sws_daemon.proofs.keeper.rest_after.Given as goal

abbrev pub invariant-failures : goal.invariant-failures
invariant-failures l = l.rest ≤ 3200
