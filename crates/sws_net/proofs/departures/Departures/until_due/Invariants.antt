use Rattle.std.proofs.Common.{◌≤◌}
use Rattle.sws_net.proofs.departures.Departures.until_due.Given as goal

abbrev pub invariant-loop-departure : goal.invariant-loop-departure
invariant-loop-departure l = l.until ≤ 1000
