use Rattle.std.proofs.Common.{◌≤◌}
use Rattle.sws_net.proofs.signs.Signs.first_due.Given as goal

abbrev pub invariant-loop-conn : goal.invariant-loop-conn
invariant-loop-conn l = l.until ≤ 1000
