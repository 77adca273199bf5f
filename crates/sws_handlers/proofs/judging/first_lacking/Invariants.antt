use Rattle.sws_handlers.specs.RunLeaves.{AreWhole, lines_kept}
use Rattle.sws_handlers.proofs.judging.first_lacking.Given as goal

abbrev pub invariant-loop-conn : goal.invariant-loop-conn
invariant-loop-conn g l = AreWhole (lines_kept l.log l.lines) l.served l.conn
