use Rattle.std.proofs.Common.{◌≡◌, length, take}
use Rattle.sws_handlers.specs.LogTurns.{AreLastTurns}
use Rattle.sws_handlers.proofs.judging.number_lines.Given as goal

abbrev pub invariant-loop-line : goal.invariant-loop-line
invariant-loop-line l = AreLastTurns (take l.line-index l.lines) l.turns × (length l.turns ≡ length l.initial.turns)
