use Rattle.std.proofs.Common.{length}
use Rattle.sws_script.proofs.StandingLemmas.{Stands}
use Rattle.sws_script.proofs.parsing.read_lines.Given as goal

abbrev pub invariant-lines : goal.invariant-lines
invariant-lines l = Stands l.schedule l.cores l.text l.rest l.line l.parser

abbrev pub decreases-lines : goal.decreases-lines
decreases-lines l = length l.rest
