use Rattle.std.proofs.Common.{take}
use Rattle.mely_history.specs.ColourCounts.{Tells}
use Rattle.mely_history.proofs.JudgeLemmas.{AreAllowed}
use Rattle.mely_history.proofs.judging.first_fault.Given as goal

abbrev pub invariant-loop-at : goal.invariant-loop-at
invariant-loop-at l = record {
  tells : Tells l.setup (take l.at l.history) l.colour l.counts;
  allowed : AreAllowed l.setup l.history l.colour l.at;
}
