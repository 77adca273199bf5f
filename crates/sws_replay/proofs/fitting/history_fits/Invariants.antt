use Rattle.std.specs.Prelude.{take}
use Rattle.std.specs.List.{AllByRecursion}
use Rattle.mely_check.specs.Journals.{IsFit}
use Rattle.sws_replay.proofs.fitting.history_fits.Given as goal

abbrev pub invariant-loop-entry : goal.invariant-loop-entry
invariant-loop-entry l = AllByRecursion IsFit (take l.entry-index l.history)
