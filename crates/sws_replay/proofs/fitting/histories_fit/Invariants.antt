use Rattle.std.specs.Prelude.{map, take}
use Rattle.std.specs.List.{AllByRecursion}
use Rattle.mely_check.specs.Journals.{IsFitHistory}
use Rattle.sws_replay.proofs.fitting.histories_fit.Given as goal

abbrev pub invariant-loop-history : goal.invariant-loop-history
invariant-loop-history l =
    AllByRecursion IsFitHistory (map (λ history. history.items) (take l.history-index l.histories))
