use Rattle.mely_check.specs.Judges.{AreInitialWatches}
use Rattle.mely_check.proofs.judge.initial_watches.Given as goal

abbrev pub invariant-loop-colour : goal.invariant-loop-colour
invariant-loop-colour l = AreInitialWatches l.setup l.colour l.watches.items
