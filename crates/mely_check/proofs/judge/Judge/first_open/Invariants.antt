use Rattle.mely_check.specs.Judges.{AreDrainedBelow}
use Rattle.mely_check.proofs.judge.Judge.first_open.Given as goal

abbrev pub invariant-loop-colour : goal.invariant-loop-colour
invariant-loop-colour l = AreDrainedBelow l.self.watches.items l.colour
