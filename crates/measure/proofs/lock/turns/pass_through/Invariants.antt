use Rattle.mely_lock.specs.Words.{IsPassOf, IsOutside}
use Rattle.measure.proofs.lock.turns.pass_through.Given as goal

abbrev pub invariant-loop-turn : goal.invariant-loop-turn
invariant-loop-turn g l = IsPassOf (λ b. tt) l.lock l.pass × IsOutside l.pass
