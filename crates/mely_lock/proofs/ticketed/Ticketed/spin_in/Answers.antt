use Rattle.std.proofs.Common.{◌∙◌}
use Rattle.mely_lock.proofs.ticketed.Ticketed.spin_in.Goals as goal

pub try_enter-requires-clause-outside : goal.try_enter-requires-clause-outside
try_enter-requires-clause-outside g c = let t = c.requires.outside in (t.0, c.loop-look.invariant.1 ∙ t.1, t.2)

pub returns-in-Some-clause-entered : goal.returns-in-Some-clause-entered
returns-in-Some-clause-entered g c = λ d e. c.in-Some.ensures.entered d (c.loop-look.invariant.1 ∙ e)
