use Rattle.std.proofs.Common.{◌∙◌}
use Rattle.mely_lock.proofs.ticketed.Ticketed.wait_in.Goals as goal

pub try_enter-entered-requires-clause-outside : goal.try_enter-entered-requires-clause-outside
try_enter-entered-requires-clause-outside g c = let t = c.requires.outside in (t.0, c.loop.invariant.1 ∙ t.1, t.2)

pub returns-in-Some-entered-clause-entered : goal.returns-in-Some-entered-clause-entered
returns-in-Some-entered-clause-entered g c = λ d e. let entered = rw c.in-Some-entered.is at c.try_enter-entered.ensures.entered in entered d (c.loop.invariant.1 ∙ e)
