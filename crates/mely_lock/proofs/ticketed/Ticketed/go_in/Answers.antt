use Rattle.std.proofs.Common.{◌∙◌}
use Rattle.mely_lock.proofs.ticketed.Ticketed.go_in.Goals as goal

pub wait_in-requires-clause-outside : goal.wait_in-requires-clause-outside
wait_in-requires-clause-outside g c = let t = c.requires.outside in (t.0, c.in-None.ensures.refused ∙ t.1, t.2)

pub returns-in-None-clause-entered : goal.returns-in-None-clause-entered
returns-in-None-clause-entered g c = λ d e. c.wait_in.ensures.entered d (c.in-None.ensures.refused ∙ e)
