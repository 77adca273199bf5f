use Rattle.mely_check.proofs.HearingLemmas.{drained_more}
use Rattle.mely_check.proofs.judge.Judge.first_open.Goals as goal

pub loop-colour-preserved : goal.loop-colour-preserved
loop-colour-preserved c = drained_more c.args.self.now.watches.items c.loop-colour.colour c.loop-colour.invariant c.if-not-is_drained.ensures
