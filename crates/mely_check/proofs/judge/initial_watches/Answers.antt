use Rattle.mely_check.proofs.HearingLemmas.{initial_more}
use Rattle.mely_check.proofs.judge.initial_watches.Goals as goal

pub loop-colour-preserved : goal.loop-colour-preserved
loop-colour-preserved c = initial_more c.args.setup.now c.loop-colour.colour c.loop-colour.watches.items c.push.new.self.items c.new.result c.loop-colour.invariant c.new.ensures c.in_ok-push.ensures.items
