use Rattle.mely_shard.proofs.TurnLemmas.{turn_stays, turn_registered}
use Rattle.test_runtime.proofs.tests.shards.register_meanwhile.Goals as goal

pub returns-in-Ok-clause-stands : goal.returns-in-Ok-clause-stands
returns-in-Ok-clause-stands c = turn_registered c.register.ensures.frame _ _ _ c.history-history.ensures.kept.legal c.in-Ok.ensures.ok.after.history c.requires.stands

pub returns-in-Err-clause-stands : goal.returns-in-Err-clause-stands
returns-in-Err-clause-stands c = turn_stays c.register.ensures.frame c.in-Err.ensures.err.history c.requires.stands
