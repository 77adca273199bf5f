use Rattle.test_fleet.proofs.RowLemmas.{tally_words, may_still}
use Rattle.test_fleet.proofs.tests.calls.take_meanwhile.Goals as goal

pub returns-in-Err-clause-turn : goal.returns-in-Err-clause-turn
returns-in-Err-clause-turn g c = may_still tally_words (λ f c e l. Unit {0}) c.args.fleet.now c.args.own.now c.take.new.passes c.take.ensures.same.0 _ c.take.result c.take.ensures.sees c.args.turn.now c.requires.turn

pub returns-in-Ok-clause-turn : goal.returns-in-Ok-clause-turn
returns-in-Ok-clause-turn g c = may_still tally_words (λ f c e l. Unit {0}) c.args.fleet.now c.args.own.now c.take.new.passes c.take.ensures.same.0 _ c.take.result c.take.ensures.sees c.args.turn.now c.requires.turn
