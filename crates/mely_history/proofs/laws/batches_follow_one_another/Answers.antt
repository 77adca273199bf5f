use Rattle.mely_history.proofs.BatchLemmas.{follow_one_another}
use Rattle.mely_history.proofs.laws.batches_follow_one_another.Goals as goal

pub returns : goal.returns
returns c = follow_one_another c.args.setup.now c.args.history.now c.requires
