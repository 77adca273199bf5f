use Rattle.mely_check.proofs.EndLemmas.{accepts, exact}
use Rattle.mely_check.proofs.checking.hear_journal.Goals as goal

pub returns-clause-accepts : goal.returns-clause-accepts
returns-clause-accepts g c = accepts c.args.setup.now (g.R.Source.left c.args.source.now) c.find.result c.find.ensures.finds

pub returns-clause-exact : goal.returns-clause-exact
returns-clause-exact g c = exact c.args.setup.now (g.R.Source.left c.args.source.now) c.find.result c.find.ensures.finds
