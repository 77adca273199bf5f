use Rattle.std.proofs.Common.{◌∙◌}
use Rattle.mely_picture.proofs.DrawingLemmas.{draws_ok, runs_refused}
use Rattle.mely_picture.proofs.drawing.draw_journal.Goals as goal

pub returns-in-Ok-clause-draws : goal.returns-in-Ok-clause-draws
returns-in-Ok-clause-draws g c =
    draws_ok (g.R.Source.left c.args.source.now) (g.O.Sink.written c.args.sink.now) (g.O.Sink.written c.write_picture.new.sink) c.write_picture.result c.args.setup.now c.hear_journal.new.listener c.hear_journal.result
    c.in-Ok.field-0 c.in-Ok.is c.hear_journal.ensures.heard (c.hear_journal.ensures.frame ∙ c.new-drawer.ensures.setup) c.write_picture.ensures.draws

pub returns-in-Err-clause-runs : goal.returns-in-Err-clause-runs
returns-in-Err-clause-runs g c = runs_refused c.args.setup.now (g.R.Source.left c.args.source.now) c.hear_journal.result c.in-Err.fault c.in-Err.is c.hear_journal.ensures.accepts
