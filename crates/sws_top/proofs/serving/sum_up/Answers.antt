use Rattle.std.proofs.Common.{◌∙◌}
use Rattle.sws_top.specs.RanServe.{summary_of}
use Rattle.sws_top.proofs.ServeLemmas.{nothing_put, summary_put}
use Rattle.sws_top.proofs.serving.sum_up.Goals as goal

pub returns-in-Err-clause-text : goal.returns-in-Err-clause-text
returns-in-Err-clause-text g c = nothing_put (g.O.Sink.written c.args.out.now) (summary_of c.args.served.now)

pub returns-in-Ok-clause-text : goal.returns-in-Ok-clause-text
returns-in-Ok-clause-text g c =
    summary_put c.args.served.now c.deref.result.now c.read_of.result c.written_of.result
    (g.O.Sink.written c.args.out.now) (g.O.Sink.written c.write_summary.new.sink) c.write_summary.result
    (c.deref.ensures.value ∙ c.in-Ok.ensures) c.read_of.ensures c.written_of.ensures c.write_summary.ensures.text
