use Rattle.sws_link.specs.declared.Put.TheVariants as put
use Rattle.sws_top.specs.Checked.{report_text}
use Rattle.sws_top.proofs.ServeLemmas.{text_written}
use Rattle.sws_top.proofs.checked.write_report.Goals as goal

pub returns-in-Done : goal.returns-in-Done
returns-in-Done g c =
    text_written g.O.Sink c.args.out.now c.put_report.new.out put.Done (report_text c.args.report.now)
    c.in-Done.ensures.text c.in-Done.ensures.cause

pub returns-in-Failed : goal.returns-in-Failed
returns-in-Failed g c =
    text_written g.O.Sink c.args.out.now c.put_report.new.out put.Failed (report_text c.args.report.now)
    c.in-Failed.ensures.text c.in-Failed.ensures.cause

pub returns-in-Memory : goal.returns-in-Memory
returns-in-Memory g c =
    text_written g.O.Sink c.args.out.now c.put_report.new.out put.Memory (report_text c.args.report.now)
    c.in-Memory.ensures.text c.in-Memory.ensures.cause
