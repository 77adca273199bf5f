use Rattle.std.proofs.Common.{◌≡◌, ◌++◌, Option, sym, subst}
use Rattle.sws_log.specs.Lines.{log_text}
use Rattle.sws_top.specs.declared.faults.TopFault.{TopFault}
use Rattle.sws_top.specs.RanServe.{summary_of, EndsBy}
use Rattle.sws_top.specs.Texts.{WritesText}
use Rattle.sws_top.proofs.ServeLemmas.{text_written}
use Rattle.sws_top.proofs.serving.write_end.Goals as goal

pub returns-in-Ok : goal.returns-in-Ok
returns-in-Ok g c =
    let o = g.O.Sink in
    let lines = c.args.lines.now in
    let served = c.args.served.now in
    subst (EndsBy o c.args.out.now c.write_all.new.out c.put_fault.result lines served) (sym c.in-Ok.is)
    (subst (λ (fault : Option TopFault). WritesText o c.args.out.now c.write_all.new.out fault (λ text. text ≡ log_text lines ++ summary_of served)) (sym c.put_fault.ensures)
    (text_written o c.args.out.now c.write_all.new.out c.write_all.result (log_text lines ++ summary_of served) c.write_all.ensures.text c.write_all.ensures.cause))
