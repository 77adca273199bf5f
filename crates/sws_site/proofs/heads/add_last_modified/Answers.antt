use Rattle.std.specs.Prelude.{codes}
use Rattle.httpdate.specs.Date.{date_text}
use Rattle.sws_site.proofs.HeadLemmas.{one_line, date_line}
use Rattle.sws_site.proofs.heads.add_last_modified.Goals as goal

pub returns-in-Some : goal.returns-in-Some
returns-in-Some c = date_line c.add_line.new.head c.args.head.now c.args.is_dated c.args.date.now c.in-Some.date c.if-not-is_dated.false c.in-Some.is
    (one_line c.add_line.new.head c.args.head.now (codes "Last-Modified: ") c.to_bytes.result (date_text c.in-Some.date) c.add_line.ensures c.to_bytes.ensures)
