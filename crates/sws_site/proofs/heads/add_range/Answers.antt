use Rattle.sws_site.proofs.HeadLemmas.{range_line}
use Rattle.sws_site.proofs.heads.add_range.Goals as goal

pub returns-in-Some : goal.returns-in-Some
returns-in-Some c = range_line c.put-in-Some.new.self c.put_range.new.head c.put.new.self c.args.head.now c.args.has_range c.args.range.now c.in-Some.range
    c.if-not-has_range.false c.in-Some.is c.put.ensures c.put_range.ensures c.put-in-Some.ensures
