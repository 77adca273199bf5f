use Rattle.sws_log.proofs.BriefLemmas.{made, is_brief, shows_front}
use Rattle.sws_log.proofs.brief.Brief.of.Goals as goal

pub invariant_of-result : goal.invariant_of-result
invariant_of-result c =
    is_brief c.args.bytes.now c.put_front.new.kept c.min-len.result
    (made c.args.bytes.now c.put_front.new.kept c.min-len.result c.min-len.ensures c.put_front.ensures)

pub returns : goal.returns
returns c =
    shows_front c.args.bytes.now c.put_front.new.kept c.min-len.result c.min-len.ensures
    (made c.args.bytes.now c.put_front.new.kept c.min-len.result c.min-len.ensures c.put_front.ensures)
