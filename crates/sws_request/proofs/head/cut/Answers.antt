use Rattle.std.proofs.Common.{[], sym}
use Rattle.sws_request.proofs.CutLemmas.{IsCutOf-cut_of}
use Rattle.sws_request.proofs.head.cut.Goals as goal

pub returns-clause-cut : goal.returns-clause-cut
returns-clause-cut c = IsCutOf-cut_of c.args.bytes.now c.scan.result.0 (sym (c.scan.ensures.cut [] c.start.ensures.stands))
