use Rattle.sws_request.proofs.CutLemmas.{cut_of-append}
use Rattle.sws_request.proofs.head.cut_is_stable.Goals as goal

pub returns : goal.returns
returns c = cut_of-append
