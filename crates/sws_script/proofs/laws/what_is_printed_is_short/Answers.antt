use Rattle.sws_script.proofs.ShortLemmas.{printed-short}
use Rattle.sws_script.proofs.laws.what_is_printed_is_short.Goals as goal

pub returns : goal.returns
returns c = printed-short
