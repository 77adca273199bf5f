use Rattle.sws_proxy.proofs.MoreLemmas.{more_same}
use Rattle.sws_proxy.proofs.laws.more_bytes_change_nothing.Goals as goal

pub returns : goal.returns
returns c = more_same
