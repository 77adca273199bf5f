use Rattle.sws_answer.proofs.ResponseLemmas.{responses_of-append}
use Rattle.sws_answer.proofs.laws.responses_only_grow.Goals as goal

pub returns : goal.returns
returns c = responses_of-append
