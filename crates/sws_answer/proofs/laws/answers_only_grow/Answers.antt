use Rattle.sws_answer.proofs.ResponseLemmas.{answers_to-append}
use Rattle.sws_answer.proofs.laws.answers_only_grow.Goals as goal

pub returns : goal.returns
returns c = answers_to-append
