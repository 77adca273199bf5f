use Rattle.sws_answer.proofs.AnsweredLemmas.{head-some, closes-last, closes-too_long}
use Rattle.sws_answer.proofs.LengthLemmas.{answer_of-short}
use Rattle.sws_answer.proofs.laws.every_answer.Goals as goal

pub returns-clause-head : goal.returns-clause-head
returns-clause-head c = head-some

pub returns-clause-last : goal.returns-clause-last
returns-clause-last c = closes-last

pub returns-clause-too_long : goal.returns-clause-too_long
returns-clause-too_long c = closes-too_long

pub returns-clause-short : goal.returns-clause-short
returns-clause-short c = answer_of-short
