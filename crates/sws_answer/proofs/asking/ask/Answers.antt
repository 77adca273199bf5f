use Rattle.sws_answer.proofs.AnswerLemmas.{asked_by-request, asked_by-none}
use Rattle.sws_answer.proofs.asking.ask.Goals as goal

pub returns-in-Ok : goal.returns-in-Ok
returns-in-Ok c = asked_by-request c.args.head.now c.in-Ok.request c.in-Ok.ensures.request

pub returns-in-Err : goal.returns-in-Err
returns-in-Err c = asked_by-none c.args.head.now c.in-Err.ensures.refused
