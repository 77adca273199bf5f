use Rattle.std.proofs.Common.{ap, subst, ◌∙◌}
use Rattle.std.specs.Prelude.{IfOk, OnErr}
use Rattle.sws_request.specs.Request.{IsRequest, IsNoRequest}
use Rattle.sws_answer.specs.Asked.{Asked, request, not_request}
use Rattle.sws_answer.specs.Answers.{answer_of, target_of}
use Rattle.sws_answer.specs.AnswerValues.{Sends, sent_as}
use Rattle.sws_answer.proofs.AnswerLemmas.{asked_by-request, asked_by-none}
use Rattle.sws_answer.proofs.answering.answer_head.Goals as goal

pub returns-in-Ok-clause-answer : goal.returns-in-Ok-clause-answer
returns-in-Ok-clause-answer c =
    let is = subst (λ r. IfOk r (λ v. IsRequest c.args.head.now v)) c.in-Ok.is c.view_in.ensures.request in
    let s = c.answer_request-answered.ensures in
    let sends : Sends (sent_as c.answer_request-answered.result c.answer_request-answered.new.parts) (answer_of c.args.site.now (request c.in-Ok.request) c.args.last) =
    record { code = s.code; closes = s.closes; head = s.head; body = s.body } in
    subst (λ (a : Asked). Sends (sent_as c.answer_request-answered.result c.answer_request-answered.new.parts) (answer_of c.args.site.now a c.args.last))
    (asked_by-request c.args.head.now c.in-Ok.request is) sends

pub returns-in-Ok-clause-target : goal.returns-in-Ok-clause-target
returns-in-Ok-clause-target c =
    let is = subst (λ r. IfOk r (λ v. IsRequest c.args.head.now v)) c.in-Ok.is c.view_in.ensures.request in
    c.target.ensures ∙ ap target_of (asked_by-request c.args.head.now c.in-Ok.request is)

pub returns-in-Err-clause-answer : goal.returns-in-Err-clause-answer
returns-in-Err-clause-answer c =
    let none = subst (λ r. OnErr r (IsNoRequest c.args.head.now)) c.in-Err.is c.view_in.ensures.refused in
    let s = c.refuse-answered.ensures in
    let sends : Sends (sent_as c.refuse-answered.result c.refuse-answered.new.parts) (answer_of c.args.site.now not_request c.args.last) =
    record { code = s.code; closes = s.closes; head = s.head; body = s.body } in
    subst (λ (a : Asked). Sends (sent_as c.refuse-answered.result c.refuse-answered.new.parts) (answer_of c.args.site.now a c.args.last))
    (asked_by-none c.args.head.now none) sends

pub returns-in-Err-clause-target : goal.returns-in-Err-clause-target
returns-in-Err-clause-target c =
    let none = subst (λ r. OnErr r (IsNoRequest c.args.head.now)) c.in-Err.is c.view_in.ensures.refused in
    ap target_of (asked_by-none c.args.head.now none)
