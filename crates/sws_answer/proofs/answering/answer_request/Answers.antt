use Rattle.std.proofs.Common.{true, sym, subst, ap, ◌∙◌, None, refl}
use Rattle.sws_site.specs.declared.statuses.Status.TheVariants.{BadRequest, MethodNotAllowed, NotImplemented}
use Rattle.sws_answer.specs.declared.ranges.Selection.TheVariants.{Whole}
use Rattle.sws_answer.specs.Answers.{response}
use Rattle.sws_answer.specs.Cases.{is_one_of, other_methods, file_methods}
use Rattle.sws_answer.specs.Targets.{path_and_query}
use Rattle.sws_answer.specs.AnswerValues.{Sends, sent_as}
use Rattle.sws_answer.proofs.AnswerLemmas.{answer-no_host, answer-other_method, answer-unknown_method, answer-other_form, Sends-with, Sends-named, mapped_none}
use Rattle.sws_answer.proofs.answering.answer_request.Goals as goal

pub returns-then-is_refused : goal.returns-then-is_refused
returns-then-is_refused c = subst (Sends (sent_as c.refuse.result c.refuse.new.parts))
    (answer-no_host c.args.site.now c.args.request.now c.args.last (sym c.is_refused.ensures ∙ c.if-is_refused.true))
    (Sends-with (sent_as c.refuse.result c.refuse.new.parts) (response c.args.site.now BadRequest None Whole) true true _ _ refl c.leaves_content_out-is_head.ensures c.refuse.ensures)

pub returns-then-is_other_method : goal.returns-then-is_other_method
returns-then-is_other_method c = subst (Sends (sent_as c.refuse-then-is_other_method.result c.refuse-then-is_other_method.new.parts))
    (answer-other_method c.args.site.now c.args.request.now c.args.last (sym c.is_refused.ensures ∙ c.if-is_refused.false)
    (ap (is_one_of other_methods) (sym c.method.ensures) ∙ sym c.is_other_method.ensures ∙ c.if-is_other_method.true))
    (Sends-with (sent_as c.refuse-then-is_other_method.result c.refuse-then-is_other_method.new.parts) (response c.args.site.now MethodNotAllowed None Whole) _ _ _ _ c.closes_after-closes.ensures c.leaves_content_out-is_head.ensures c.refuse-then-is_other_method.ensures)

pub returns-then-not-is_file_method : goal.returns-then-not-is_file_method
returns-then-not-is_file_method c = subst (Sends (sent_as c.refuse-then-not-is_file_method.result c.refuse-then-not-is_file_method.new.parts))
    (answer-unknown_method c.args.site.now c.args.request.now c.args.last (sym c.is_refused.ensures ∙ c.if-is_refused.false)
    (ap (is_one_of other_methods) (sym c.method.ensures) ∙ sym c.is_other_method.ensures ∙ c.if-is_other_method.false)
    (ap (is_one_of file_methods) (sym c.method-2.ensures) ∙ sym c.is_file_method.ensures ∙ c.if-not-is_file_method.true))
    (Sends-with (sent_as c.refuse-then-not-is_file_method.result c.refuse-then-not-is_file_method.new.parts) (response c.args.site.now NotImplemented None Whole) _ _ _ _ c.closes_after-closes.ensures c.leaves_content_out-is_head.ensures c.refuse-then-not-is_file_method.ensures)

pub returns-in-Some : goal.returns-in-Some
returns-in-Some c = Sends-named (sent_as c.answer_path.result c.answer_path.new.parts) c.args.site.now c.args.request.now c.args.last _ _ c.target.result.now c.in-Some.rest.now c.path_part.result.now
    (sym c.is_refused.ensures ∙ c.if-is_refused.false)
    (ap (is_one_of other_methods) (sym c.method.ensures) ∙ sym c.is_other_method.ensures ∙ c.if-is_other_method.false)
    (ap (is_one_of file_methods) (sym c.method-2.ensures) ∙ sym c.is_file_method.ensures ∙ c.if-not-is_file_method.false)
    c.closes_after-closes.ensures c.leaves_content_out-is_head.ensures c.target.ensures c.in-Some.ensures.rest c.path_part.ensures.path c.answer_path.ensures

pub returns-in-None : goal.returns-in-None
returns-in-None c = subst (Sends (sent_as c.refuse-in-None.result c.refuse-in-None.new.parts))
    (answer-other_form c.args.site.now c.args.request.now c.args.last (sym c.is_refused.ensures ∙ c.if-is_refused.false)
    (ap (is_one_of other_methods) (sym c.method.ensures) ∙ sym c.is_other_method.ensures ∙ c.if-is_other_method.false)
    (ap (is_one_of file_methods) (sym c.method-2.ensures) ∙ sym c.is_file_method.ensures ∙ c.if-not-is_file_method.false)
    (ap path_and_query (sym c.target.ensures) ∙ mapped_none (path_and_query c.target.result.now) c.in-None.ensures.rest))
    (Sends-with (sent_as c.refuse-in-None.result c.refuse-in-None.new.parts) (response c.args.site.now BadRequest None Whole) true true _ _ refl c.leaves_content_out-is_head.ensures c.refuse-in-None.ensures)
