use Rattle.std.proofs.Common.{refl, [], ap, ◌∙◌}
use Rattle.sws_parts.specs.Parts.{PartsState}
use Rattle.std.specs.Prelude.{if◌then◌else◌}
use Rattle.sws_answer.specs.Answers.{response}
use Rattle.sws_answer.proofs.AnswerLemmas.{response-refusal_head, response-refusal_body}
use Rattle.sws_answer.proofs.answering.refuse.Goals as goal

pub returns : goal.returns
unfolding response
returns c = record {
  code = c.code.ensures;
  closes = refl;
  head = ap (λ (p : PartsState). p.head) c.lend.ensures ∙ c.refusal.ensures.head ∙ response-refusal_head c.args.site.now c.args.status c.args.closes c.args.is_head c.requires;
  body = ap (λ (p : PartsState). p.body) c.lend.ensures ∙ c.content.ensures ∙ ap (λ body. if c.args.is_head then [] else body) c.refusal.ensures.body
      ∙ response-refusal_body c.args.site.now c.args.status c.args.closes c.args.is_head c.requires;
}
