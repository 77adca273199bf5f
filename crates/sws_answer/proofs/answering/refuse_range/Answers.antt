use Rattle.std.proofs.Common.{length, refl, ap, ◌∙◌}
use Rattle.sws_site.specs.Fixed.{fixed_body}
use Rattle.sws_site.specs.ResponseHeads.{head_text}
use Rattle.sws_parts.specs.Parts.{PartsState}
use Rattle.sws_answer.specs.Answers.{response}
use Rattle.sws_answer.proofs.RangeLemmas.{no_part_head, no_part_head-short}
use Rattle.sws_answer.proofs.answering.refuse_range.Goals as goal

pub write_head-head-requires : goal.write_head-head-requires
write_head-head-requires c = no_part_head-short c.options.result.now c.args.closes c.http_date.result.now (length c.body.result.now) c.body.ensures.within

pub returns : goal.returns
unfolding response fixed_body head_text
returns c = record {
  code = c.code.ensures;
  closes = refl;
  head = ap (λ (p : PartsState). p.head) c.own.ensures ∙ c.write_head-head.ensures
      ∙ ap (λ options. head_text (no_part_head options c.args.closes c.http_date.result.now (length c.body.result.now))) c.options.ensures
      ∙ ap (λ date. head_text (no_part_head c.args.site.now.options c.args.closes date (length c.body.result.now))) c.http_date.ensures
      ∙ ap (λ bytes. head_text (no_part_head c.args.site.now.options c.args.closes c.args.site.now.date (length bytes))) c.body.ensures.contents;
  body = ap (λ (p : PartsState). p.body) c.own.ensures ∙ c.content.ensures;
}
