use Rattle.std.proofs.Common.{refl, ap, ◌∙◌}
use Rattle.sws_parts.specs.Parts.{PartsState}
use Rattle.sws_site.specs.Files.{not_modified_head}
use Rattle.sws_site.specs.ResponseHeads.{head_text}
use Rattle.sws_answer.specs.Answers.{response}
use Rattle.sws_answer.proofs.answering.say_not_modified.Goals as goal

pub returns : goal.returns
unfolding response not_modified_head head_text
returns c = λ selection. record {
  code = c.code.ensures;
  closes = refl;
  head = ap (λ (p : PartsState). p.head) c.lend.ensures ∙ c.head-head.ensures
      ∙ ap (λ date. not_modified_head c.args.page.now.options date c.args.page.now.file c.args.closes) c.requires.date
      ∙ ap (λ options. not_modified_head options c.args.site.now.date c.args.page.now.file c.args.closes) c.requires.options;
  body = ap (λ (p : PartsState). p.body) c.lend.ensures ∙ c.content.ensures;
}
