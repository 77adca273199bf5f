use Rattle.std.proofs.Common.{refl, ap, ◌∙◌}
use Rattle.sws_parts.specs.Parts.{PartsState}
use Rattle.std.specs.Prelude.{if◌then◌else◌, []}
use Rattle.sws_site.specs.Files.{file_head}
use Rattle.sws_answer.specs.Answers.{response}
use Rattle.sws_answer.proofs.answering.send_file.Goals as goal

pub returns : goal.returns
unfolding response file_head
returns c = record {
  code = c.code.ensures;
  closes = refl;
  head = ap (λ (p : PartsState). p.head) c.lend.ensures ∙ c.head-head.ensures
      ∙ ap (λ date. file_head c.args.page.now.options date c.args.page.now.file c.args.closes) c.requires.date
      ∙ ap (λ options. file_head options c.args.site.now.date c.args.page.now.file c.args.closes) c.requires.options;
  body = ap (λ (p : PartsState). p.body) c.lend.ensures ∙ c.content.ensures ∙ ap (λ b. if c.args.is_head then [] else b) c.body.ensures.contents;
}
