use Rattle.std.proofs.Common.{◌+◌, ◌<◌, [], length, refl, sym, ap, subst, ◌∙◌}
use Rattle.std.specs.Prelude.{slice_range, if◌then◌else◌}
use Rattle.sws_site.specs.ContentTypes.{media_type_of}
use Rattle.sws_site.specs.Ages.{age_of}
use Rattle.sws_site.specs.ResponseHeads.{head_text}
use Rattle.sws_parts.specs.Parts.{PartsState}
use Rattle.sws_answer.specs.Answers.{response}
use Rattle.sws_answer.proofs.RangeLemmas.{part_head, part_head-same, part_head-short}
use Rattle.sws_answer.proofs.answering.send_part.Goals as goal

pub write_head-head-requires : goal.write_head-head-requires
write_head-head-requires c =
    part_head-short c.options.result.now c.args.closes c.args.first c.args.last c.http_date.result.now c.max_age.result c.media_type.result.now c.body-body.result.now c.max_age.ensures.short
    c.media_type.ensures.short
    c.body-body.ensures.within c.requires.part.0 (subst (λ bytes. c.args.last < length bytes) (sym c.body-body.ensures.contents) c.requires.part.1)

pub returns : goal.returns
unfolding response
returns c = record {
  code = c.code.ensures;
  closes = refl;
  head = ap (λ (p : PartsState). p.head) c.own.ensures ∙ c.write_head-head.ensures
      ∙ ap (λ options. head_text (part_head options c.args.closes c.args.first c.args.last c.http_date.result.now c.max_age.result c.media_type.result.now c.body-body.result.now)) c.options.ensures
      ∙ part_head-same c.args.site.now.options c.args.closes c.args.first c.args.last _ _ _ _ _ _ _ _ c.http_date.ensures
      (c.max_age.ensures.age ∙ ap (λ options. age_of options c.args.page.now.file.0) c.requires.page.options)
      (c.media_type.ensures.media_type ∙ ap (λ options. media_type_of options c.args.page.now.file.0) c.requires.page.options) c.body-body.ensures.contents;
  body = ap (λ (p : PartsState). p.body) c.own.ensures ∙ c.content.ensures
      ∙ ap (λ bytes. if c.args.is_head then [] else slice_range bytes c.args.first (c.args.last + 1)) c.body-body.ensures.contents;
}
