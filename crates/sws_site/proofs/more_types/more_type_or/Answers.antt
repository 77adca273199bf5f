use Rattle.std.proofs.Common.{ap, ◌∙◌}
use Rattle.sws_site.specs.ContentTypes.{text_types, data_types, image_types, audio_types, video_types, archive_types, document_types, type_or, more_type_or}
use Rattle.sws_site.proofs.more_types.more_type_or.Goals as goal

pub returns : goal.returns
unfolding more_type_or
returns c =
    c.text_type.ensures ∙ ap (λ t. type_or text_types t c.args.extension.now) (c.data_type-media_type.ensures ∙ ap (λ t. type_or data_types t c.args.extension.now) (c.image_type-media_type.ensures ∙ ap (λ t. type_or image_types t c.args.extension.now) (c.audio_type-media_type.ensures ∙ ap (λ t. type_or audio_types t c.args.extension.now) (c.video_type-media_type.ensures ∙ ap (λ t. type_or video_types t c.args.extension.now) (c.archive_type-media_type.ensures ∙ ap (λ t. type_or archive_types t c.args.extension.now) (c.document_type-media_type.ensures ∙ ap (λ t. type_or document_types t c.args.extension.now) (c.program_type-media_type.ensures)))))))
