use Rattle.std.proofs.Common.{sym, ap, subst, ◌∙◌}
use Rattle.std.specs.Prelude.{IfSome}
use Rattle.sws_gopher.specs.Halls.{AddsText}
use Rattle.sws_gopher.specs.Texts.{text_of}
use Rattle.sws_gopher.specs.Menus.{is_text}
use Rattle.sws_gopher.proofs.HallLemmas.{text-added, name-at}
use Rattle.sws_gopher.proofs.preparing.add_text.Goals as goal

pub returns-in_ok-insert : goal.returns-in_ok-insert
returns-in_ok-insert c =
    let named = name-at c.args.site.now.files c.args.i c.name_at-name.result.now c.page_at.result.file c.name_at-name.ensures c.page_at.ensures.file in
    subst (λ o. IfSome o (λ file. AddsText file c.args.texts.now c.insert.new.self)) (sym c.page_at.ensures.file)
    (text-added c.page_at.result.file c.args.texts.now c.insert.new.self c.in_ok-from_slice.field-0 c.in_ok-text.text (c.in_ok-from_slice.ensures.items ∙ named) (c.in_ok-text.ensures ∙ ap text_of c.body.ensures.contents)
    (sym (ap is_text named) ∙ sym c.is_sent_as_text.ensures ∙ c.if-is_sent_as_text.true) c.in_ok-insert.ensures.entries)
