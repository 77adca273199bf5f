use Rattle.std.proofs.Common.{◌<◌, ◌∷◌, length, refl, sym, ap, ◌∙◌, subst, arith}
use Rattle.sws_site.specs.Folders.{folder_index}
use Rattle.sws_site.proofs.FileLemmas.{file_named-long}
use Rattle.sws_answer.specs.Targets.{name_said_by}
use Rattle.sws_answer.specs.AnswerValues.{Sends, sent_as}
use Rattle.sws_answer.specs.FileAnswers.{file_answer, folder_answer}
use Rattle.sws_answer.proofs.FolderLemmas.{folder_index-long, file_answer-found}
use Rattle.sws_answer.proofs.answering.answer_path.Goals as goal

pub returns-then-not-write_name : goal.returns-then-not-write_name
returns-then-not-write_name c =
    let name = name_said_by c.args.site.now.options (47 ∷ c.args.path.now) in
    let long : 8202 < length name =
    subst (λ o. 8202 < length (name_said_by o (47 ∷ c.args.path.now))) c.options.ensures (c.if-not-write_name.ensures.outgrown refl) in
    subst (λ found. Sends (sent_as c.refuse.result c.refuse.new.parts) (file_answer c.args.site.now c.args.request.now found (folder_index c.args.site.now name) c.args.closes c.args.is_head))
    (sym (file_named-long c.args.site.now.files name c.limits.ensures (omega arith)))
    (subst (λ index. Sends (sent_as c.refuse.result c.refuse.new.parts) (folder_answer c.args.site.now index c.args.closes c.args.is_head))
    (sym (folder_index-long c.args.site.now name c.limits.ensures (omega arith))) c.refuse.ensures)

pub returns-in-Some : goal.returns-in-Some
returns-in-Some c = file_answer-found (sent_as c.answer_file.result c.answer_file.new.parts) c.args.site.now c.args.request.now c.bytes.result.now _ c.in-Some.page c.args.closes c.args.is_head
    (c.bytes.ensures ∙ c.if-not-write_name.ensures.written refl ∙ ap (λ o. name_said_by o (47 ∷ c.args.path.now)) c.options.ensures)
    c.in-Some.ensures c.answer_file.ensures
