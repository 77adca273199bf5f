use Rattle.std.proofs.Common.{refl, ap, ◌∙◌}
use Rattle.sws_parts.specs.Parts.{PartsState}
use Rattle.sws_site.specs.Folders.{folder_index}
use Rattle.sws_answer.proofs.FolderLemmas.{Sends-folder}
use Rattle.sws_answer.proofs.answering.answer_folder.Goals as goal

pub returns-in-Some : goal.returns-in-Some
returns-in-Some c = Sends-folder _ c.args.site.now (folder_index c.args.site.now c.args.room.now) c.in-Some.head.now c.in-Some.body.now c.args.closes c.args.is_head
    c.in-Some.ensures c.code.ensures refl (ap (λ (p : PartsState). p.head) c.lend.ensures) (ap (λ (p : PartsState). p.body) c.lend.ensures ∙ c.content.ensures)
