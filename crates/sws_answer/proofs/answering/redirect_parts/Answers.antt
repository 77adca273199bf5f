use Rattle.std.proofs.Common.{option_map, refl, sym, ap, ◌∙◌, arith}
use Rattle.sws_site.specs.Site.{found_in}
use Rattle.sws_answer.specs.FileAnswers.{redirect_parts}
use Rattle.sws_answer.proofs.FolderLemmas.{folder_index-long, folder_index-none, redirect_of-found}
use Rattle.sws_answer.proofs.answering.redirect_parts.Goals as goal

pub returns-then-not-put : goal.returns-then-not-put
returns-then-not-put c =
    let full = c.if-not-put.ensures.full refl in
    ap (option_map (redirect_parts c.args.site.now.options c.args.closes)) (sym (folder_index-long c.args.site.now c.args.room.now c.limits.ensures (omega (arith, full))))

pub returns-in-Some : goal.returns-in-Some
returns-in-Some c =
    c.redirect.ensures
    ∙ redirect_of-found c.args.site.now c.args.room.now c.bytes.result.now c.in-Some.page c.args.closes (c.bytes.ensures ∙ c.if-not-put.ensures.put refl) c.in-Some.ensures

pub returns-in-None : goal.returns-in-None
returns-in-None c = ap (option_map (redirect_parts c.args.site.now.options c.args.closes)) (sym (
    folder_index-none c.args.site.now c.args.room.now (c.in-None.ensures ∙ ap (found_in c.args.site.now) (c.bytes.ensures ∙ c.if-not-put.ensures.put refl))))
