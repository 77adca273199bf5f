use Rattle.std.proofs.Common.{◌≢◌, List, ℕ, [], ◌∷◌, sym, ap, ◌∙◌, rules, Bor}
use Rattle.std.specs.Prelude.{option_map}
use Rattle.sws_gopher.proofs.ReplyLemmas.{folder-by_key, or_not_found}
use Rattle.sws_gopher.specs.Halls.{menu_of_key}
use Rattle.sws_gopher.proofs.hall.menu_of_folder.Goals as goal

pub returns-in-Some : goal.returns-in-Some
returns-in-Some c =
    let more : c.args.name.now ≢ 47 ∷ [] = search (rules) in
    ap or_not_found (sym (ap (option_map (λ (menu : Bor (List ℕ)). menu.now)) c.in-Some.is) ∙ c.kept_menu.ensures ∙ ap (menu_of_key c.args.hall.now) c.without_last_slash.ensures)
    ∙ folder-by_key c.args.hall.now c.args.name.now c.requires more

pub returns-in-None : goal.returns-in-None
returns-in-None c =
    let more : c.args.name.now ≢ 47 ∷ [] = search (rules) in
    ap or_not_found (sym (ap (option_map (λ (menu : Bor (List ℕ)). menu.now)) c.in-None.is) ∙ c.kept_menu.ensures ∙ ap (menu_of_key c.args.hall.now) c.without_last_slash.ensures)
    ∙ folder-by_key c.args.hall.now c.args.name.now c.requires more
