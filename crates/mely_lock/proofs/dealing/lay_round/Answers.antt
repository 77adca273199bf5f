use Rattle.std.proofs.Common.{ap, ◌∙◌, sym, ◌++◌, ◌∷◌, [], Some, subst}
use Rattle.mely_lock.specs.Rule.{Locked}
use Rattle.mely_lock.specs.Views.{initial_view}
use Rattle.atomic_table.specs.Table.{opening}
use Rattle.mely_lock.proofs.KeepsLemmas.{new_words, opens}
use Rattle.mely_lock.proofs.dealing.lay_round.Goals as goal

pub new-requires : goal.new-requires
new-requires g c = let items = c.push_reserved.ensures.items ∙ ap (λ l. l ++ Some c.args.value ∷ []) c.requires.slots in let key = c.args.about.now in
    subst (λ l. Locked g.V.Kept.history_of g.V.Kept.pass_of g.V.Kept.frame_of (g.V.Kept.frame_of key.value.value) key.passes (opening new_words l (initial_view key.passes (g.V.Kept.frame_of key.value.value)))) (sym items)
    (opens g.V.Kept.history_of g.V.Kept.pass_of g.V.Kept.frame_of _ _ c.args.value c.requires.empty (ap g.V.Kept.frame_of (sym c.requires.told)))
