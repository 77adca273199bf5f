use Rattle.std.proofs.Common.{rules, ◌≡◌, refl, sym, ◌∙◌, subst}
use Rattle.mely_history.specs.Legal.{IsLegal}
use Rattle.mely_note.specs.Notes.{Rise, entries_of}
use Rattle.mely_lock.specs.Words.{front, initial_value}
use Rattle.mely_kept.specs.Calls.{LooksAt}
use Rattle.mely_kept.specs.KeptShard.{KeptShardState}
use Rattle.mely_kept.proofs.KeepLemmas.{above_same}
use Rattle.mely_kept.proofs.PointLemmas.{seen_after}
use Rattle.mely_kept.proofs.shard_calls.reserve_at.Goals as goal

pub returns-clause-seen : goal.returns-clause-seen
returns-clause-seen g c known =
    let h = c.call.ensures.called in
    let does : h.left.now.notes ≡ h.found.now.notes = search rules in
    let did = h.did.said-raw.1.1.1 in
    let legal = subst (λ (k : KeptShardState g.row.S.Denot g.row.P.Denot). IsLegal h.found.now.has.setup (entries_of k.notes)) (sym did.1.1) did.0.ensures.1.1.1.0 in
    let rise = subst (λ (k : KeptShardState g.row.S.Denot g.row.P.Denot). Rise k.notes) (sym did.1.1) did.0.ensures.1.1.1.1 in
    seen_after g.S.Trail.frame_of c.args.pass.now.number known (λ of answer. LooksAt) (initial_value c.args.lock.now) h.found.now h.left.now c.call.result c.call.result (front c.args.pass.now) (front c.call.new.pass)
    h.framed h.others h.seen refl does legal rise (λ note is. above_same h.found.now.notes known note (sym does ∙ is))
