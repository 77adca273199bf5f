use Rattle.std.proofs.Common.{rules, ◌≡◌, ◌<◌, [], ◌∷◌, ◌++◌, refl, subst, sym}
use Rattle.mely_history.specs.Legal.{IsLegal}
use Rattle.mely_lock.specs.Words.{front, initial_value}
use Rattle.mely_note.specs.Notes.{Rise, entries_of, stamp_of}
use Rattle.mely_kept.specs.Calls.{TakesAt}
use Rattle.mely_kept.specs.Frames.{given_at, shard_frame}
use Rattle.mely_kept.specs.KeptShard.{KeptShardState}
use Rattle.mely_kept.proofs.PointLemmas.{seen_after}
use Rattle.mely_kept.proofs.shard_calls.take_at.Goals as goal

pub returns-clause-seen : goal.returns-clause-seen
returns-clause-seen g c =
    let h = c.call.ensures.called in
    let does : TakesAt g.S.Trail g.S.Fits.fits_under h.found.now.has.setup (g.S.Trail.frame_of h.found.now.sample) (given_at (shard_frame g.S.Trail.frame_of h.found.now) c.args.colour) c.args.pass.now.number c.args.colour c.call.result h.found.now.notes h.left.now.notes = search rules in
    let did = h.did.said-raw.1.1.1 in
    let legal = subst (λ (k : KeptShardState g.row.S.Denot g.row.P.Denot). IsLegal h.found.now.has.setup (entries_of k.notes)) (sym did.1.1) did.0.ensures.1.1.0 in
    let rise = subst (λ (k : KeptShardState g.row.S.Denot g.row.P.Denot). Rise k.notes) (sym did.1.1) did.0.ensures.1.1.1.0 in
    let above = subst (λ (k : KeptShardState g.row.S.Denot g.row.P.Denot). (note : _) → k.notes ≡ h.found.now.notes ++ note ∷ [] → c.args.known.now.number < stamp_of note) (sym did.1.1) did.0.ensures.1.1.1.1 in
    seen_after g.S.Trail.frame_of c.args.pass.now.number c.args.known.now.number (λ of answer. TakesAt g.S.Trail g.S.Fits.fits_under of.setup of.states (given_at of c.args.colour) c.args.pass.now.number c.args.colour answer) (initial_value c.args.lock.now) h.found.now h.left.now c.call.result c.call.result (front c.args.pass.now) (front c.call.new.pass)
    h.framed h.others h.seen refl does legal rise above
