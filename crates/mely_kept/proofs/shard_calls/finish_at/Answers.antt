use Rattle.std.proofs.Common.{rules, ◌≡◌, ◌<◌, [], ◌∷◌, ◌++◌, refl, sym, ap, ◌∙◌, subst}
use Rattle.mely_history.specs.Legal.{IsLegal}
use Rattle.mely_history.specs.Owing.{IsOwed}
use Rattle.mely_lock.specs.Seen.{OthersSince, GrewByAtMostOne}
use Rattle.mely_lock.specs.Words.{front, initial_value}
use Rattle.mely_note.specs.Notes.{Rise, entries_of, noted_by, stamp_of}
use Rattle.mely_kept.specs.declared.kept_shard.ShardFrame.{ShardFrame}
use Rattle.mely_kept.specs.Frames.{IsColourOf}
use Rattle.mely_kept.specs.Calls.{FinishesAt}
use Rattle.mely_kept.specs.KeptShard.{KeptShardState}
use Rattle.mely_kept.proofs.PointLemmas.{finish_grows, seen_after}
use Rattle.mely_kept.proofs.shard_calls.finish_at.Goals as goal

pub call-requires-clause-may : goal.call-requires-clause-may
call-requires-clause-may g c = record {
  takes = λ x framed others. λ lifetimes ref_ptr ghost_name typed ranges number inner more outlives.
      let own = subst (λ of. IsColourOf of c.args.turn.colour) (sym framed) c.requires.own in
      let same = sym c.requires.owed.by in
      let since = subst (λ n. OthersSince noted_by n (front c.args.pass.now) x.now.notes) same others in
      let owed = subst (λ n. IsOwed n (entries_of (front c.args.pass.now)) c.args.turn.colour c.args.turn.core c.args.turn.count (g.S.Trail.trail_of c.args.turn.state)) same c.requires.owed in
      (own, (c.requires.spent, ((front c.args.pass.now, since, owed), (c.requires.coloured, c.requires.framed ∙ ap (λ (of : ShardFrame _ _). of.states) (sym framed)))));
  framed = λ x y answer framed others did. search rules;
  grown = λ x y answer framed others did.
      let does : FinishesAt x.now.has.setup c.args.turn.core c.args.turn answer x.now.notes y.now.notes = search rules in
      subst (λ n. GrewByAtMostOne noted_by n x.now.notes y.now.notes) c.requires.owed.by (finish_grows x.now.has.setup c.args.turn.core c.args.turn answer x.now.notes y.now.notes does);
}

pub returns-clause-seen : goal.returns-clause-seen
returns-clause-seen g c =
    let h = c.call.ensures.called in
    let by_turn : FinishesAt h.found.now.has.setup c.args.turn.core c.args.turn c.call.result h.found.now.notes h.left.now.notes = search rules in
    let does = subst (λ n. FinishesAt h.found.now.has.setup n c.args.turn c.call.result h.found.now.notes h.left.now.notes) c.requires.owed.by by_turn in
    let did = h.did.said-raw.1.1.1 in
    let legal = subst (λ (k : KeptShardState g.row.S.Denot g.row.P.Denot). IsLegal h.found.now.has.setup (entries_of k.notes)) (sym did.1.1) did.0.ensures.1.1.0 in
    let rise = subst (λ (k : KeptShardState g.row.S.Denot g.row.P.Denot). Rise k.notes) (sym did.1.1) did.0.ensures.1.1.1.0 in
    let above = subst (λ (k : KeptShardState g.row.S.Denot g.row.P.Denot). (note : _) → k.notes ≡ h.found.now.notes ++ note ∷ [] → c.args.known.now.number < stamp_of note) (sym did.1.1) did.0.ensures.1.1.1.1 in
    seen_after g.S.Trail.frame_of c.args.pass.now.number c.args.known.now.number (λ of answer. FinishesAt of.setup c.args.pass.now.number c.args.turn answer) (initial_value c.args.lock.now) h.found.now h.left.now c.call.result c.call.result (front c.args.pass.now) (front c.call.new.pass)
    h.framed h.others h.seen refl does legal rise above
