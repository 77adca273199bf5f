use Rattle.std.proofs.Common.{rules, ◌≡◌, ◌<◌, [], ◌∷◌, ◌++◌, refl, sym, subst}
use Rattle.mely_history.specs.Legal.{IsLegal, MayRegister}
use Rattle.mely_lock.specs.Words.{front, initial_value}
use Rattle.mely_note.specs.Notes.{Rise, entries_of, stamp_of}
use Rattle.mely_kept.specs.declared.kept_shard.ShardFrame.{ShardFrame}
use Rattle.mely_kept.specs.Calls.{RegistersAt}
use Rattle.mely_kept.specs.Frames.{IsColourOf}
use Rattle.mely_kept.specs.KeptShard.{KeptShardState}
use Rattle.mely_kept.proofs.PointLemmas.{register_grows, seen_after}
use Rattle.mely_kept.proofs.shard_calls.register_at.Goals as goal

pub call-requires-clause-may : goal.call-requires-clause-may
call-requires-clause-may g c = record {
  takes = λ x framed others. λ lifetimes ref_ptr ghost_name typed ranges number first second third inner outlives.
      let same = sym framed in (
        subst (λ of. IsColourOf of c.args.colour) same c.requires.own,
        (
          subst (λ (of : ShardFrame _ _). MayRegister of.setup c.args.colour c.args.event) same c.requires.may,
          subst (λ (of : ShardFrame _ _). g.S.Fits.fits_under of.states c.args.colour c.args.event c.args.load) same c.requires.fit,
        ),
      );
  framed = λ x y answer framed others did. search rules;
  grown = λ x y answer framed others did.
      let does : RegistersAt x.now.has.setup c.args.pass.now.number c.args.colour c.args.event c.args.load answer x.now.notes y.now.notes = search rules in
      register_grows x.now.has.setup c.args.pass.now.number c.args.colour c.args.event c.args.load answer x.now.notes y.now.notes does;
}

pub returns-clause-seen : goal.returns-clause-seen
returns-clause-seen g c =
    let h = c.call.ensures.called in
    let does : RegistersAt h.found.now.has.setup c.args.pass.now.number c.args.colour c.args.event c.args.load c.call.result h.found.now.notes h.left.now.notes = search rules in
    let did = h.did.said-raw.1.1.1.1.1 in
    let legal = subst (λ (k : KeptShardState g.row.S.Denot g.row.P.Denot). IsLegal h.found.now.has.setup (entries_of k.notes)) (sym did.1.1) did.0.ensures.1.1.0 in
    let rise = subst (λ (k : KeptShardState g.row.S.Denot g.row.P.Denot). Rise k.notes) (sym did.1.1) did.0.ensures.1.1.1.0 in
    let above = subst (λ (k : KeptShardState g.row.S.Denot g.row.P.Denot). (note : _) → k.notes ≡ h.found.now.notes ++ note ∷ [] → c.args.known.now.number < stamp_of note) (sym did.1.1) did.0.ensures.1.1.1.1 in
    seen_after g.S.Trail.frame_of c.args.pass.now.number c.args.known.now.number (λ of answer. RegistersAt of.setup c.args.pass.now.number c.args.colour c.args.event c.args.load answer) (initial_value c.args.lock.now) h.found.now h.left.now c.call.result c.call.result (front c.args.pass.now) (front c.call.new.pass)
    h.framed h.others h.seen refl does legal rise above
