use Rattle.std.proofs.Common.{◌≡◌, suc, List, [], ◌∷◌, ◌++◌, Some, refl, ◌∙◌, ap, subst, sym}
use Rattle.std.specs.Prelude.{max}
use Rattle.mely_note.specs.declared.note.Note.{Note}
use Rattle.mely_note.specs.declared.note.Note.TheVariants.{Reg}
use Rattle.mely_note.specs.declared.stamp.Stamp.{Stamp}
use Rattle.mely_note.specs.Notes.{entries_of, latest, snapshot_of}
use Rattle.mely_shard.specs.Shard.{ShardState, IsOwn, KeepsFrame, KeepsAllButSpare, Registers, RegisteredAs, lane_at}
use Rattle.mely_kept.specs.Calls.{RegistersAt}
use Rattle.mely_note.specs.ShowsNotes.{ShowsNotes}
use Rattle.mely_kept.proofs.KeepLemmas.{above_pushed, above_same, at_err, frame_of_lane, frames_kept, frame_stays, legal_stays, rise_pushed}
use Rattle.mely_note.proofs.ShowLemmas.{shows_same, shows_registered}
use Rattle.mely_kept.proofs.kept_shard.KeptShard.register.Goals as goal

pub register-requires-clause-fit : goal.register-requires-clause-fit
register-requires-clause-fit g c lane is =
    let same = frame_of_lane g.S.Trail.frame_of _ c.self.inside.shard.value c.args.colour lane c.self.invariant.0 (subst (λ (old : ShardState g.row.S.Denot g.row.P.Denot). lane_at old c.args.colour ≡ Some lane) c.deref_mut.ensures.value is) in
    let fits = rw (← c.self.view_is) at c.requires.fit in
    subst (λ f. g.S.Fits.fits_under f c.args.colour c.args.event c.args.load) (sym same) fits

pub invariant_of-self : goal.invariant_of-self
invariant_of-self g c = (
  frames_kept g.S.Trail.frame_of _ c.self.inside.shard.value c.register.new.self (subst (λ (old : ShardState g.row.S.Denot g.row.P.Denot). KeepsFrame old c.register.new.self) c.deref_mut.ensures.value c.register.ensures.frame) c.self.invariant.0,
  shows_same c.self.inside.shard.value c.register.new.self c.self.inside.notes.items c.self.invariant.1 (subst (λ (old : ShardState g.row.S.Denot g.row.P.Denot). KeepsAllButSpare old c.register.new.self) c.deref_mut.ensures.value c.in_err-reply.ensures.err),
  c.self.invariant.2,
)

pub returns-in_err-reply-clause-frame : goal.returns-in_err-reply-clause-frame
returns-in_err-reply-clause-frame g c = rw (← c.self.view_is) (frame_stays g.S.Trail.frame_of c.self.inside.shard.value c.register.new.self c.self.inside.notes.items c.self.inside.notes.items _ (subst (λ (old : ShardState g.row.S.Denot g.row.P.Denot). KeepsFrame old c.register.new.self) c.deref_mut.ensures.value c.register.ensures.frame))

pub returns-in_err-reply-clause-does : goal.returns-in_err-reply-clause-does
returns-in_err-reply-clause-does g c =
    rw (← c.self.view_is) (at_err (λ answer. RegistersAt c.self.inside.shard.value.setup c.args.by c.args.colour c.args.event c.args.load answer c.self.inside.notes.items c.self.inside.notes.items) c.from_residual.result c.in_err-reply.field-0.0 c.from_residual.ensures.1 (refl, c.in_err-reply.ensures.back.0, c.in_err-reply.ensures.back.1))

pub returns-in_err-reply-clause-legal : goal.returns-in_err-reply-clause-legal
returns-in_err-reply-clause-legal g c = rw (← c.self.view_is) (legal_stays g.S.Trail g.S.Fits.fits_under c.self.inside.shard.value c.register.new.self c.self.inside.notes.items (invariant_of-self g c).1 (subst (λ (old : ShardState g.row.S.Denot g.row.P.Denot). KeepsFrame old c.register.new.self) c.deref_mut.ensures.value c.register.ensures.frame) c.register.ensures.kept)

pushed : (g : _) (c : goal.After-drop-note-2 g) → c.push.new.self.items ≡ c.self.inside.notes.items ++ Reg c.args.colour c.args.event (snapshot_of c.args.load) c.args.by c.of-2.result ∷ []
pushed g c = c.push.ensures ∙ ap (λ v. c.self.inside.notes.items ++ Reg c.args.colour c.args.event (snapshot_of v) c.args.by c.of-2.result ∷ []) c.of.ensures

stamped : (g : _) (c : goal.After-drop-note-2 g) → c.of-2.result.value.number ≡ suc (max (latest c.self.inside.notes.items) c.args.known.now.number)
stamped g c = ap (λ (at : Stamp). at.number) c.of-2.ensures ∙ c.after-at.ensures

pub invariant_of-self-2 : goal.invariant_of-self-2
invariant_of-self-2 g c =
    let own : IsOwn c.self.inside.shard.value c.args.colour = let own = rw (← c.self.view_is) at c.requires.own in record { there = own.there; here = own.here } in
    let does = subst (λ (old : ShardState g.row.S.Denot g.row.P.Denot). Registers old c.register.new.self c.args.colour c.args.event c.args.load c.args.by) c.deref_mut.ensures.value c.in_ok-reply.ensures.ok in (
      frames_kept g.S.Trail.frame_of _ c.self.inside.shard.value c.register.new.self (subst (λ (old : ShardState g.row.S.Denot g.row.P.Denot). KeepsFrame old c.register.new.self) c.deref_mut.ensures.value c.register.ensures.frame) c.self.invariant.0,
      subst (λ (ns : List (Note g.row.S.Denot g.row.P.Denot)). ShowsNotes c.register.new.self ns) (sym (pushed g c)) (shows_registered c.self.inside.shard.value c.register.new.self c.self.inside.notes.items c.self.invariant.1 c.args.colour c.args.event c.args.load c.args.by c.of-2.result own c.register.ensures.kept.legal does),
      rise_pushed c.self.inside.notes.items c.push.new.self.items _ c.args.known.now.number (pushed g c) (stamped g c) c.self.invariant.2,
    )

pub returns-clause-frame : goal.returns-clause-frame
returns-clause-frame g c = rw (← c.self.view_is) (frame_stays g.S.Trail.frame_of c.self.inside.shard.value c.register.new.self c.self.inside.notes.items c.push.new.self.items _ (subst (λ (old : ShardState g.row.S.Denot g.row.P.Denot). KeepsFrame old c.register.new.self) c.deref_mut.ensures.value c.register.ensures.frame))

pub returns-clause-does : goal.returns-clause-does
returns-clause-does g c =
    let shown = (invariant_of-self-2 g c).1 in
    let said = subst (λ (old : ShardState g.row.S.Denot g.row.P.Denot). RegisteredAs old.setup old.history c.register.new.self.history c.args.colour c.in_ok-reply.reply) c.deref_mut.ensures.value c.in_ok-reply.ensures.reply in
    rw (← c.self.view_is) ((c.of-2.result, pushed g c), subst (λ h. RegisteredAs c.self.inside.shard.value.setup h (entries_of c.push.new.self.items) c.args.colour c.in_ok-reply.reply) c.self.invariant.1.entries (subst (λ h. RegisteredAs c.self.inside.shard.value.setup c.self.inside.shard.value.history h c.args.colour c.in_ok-reply.reply) shown.entries said))

pub returns-clause-legal : goal.returns-clause-legal
returns-clause-legal g c = rw (← c.self.view_is) (legal_stays g.S.Trail g.S.Fits.fits_under c.self.inside.shard.value c.register.new.self c.push.new.self.items (invariant_of-self-2 g c).1 (subst (λ (old : ShardState g.row.S.Denot g.row.P.Denot). KeepsFrame old c.register.new.self) c.deref_mut.ensures.value c.register.ensures.frame) c.register.ensures.kept)

pub returns-clause-rise : goal.returns-clause-rise
returns-clause-rise g c = (invariant_of-self-2 g c).2

pub returns-clause-above : goal.returns-clause-above
returns-clause-above g c = rw (← c.self.view_is) (above_pushed c.self.inside.notes.items c.push.new.self.items _ c.args.known.now.number (pushed g c) (stamped g c))

pub returns-in_err-reply-clause-above : goal.returns-in_err-reply-clause-above
returns-in_err-reply-clause-above g c = rw (← c.self.view_is) (above_same c.self.inside.notes.items c.args.known.now.number)
