use Rattle.std.proofs.Common.{◌≡◌, suc, List, refl, ◌∙◌, ap, subst, sym}
use Rattle.std.specs.Prelude.{max}
use Rattle.mely_history.specs.History.{begun_of, worth_of}
use Rattle.mely_history.specs.Legal.{MaySteal}
use Rattle.mely_note.specs.declared.note.Note.{Note}
use Rattle.mely_note.specs.declared.stamp.Stamp.{Stamp}
use Rattle.mely_note.specs.Notes.{latest}
use Rattle.mely_shard.specs.Shard.{ShardState, IsOwn, KeepsFrame, KeepsAllButSpare, Steals, NoStealAs}
use Rattle.mely_kept.specs.Calls.{StealsAt}
use Rattle.mely_note.specs.ShowsNotes.{ShowsNotes}
use Rattle.mely_kept.proofs.KeepLemmas.{above_pushed, above_same, at_err, frames_kept, frame_stays, legal_stays, rise_pushed}
use Rattle.mely_note.proofs.ShowLemmas.{shows_same, shows_stolen}
use Rattle.mely_kept.proofs.kept_shard.KeptShard.steal.Goals as goal

pub steal-requires-clause-own : goal.steal-requires-clause-own
steal-requires-clause-own g c =
    let own : IsOwn c.self.inside.shard.value c.args.colour = let own = rw (← c.self.view_is) at c.requires.own in record { there = own.there; here = own.here } in
    subst (λ (old : ShardState g.row.S.Denot g.row.P.Denot). IsOwn old c.args.colour) (sym c.deref_mut.ensures.value) own

pub invariant_of-self : goal.invariant_of-self
invariant_of-self g c = (
  frames_kept g.S.Trail.frame_of _ c.self.inside.shard.value c.steal.new.self (subst (λ (old : ShardState g.row.S.Denot g.row.P.Denot). KeepsFrame old c.steal.new.self) c.deref_mut.ensures.value c.steal.ensures.frame) c.self.invariant.0,
  shows_same c.self.inside.shard.value c.steal.new.self c.self.inside.notes.items c.self.invariant.1 (subst (λ (old : ShardState g.row.S.Denot g.row.P.Denot). KeepsAllButSpare old c.steal.new.self) c.deref_mut.ensures.value c.in_err-stolen.ensures.err),
  c.self.invariant.2,
)

pub returns-in_err-stolen-clause-frame : goal.returns-in_err-stolen-clause-frame
returns-in_err-stolen-clause-frame g c = rw (← c.self.view_is) (frame_stays g.S.Trail.frame_of c.self.inside.shard.value c.steal.new.self c.self.inside.notes.items c.self.inside.notes.items _ (subst (λ (old : ShardState g.row.S.Denot g.row.P.Denot). KeepsFrame old c.steal.new.self) c.deref_mut.ensures.value c.steal.ensures.frame))

pub returns-in_err-stolen-clause-does : goal.returns-in_err-stolen-clause-does
returns-in_err-stolen-clause-does g c =
    let why = subst (λ (old : ShardState g.row.S.Denot g.row.P.Denot). NoStealAs old.setup old.history c.args.colour c.args.to c.in_err-stolen.field-0.0) c.deref_mut.ensures.value c.in_err-stolen.ensures.refusal in
    let shown = subst (λ h. NoStealAs c.self.inside.shard.value.setup h c.args.colour c.args.to c.in_err-stolen.field-0.0) c.self.invariant.1.entries why in
    rw (← c.self.view_is) (at_err (λ answer. StealsAt c.self.inside.shard.value.setup c.args.to c.args.colour answer c.self.inside.notes.items c.self.inside.notes.items) c.from_residual.result c.in_err-stolen.field-0.0 c.from_residual.ensures.1 (refl, shown))

pub returns-in_err-stolen-clause-legal : goal.returns-in_err-stolen-clause-legal
returns-in_err-stolen-clause-legal g c = rw (← c.self.view_is) (legal_stays g.S.Trail g.S.Fits.fits_under c.self.inside.shard.value c.steal.new.self c.self.inside.notes.items (invariant_of-self g c).1 (subst (λ (old : ShardState g.row.S.Denot g.row.P.Denot). KeepsFrame old c.steal.new.self) c.deref_mut.ensures.value c.steal.ensures.frame) c.steal.ensures.kept)

stamped : (g : _) (c : goal.After-drop g) → c.of.result.value.number ≡ suc (max (latest c.self.inside.notes.items) c.args.known.now.number)
stamped g c = ap (λ (at : Stamp). at.number) c.of.ensures ∙ c.after-at.ensures

pub invariant_of-self-2 : goal.invariant_of-self-2
invariant_of-self-2 g c =
    let own : IsOwn c.self.inside.shard.value c.args.colour = let own = rw (← c.self.view_is) at c.requires.own in record { there = own.there; here = own.here } in
    let does = subst (λ (old : ShardState g.row.S.Denot g.row.P.Denot). Steals old c.steal.new.self c.args.colour c.args.to c.in_ok-stolen.stolen) c.deref_mut.ensures.value c.in_ok-stolen.ensures.ok in (
      frames_kept g.S.Trail.frame_of _ c.self.inside.shard.value c.steal.new.self (subst (λ (old : ShardState g.row.S.Denot g.row.P.Denot). KeepsFrame old c.steal.new.self) c.deref_mut.ensures.value c.steal.ensures.frame) c.self.invariant.0,
      subst (λ (ns : List (Note g.row.S.Denot g.row.P.Denot)). ShowsNotes c.steal.new.self ns) (sym c.push.ensures) (shows_stolen c.self.inside.shard.value c.steal.new.self c.self.inside.notes.items c.self.invariant.1 c.args.colour c.in_ok-stolen.stolen.from c.args.to c.of.result own does.same_setup does.same_shard does.history does.lanes),
      rise_pushed c.self.inside.notes.items c.push.new.self.items _ c.args.known.now.number c.push.ensures (stamped g c) c.self.invariant.2,
    )

pub returns-clause-frame : goal.returns-clause-frame
returns-clause-frame g c = rw (← c.self.view_is) (frame_stays g.S.Trail.frame_of c.self.inside.shard.value c.steal.new.self c.self.inside.notes.items c.push.new.self.items _ (subst (λ (old : ShardState g.row.S.Denot g.row.P.Denot). KeepsFrame old c.steal.new.self) c.deref_mut.ensures.value c.steal.ensures.frame))

pub returns-clause-does : goal.returns-clause-does
returns-clause-does g c =
    let does = subst (λ (old : ShardState g.row.S.Denot g.row.P.Denot). Steals old c.steal.new.self c.args.colour c.args.to c.in_ok-stolen.stolen) c.deref_mut.ensures.value c.in_ok-stolen.ensures.ok in
    let shown = (invariant_of-self-2 g c).1 in
    rw (← c.self.view_is) (
      (c.of.result, c.push.ensures),
      subst (λ h. MaySteal c.self.inside.shard.value.setup h c.args.colour c.in_ok-stolen.stolen.from c.args.to) c.self.invariant.1.entries does.allowed,
      does.started ∙ ap (λ h. begun_of h c.args.colour) shown.entries,
      does.worth ∙ ap (λ s. worth_of s c.steal.new.self.history c.args.colour) does.same_setup ∙ ap (λ h. worth_of c.self.inside.shard.value.setup h c.args.colour) shown.entries,
    )

pub returns-clause-legal : goal.returns-clause-legal
returns-clause-legal g c = rw (← c.self.view_is) (legal_stays g.S.Trail g.S.Fits.fits_under c.self.inside.shard.value c.steal.new.self c.push.new.self.items (invariant_of-self-2 g c).1 (subst (λ (old : ShardState g.row.S.Denot g.row.P.Denot). KeepsFrame old c.steal.new.self) c.deref_mut.ensures.value c.steal.ensures.frame) c.steal.ensures.kept)

pub returns-clause-rise : goal.returns-clause-rise
returns-clause-rise g c = (invariant_of-self-2 g c).2

pub returns-clause-above : goal.returns-clause-above
returns-clause-above g c = rw (← c.self.view_is) (above_pushed c.self.inside.notes.items c.push.new.self.items _ c.args.known.now.number c.push.ensures (stamped g c))

pub returns-in_err-stolen-clause-above : goal.returns-in_err-stolen-clause-above
returns-in_err-stolen-clause-above g c = rw (← c.self.view_is) (above_same c.self.inside.notes.items c.args.known.now.number)
