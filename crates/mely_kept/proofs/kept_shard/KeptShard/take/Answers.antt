use Rattle.std.proofs.Common.{◌≡◌, suc, List, [], ◌∷◌, ◌++◌, refl, ◌∙◌, ap, subst, sym}
use Rattle.std.specs.List.{slice_get}
use Rattle.std.specs.Prelude.{max}
use Rattle.mely_history.specs.Setup.{place}
use Rattle.mely_note.specs.declared.note.Note.{Note}
use Rattle.mely_note.specs.declared.note.Note.TheVariants.{Take}
use Rattle.mely_note.specs.declared.stamp.Stamp.{Stamp}
use Rattle.mely_note.specs.Notes.{latest}
use Rattle.mely_shard.specs.Shard.{ShardState, IsConsistent, IsOwn, KeepsFrame, KeepsAllButSpare, Takes, NoTakeAs, givens}
use Rattle.mely_kept.specs.Calls.{TakesAt}
use Rattle.mely_note.specs.ShowsNotes.{ShowsNotes}
use Rattle.mely_kept.proofs.KeepLemmas.{above_pushed, above_same, at_err, frames_kept, frame_stays, legal_stays, gives, rise_pushed}
use Rattle.mely_note.proofs.ShowLemmas.{shows_same, shows_taken}
use Rattle.mely_kept.proofs.kept_shard.KeptShard.take.Goals as goal

pub take-requires : goal.take-requires
take-requires g c =
    let own : IsOwn c.self.inside.shard.value c.args.colour = let own = rw (← c.self.view_is) at c.requires.own in record { there = own.there; here = own.here } in
    record { own = subst (λ (old : ShardState g.row.S.Denot g.row.P.Denot). IsOwn old c.args.colour) (sym c.deref_mut.ensures.value) own }

pub invariant_of-self : goal.invariant_of-self
invariant_of-self g c = (
  frames_kept g.S.Trail.frame_of _ c.self.inside.shard.value c.take.new.self (subst (λ (old : ShardState g.row.S.Denot g.row.P.Denot). KeepsFrame old c.take.new.self) c.deref_mut.ensures.value c.take.ensures.frame) c.self.invariant.0,
  shows_same c.self.inside.shard.value c.take.new.self c.self.inside.notes.items c.self.invariant.1 (subst (λ (old : ShardState g.row.S.Denot g.row.P.Denot). KeepsAllButSpare old c.take.new.self) c.deref_mut.ensures.value c.in_err-turn.ensures.err),
  c.self.invariant.2,
)

pub returns-in_err-turn-clause-frame : goal.returns-in_err-turn-clause-frame
returns-in_err-turn-clause-frame g c = rw (← c.self.view_is) (frame_stays g.S.Trail.frame_of c.self.inside.shard.value c.take.new.self c.self.inside.notes.items c.self.inside.notes.items _ (subst (λ (old : ShardState g.row.S.Denot g.row.P.Denot). KeepsFrame old c.take.new.self) c.deref_mut.ensures.value c.take.ensures.frame))

pub returns-in_err-turn-clause-does : goal.returns-in_err-turn-clause-does
returns-in_err-turn-clause-does g c =
    let why = subst (λ (old : ShardState g.row.S.Denot g.row.P.Denot). NoTakeAs old.setup old.history c.args.colour c.args.core c.in_err-turn.field-0.0) c.deref_mut.ensures.value c.in_err-turn.ensures.refusal in
    let shown = subst (λ h. NoTakeAs c.self.inside.shard.value.setup h c.args.colour c.args.core c.in_err-turn.field-0.0) c.self.invariant.1.entries why in
    rw (← c.self.view_is) (at_err (λ answer. TakesAt g.S.Trail g.S.Fits.fits_under c.self.inside.shard.value.setup (g.S.Trail.frame_of c.self.inside.sample.value.value) (slice_get (givens c.self.inside.shard.value) (place c.self.inside.shard.value.setup c.args.colour)) c.args.core c.args.colour answer c.self.inside.notes.items c.self.inside.notes.items) c.from_residual.result c.in_err-turn.field-0.0 c.from_residual.ensures.1 (refl, shown))

pub returns-in_err-turn-clause-legal : goal.returns-in_err-turn-clause-legal
returns-in_err-turn-clause-legal g c = rw (← c.self.view_is) (legal_stays g.S.Trail g.S.Fits.fits_under c.self.inside.shard.value c.take.new.self c.self.inside.notes.items (invariant_of-self g c).1 (subst (λ (old : ShardState g.row.S.Denot g.row.P.Denot). KeepsFrame old c.take.new.self) c.deref_mut.ensures.value c.take.ensures.frame) c.take.ensures.kept)

pushed : (g : _) (c : goal.After-drop g) → c.push.new.self.items ≡ c.self.inside.notes.items ++ Take c.args.colour c.args.core c.in_ok-turn.turn.count c.of.result ∷ []
pushed g c = c.push.ensures ∙ ap (λ n. c.self.inside.notes.items ++ Take c.args.colour c.args.core n c.of.result ∷ []) c.count.ensures

stamped : (g : _) (c : goal.After-drop g) → c.of.result.value.number ≡ suc (max (latest c.self.inside.notes.items) c.args.known.now.number)
stamped g c = ap (λ (at : Stamp). at.number) c.of.ensures ∙ c.after-at.ensures

pub invariant_of-self-2 : goal.invariant_of-self-2
invariant_of-self-2 g c =
    let own_colour : IsOwn c.self.inside.shard.value c.args.colour = let own = rw (← c.self.view_is) at c.requires.own in record { there = own.there; here = own.here } in
    let does = subst (λ (old : ShardState g.row.S.Denot g.row.P.Denot). Takes old c.take.new.self c.args.colour c.args.core c.in_ok-turn.turn) c.deref_mut.ensures.value c.in_ok-turn.ensures.ok in (
      frames_kept g.S.Trail.frame_of _ c.self.inside.shard.value c.take.new.self (subst (λ (old : ShardState g.row.S.Denot g.row.P.Denot). KeepsFrame old c.take.new.self) c.deref_mut.ensures.value c.take.ensures.frame) c.self.invariant.0,
      subst (λ (ns : List (Note g.row.S.Denot g.row.P.Denot)). ShowsNotes c.take.new.self ns) (sym (pushed g c)) (shows_taken c.self.inside.shard.value c.take.new.self c.self.inside.notes.items c.self.invariant.1 c.args.colour c.args.core c.in_ok-turn.turn c.of.result own_colour does),
      rise_pushed c.self.inside.notes.items c.push.new.self.items _ c.args.known.now.number (pushed g c) (stamped g c) c.self.invariant.2,
    )

pub returns-clause-frame : goal.returns-clause-frame
returns-clause-frame g c = rw (← c.self.view_is) (frame_stays g.S.Trail.frame_of c.self.inside.shard.value c.take.new.self c.self.inside.notes.items c.push.new.self.items _ (subst (λ (old : ShardState g.row.S.Denot g.row.P.Denot). KeepsFrame old c.take.new.self) c.deref_mut.ensures.value c.take.ensures.frame))

pub returns-clause-does : goal.returns-clause-does
returns-clause-does g c =
    let own_colour : IsOwn c.self.inside.shard.value c.args.colour = let own = rw (← c.self.view_is) at c.requires.own in record { there = own.there; here = own.here } in
    let does = subst (λ (old : ShardState g.row.S.Denot g.row.P.Denot). Takes old c.take.new.self c.args.colour c.args.core c.in_ok-turn.turn) c.deref_mut.ensures.value c.in_ok-turn.ensures.ok in
    let kept = subst (λ (old : ShardState g.row.S.Denot g.row.P.Denot). IsConsistent g.S.Trail g.S.Fits.fits_under old) c.deref.ensures c.history-entries.ensures.kept in
    rw (← c.self.view_is) ((c.of.result, pushed g c), gives g.S.Trail g.S.Fits.fits_under c.self.inside.shard.value c.take.new.self c.self.inside.notes.items c.args.colour c.args.core _ c.in_ok-turn.turn own_colour kept c.self.invariant.0 c.self.invariant.1 does c.in_ok-turn.ensures.stands)

pub returns-clause-legal : goal.returns-clause-legal
returns-clause-legal g c = rw (← c.self.view_is) (legal_stays g.S.Trail g.S.Fits.fits_under c.self.inside.shard.value c.take.new.self c.push.new.self.items (invariant_of-self-2 g c).1 (subst (λ (old : ShardState g.row.S.Denot g.row.P.Denot). KeepsFrame old c.take.new.self) c.deref_mut.ensures.value c.take.ensures.frame) c.take.ensures.kept)

pub returns-clause-rise : goal.returns-clause-rise
returns-clause-rise g c = (invariant_of-self-2 g c).2

pub returns-clause-above : goal.returns-clause-above
returns-clause-above g c = rw (← c.self.view_is) (above_pushed c.self.inside.notes.items c.push.new.self.items _ c.args.known.now.number (pushed g c) (stamped g c))

pub returns-in_err-turn-clause-above : goal.returns-in_err-turn-clause-above
returns-in_err-turn-clause-above g c = rw (← c.self.view_is) (above_same c.self.inside.notes.items c.args.known.now.number)
