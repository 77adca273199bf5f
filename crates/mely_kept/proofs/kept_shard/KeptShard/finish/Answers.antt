use Rattle.std.proofs.Common.{◌≡◌, suc, List, [], ◌∷◌, ◌++◌, ◌∙◌, ap, subst, sym}
use Rattle.std.specs.Prelude.{max}
use Rattle.mely_note.specs.declared.note.Note.{Note}
use Rattle.mely_note.specs.declared.note.Note.TheVariants.{Fin}
use Rattle.mely_shard.specs.Shard.{ShardState, IsConsistent, IsOwn, KeepsFrame, Finishes, TurnStands, AfterAs}
use Rattle.mely_note.specs.declared.stamp.Stamp.{Stamp}
use Rattle.mely_note.specs.Notes.{latest, snapshot_of}
use Rattle.mely_note.specs.ShowsNotes.{ShowsNotes}
use Rattle.mely_kept.proofs.KeepLemmas.{above_pushed, frames_kept, frame_stays, legal_stays, finish_stands, rise_pushed}
use Rattle.mely_note.proofs.ShowLemmas.{shows_finished}
use Rattle.mely_kept.proofs.kept_shard.KeptShard.finish.Goals as goal

own_colour : (g : _) (c : goal.After-deref_mut g) → IsOwn c.self.inside.shard.value c.args.turn.colour
own_colour g c = let own = rw (← c.self.view_is) at c.requires.own in record { there = own.there; here = own.here }

pub finish-after-requires-clause-own : goal.finish-after-requires-clause-own
finish-after-requires-clause-own g c = subst (λ (old : ShardState g.row.S.Denot g.row.P.Denot). IsOwn old c.args.turn.colour) (sym c.deref_mut.ensures.value) (own_colour g c)

pub finish-after-requires-clause-stands : goal.finish-after-requires-clause-stands
finish-after-requires-clause-stands g c =
    let owed = rw (← c.self.view_is) at c.requires.owed in
    let framed = rw (← c.self.view_is) at c.requires.framed in
    let kept = subst (λ (old : ShardState g.row.S.Denot g.row.P.Denot). IsConsistent g.S.Trail g.S.Fits.fits_under old) c.deref.ensures c.history-entries.ensures.kept in
    let stands = finish_stands g.S.Trail g.S.Fits.fits_under c.self.inside.shard.value c.self.inside.notes.items _ c.args.turn kept c.self.invariant.0 c.self.invariant.1 c.requires.spent owed c.requires.coloured framed in
    subst (λ (old : ShardState g.row.S.Denot g.row.P.Denot). TurnStands g.S.Trail g.S.Fits.fits_under old (record c.args.turn { state = c.state.result.now })) (sym c.deref_mut.ensures.value)
    (subst (λ state. TurnStands g.S.Trail g.S.Fits.fits_under c.self.inside.shard.value (record c.args.turn { state = state })) (sym c.state.ensures.value) stands)

pushed : (g : _) (c : goal.After-drop-note g) → c.push.new.self.items ≡ c.self.inside.notes.items ++ Fin c.args.turn.colour c.args.turn.core c.args.turn.count (snapshot_of c.args.turn.state) c.of-2.result ∷ []
pushed g c =
    let state = c.of.ensures ∙ c.state.ensures.value in
    c.push.ensures ∙ (λ i. c.self.inside.notes.items ++ Fin (c.colour.ensures i) (c.core.ensures i) (c.count.ensures i) (snapshot_of (state i)) c.of-2.result ∷ [])

stamped : (g : _) (c : goal.After-drop-note g) → c.of-2.result.value.number ≡ suc (max (latest c.self.inside.notes.items) c.args.known.now.number)
stamped g c = ap (λ (at : Stamp). at.number) c.of-2.ensures ∙ c.after-at.ensures

pub invariant_of-self : goal.invariant_of-self
invariant_of-self g c =
    let own : IsOwn c.self.inside.shard.value c.args.turn.colour = let own = rw (← c.self.view_is) at c.requires.own in record { there = own.there; here = own.here } in
    let does_old = subst (λ (old : ShardState g.row.S.Denot g.row.P.Denot). Finishes old c.finish-after.new.self (record c.args.turn { state = c.state.result.now })) c.deref_mut.ensures.value c.finish-after.ensures.home in
    let does = subst (λ state. Finishes c.self.inside.shard.value c.finish-after.new.self (record c.args.turn { state = state })) c.state.ensures.value does_old in (
      frames_kept g.S.Trail.frame_of _ c.self.inside.shard.value c.finish-after.new.self (subst (λ (old : ShardState g.row.S.Denot g.row.P.Denot). KeepsFrame old c.finish-after.new.self) c.deref_mut.ensures.value c.finish-after.ensures.frame) c.self.invariant.0,
      subst (λ (ns : List (Note g.row.S.Denot g.row.P.Denot)). ShowsNotes c.finish-after.new.self ns) (sym (pushed g c)) (shows_finished c.self.inside.shard.value c.finish-after.new.self c.self.inside.notes.items c.self.invariant.1 c.args.turn c.of-2.result own does),
      rise_pushed c.self.inside.notes.items c.push.new.self.items _ c.args.known.now.number (pushed g c) (stamped g c) c.self.invariant.2,
    )

pub returns-clause-frame : goal.returns-clause-frame
returns-clause-frame g c = rw (← c.self.view_is) (frame_stays g.S.Trail.frame_of c.self.inside.shard.value c.finish-after.new.self c.self.inside.notes.items c.push.new.self.items _ (subst (λ (old : ShardState g.row.S.Denot g.row.P.Denot). KeepsFrame old c.finish-after.new.self) c.deref_mut.ensures.value c.finish-after.ensures.frame))

pub returns-clause-does : goal.returns-clause-does
returns-clause-does g c =
    let shown = (invariant_of-self g c).1 in
    let reply = subst (λ (old : ShardState g.row.S.Denot g.row.P.Denot). AfterAs old.setup c.finish-after.new.self.history c.args.turn.colour c.finish-after.result) c.deref_mut.ensures.value c.finish-after.ensures.reply in
    rw (← c.self.view_is) ((c.of-2.result, pushed g c), subst (λ h. AfterAs c.self.inside.shard.value.setup h c.args.turn.colour c.finish-after.result) shown.entries reply)

pub returns-clause-legal : goal.returns-clause-legal
returns-clause-legal g c = rw (← c.self.view_is) (legal_stays g.S.Trail g.S.Fits.fits_under c.self.inside.shard.value c.finish-after.new.self c.push.new.self.items (invariant_of-self g c).1 (subst (λ (old : ShardState g.row.S.Denot g.row.P.Denot). KeepsFrame old c.finish-after.new.self) c.deref_mut.ensures.value c.finish-after.ensures.frame) c.finish-after.ensures.kept)

pub returns-clause-rise : goal.returns-clause-rise
returns-clause-rise g c = (invariant_of-self g c).2

pub returns-clause-above : goal.returns-clause-above
returns-clause-above g c = rw (← c.self.view_is) (above_pushed c.self.inside.notes.items c.push.new.self.items _ c.args.known.now.number (pushed g c) (stamped g c))
