-- What the notes of a shard show, over each call on it.
use Rattle.std.proofs.Common.{◌≡◌, ℕ, ◌<◌, List, [], ◌∷◌, ◌++◌, Option, Some, length, take, drop, refl, sym, ◌∙◌, ap, subst, arith, inl, inr}
use Rattle.std.specs.Prelude.{slice_get, slice_set}
use Rattle.std.specs.declared.snapshot.Snapshot.{Snapshot}
use Rattle.std.proofs.lemmas.Bool.{cases_lt}
use Rattle.std.proofs.Math.ListN.{drop_of_length-le}
use Rattle.mely_event.specs.declared.colour.Colour.{Colour}
use Rattle.mely_event.specs.declared.event.Event.{Event}
use Rattle.mely_event.specs.declared.trail.Trail.{Ghosts as TrailWords}
use Rattle.mely_history.specs.Setup.{colours_of, shard_of, place}
use Rattle.mely_history.specs.declared.entry.Entry.TheVariants as entries
use Rattle.mely_history.specs.declared.setup.Setup.{Setup}
use Rattle.mely_history.specs.declared.stolen.Stolen.{Stolen}
use Rattle.mely_history.specs.History.{begun_of, queued_of, registered_of}
use Rattle.mely_history.specs.Legal.{IsLegal}
use Rattle.mely_history.proofs.BeyondLemmas.{none_registered}
use Rattle.mely_history.proofs.LegalLemmas.{legal_before}
use Rattle.mely_note.specs.declared.note.Note.{Note}
use Rattle.mely_note.specs.declared.note.Note.TheVariants.{Reg, Take, Fin, Steal}
use Rattle.mely_note.specs.declared.stamp.Stamp.{Stamp}
use Rattle.mely_note.specs.Notes.{snapshot_of, waiting_of, home_of}
use Rattle.mely_note.proofs.ShowLemmas.{if_home, shows_same, shows_registered, shows_taken, shows_finished, shows_stolen}
use Rattle.mely_queue.specs.Turn.{TurnState}
use Rattle.mely_shard.specs.Shard.{ShardState, ColourState, IsOwn, lane_at, Registers, Takes, Finishes, Steals, KeepsAllButSpare}
use Rattle.mely_weave.specs.SideStands.{ShardStands}
use Rattle.mely_weave.proofs.Entries.SideLemmas.{each_set}
use Rattle.mely_chain.specs.WeaveTold.{ShardTold}

drop_none : {X : Type 0} (n : ℕ) (xs : List X) → xs ≡ [] → length (drop n xs) ≡ 0
drop_none n xs none = ap (λ l. length (drop n l)) none ∙ ap length (drop_of_length-le [] (omega arith))

module _ {S P : Type 0} (given : Colour → Option S) (setup : Setup) (number : ℕ) (old new : ShardState S P) (notes : List (Note S P)) (same_setup : new.setup ≡ old.setup) where
  -- each lane is of a state that was given before
  abbrev GivensStay : Type 0
  GivensStay = (i : ℕ) (lane : ColourState S P) → slice_get new.lanes i ≡ Some lane → (l : ColourState S P) × (slice_get old.lanes i ≡ Some l) × (lane.given ≡ l.given)

  givens_same : new.lanes ≡ old.lanes → GivensStay
  givens_same same i lane is = (lane, ap (λ l. slice_get l i) (sym same) ∙ is, refl)

  -- where one lane was set
  givens_set : (k : ℕ) (was after : ColourState S P) → slice_get old.lanes k ≡ Some was → after.given ≡ was.given → new.lanes ≡ slice_set old.lanes k after → GivensStay
  givens_set k was after there same set i lane is =
      each_set (λ i lane. (l : ColourState S P) × (slice_get old.lanes i ≡ Some l) × (lane.given ≡ l.given)) old.lanes k was after there
      (λ i lane here. (lane, here, refl)) (was, there, same) i lane (ap (λ l. slice_get l i) (sym set) ∙ is)

  first_stays : GivensStay → ShardTold given setup number old notes → (c : Colour) (lane : ColourState S P) (state : S) → shard_of setup c ≡ number → lane_at new c ≡ Some lane → given c ≡ Some state → lane.given ≡ state
  first_stays stay told c lane state of at is =
      let was = stay (place old.setup c) lane (ap (λ s. slice_get new.lanes (place s c)) (sym same_setup) ∙ at) in
      was.2 ∙ told.first c was.0 state of was.1 is

module _ {S P F : Type 0} (t : TrailWords S F) (fits : F → Colour → Event → Option P → Type 0) (frame : F) (given : Colour → Option S) (setup : Setup) (number : ℕ) (old new : ShardState S P) (notes : List (Note S P)) (was : ShardStands t fits setup frame number old) (then_stands : ShardStands t fits setup frame number new) (told : ShardTold given setup number old notes) where
  new_setup : new.setup ≡ old.setup
  new_setup = then_stands.of_setup ∙ sym was.of_setup

  -- a colour of the setup whose shard this is
  is_own : (c : Colour) → shard_of setup c ≡ number → c.0 < colours_of setup → IsOwn old c
  is_own c here low = record {
    there = subst (λ s. c.0 < colours_of s) (sym was.of_setup) low;
    here = ap (λ s. shard_of s c) was.of_setup ∙ here ∙ sym was.numbered;
  }

  -- a colour of which something waits is one of the setup
  waits_low : (c : Colour) → 0 < length (queued_of old.history c) → c.0 < colours_of setup
  waits_low c waits = elim (cases_lt c.0 (colours_of setup)) [
    | inl low ↦ low
    | inr high ↦
        let none = none_registered setup old.history (subst (λ s. IsLegal s old.history) was.of_setup was.kept.legal) c high in
        let empty = drop_none (begun_of old.history c) (registered_of old.history c) none in
        absurd (omega (arith, waits, empty))
  ]

  pub shard_refused : KeepsAllButSpare old new → ShardTold given setup number new notes
  shard_refused keeps = record {
    shows = shows_same old new notes told.shows keeps;
    first = first_stays given setup number old new notes new_setup (givens_same given setup number old new notes new_setup keeps.lanes) told;
  }

  pub shard_registered : (c : Colour) (event : Event) (load : Option P) (by : ℕ) (stamp : Snapshot Stamp) → shard_of setup c ≡ number → Registers old new c event load by → ShardTold given setup number new (notes ++ Reg c event (snapshot_of load) by stamp ∷ [])
  shard_registered c event load by stamp here does =
      let legal = then_stands.kept.legal in
      let last = legal_before new.setup old.history (entries.Reg c event by) (subst (IsLegal new.setup) does.after.history legal) in
      let low : c.0 < colours_of setup = subst (λ s. c.0 < colours_of s) then_stands.of_setup last.1.colour in
      record {
        shows = shows_registered old new notes told.shows c event load by stamp (is_own c here low) legal does;
        first = first_stays given setup number old new notes new_setup (givens_set given setup number old new notes new_setup (place old.setup c) does.before _ does.was refl does.after.lanes) told;
      }

  pub shard_taken : (c : Colour) (core : ℕ) (turn : TurnState S P) (stamp : Snapshot Stamp) → shard_of setup c ≡ number → Takes old new c core turn → ShardTold given setup number new (notes ++ Take c core turn.count stamp ∷ [])
  shard_taken c core turn stamp here does = record {
    shows = shows_taken old new notes told.shows c core turn stamp (is_own c here (waits_low c does.allowed.ready.waiting)) does;
    first = first_stays given setup number old new notes new_setup (givens_set given setup number old new notes new_setup (place old.setup c) does.before _ does.was refl does.after.lanes) told;
  }

  pub shard_finished : (turn : TurnState S P) (stamp : Snapshot Stamp) → shard_of setup turn.colour ≡ number → turn.colour.0 < colours_of setup → Finishes old new turn → ShardTold given setup number new (notes ++ Fin turn.colour turn.core turn.count (snapshot_of turn.state) stamp ∷ [])
  shard_finished turn stamp here low does = record {
    shows = shows_finished old new notes told.shows turn stamp (is_own turn.colour here low) does;
    first = first_stays given setup number old new notes new_setup (givens_set given setup number old new notes new_setup (place old.setup turn.colour) does.before _ does.was refl does.after.lanes) told;
  }

  pub shard_stolen : (c : Colour) (to : ℕ) (stolen : Stolen) (stamp : Snapshot Stamp) → shard_of setup c ≡ number → Steals old new c to stolen → ShardTold given setup number new (notes ++ Steal c stolen.from to stamp ∷ [])
  shard_stolen c to stolen stamp here does = record {
    shows = shows_stolen old new notes told.shows c stolen.from to stamp (is_own c here (waits_low c does.allowed.ready.waiting)) does.same_setup does.same_shard does.history does.lanes;
    first = first_stays given setup number old new notes new_setup (givens_same given setup number old new notes new_setup does.lanes) told;
  }

  -- what a take gives, as the notes show it
  pub taken_events : (c : Colour) (core : ℕ) (turn : TurnState S P) → shard_of setup c ≡ number → Takes old new c core turn → turn.events ≡ take turn.count (waiting_of notes c)
  taken_events c core turn here does =
      let lane = told.shows.each c does.before (is_own c here (waits_low c does.allowed.ready.waiting)) does.was in
      ap (λ (x : TurnState S P). x.events) does.made ∙ ap (take turn.count) lane.waits

  pub taken_state : (c : Colour) (core : ℕ) (turn : TurnState S P) → shard_of setup c ≡ number → Takes old new c core turn → (first : S) → given c ≡ Some first → turn.state ≡ home_of first notes c
  taken_state c core turn here does first is =
      let lane = told.shows.each c does.before (is_own c here (waits_low c does.allowed.ready.waiting)) does.was in
      let same = told.first c does.before first here does.was is in
      ap (λ (x : TurnState S P). x.state) does.made ∙ if_home does.before.state does.home (λ s. s ≡ home_of does.before.given notes c) does.at_home lane.home ∙ ap (λ g. home_of g notes c) same
