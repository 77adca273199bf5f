-- Where it is known of each worker what it did, and all have come to their end, what was registered
-- on each colour is caused.
use Rattle.std.proofs.Common.{◌≡◌, ℕ, false, List, Option, Some, ap}
use Rattle.std.specs.List.{slice_get}
use Rattle.mely_event.specs.declared.colour.Colour.{Colour}
use Rattle.mely_event.specs.declared.event.Event.{Event}
use Rattle.mely_event.specs.declared.trail.Trail.{Ghosts as TrailWords}
use Rattle.mely_history.specs.declared.setup.Setup.{Setup}
use Rattle.mely_note.specs.declared.note.Note.{Note}
use Rattle.mely_note.specs.Notes.{Rise, loaded_of}
use Rattle.mely_tally.specs.Account.{HandlerRun}
use Rattle.mely_worker.specs.Phase.{is_turning}
use Rattle.mely_worker.specs.declared.app.App.{Ghosts as AppWords}
use Rattle.mely_cause.specs.Causes.{AreCaused}
use Rattle.mely_chain.specs.Deeds.{CoreDid}
use Rattle.mely_chain.proofs.MergeChainLemmas.{without_core}
use Rattle.mely_chain.proofs.MergeOrderLemmas.{AllCome, colour_runs}
use Rattle.mely_cause.proofs.TimedRuns.{timed_of}
use Rattle.mely_cause.proofs.CoreTimedLemmas.{core_timed}
use Rattle.mely_cause.proofs.CausedOrderLemmas.{caused_by_core}

module _ {R S P F : Type 0} (t : TrailWords S F) (fits : F → Colour → Event → Option P → Type 0) (y : AppWords R P S F) (app : R) (setup : Setup) (frame : F) (given : Colour → Option S) (notes : Colour → List (Note S P))
    (begin : Colour × Event × Option P) (left : Colour → Option S) (by_core : List (List (HandlerRun S P))) (come : AllCome t fits y app setup frame given notes begin left by_core) where
  pub caused_by_deeds : ((n : ℕ) (runs : List (HandlerRun S P)) (at : slice_get by_core n ≡ Some runs) → CoreDid setup n notes (come.each n runs at).worker runs)
      → ((c : Colour) → Rise (notes c))
      → AreCaused begin (λ c. loaded_of (notes c) c) (λ c. without_core (colour_runs t fits y app setup frame given notes begin left by_core come c))
  caused_by_deeds did rise = caused_by_core t fits y app setup frame given notes begin left by_core come
      (λ n runs at.
      let has = come.each n runs at in
      let rests : is_turning has.worker.phase ≡ false = ap (λ phase. is_turning phase) has.free in
      (timed_of 0 (did n runs at).deeds, core_timed setup n notes has.worker runs come.legal (did n runs at) has.none_lost rests))
      rise
