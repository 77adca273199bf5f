-- The runs of all cores, colour by colour in their order.
use Rattle.std.specs.Prelude.{◌≡◌, ◌==◌, ◌<◌, ◌∷◌, ℕ, List, [], Option, Some, None, if◌then◌else◌, length, map, filter_map, slice_get}
use Rattle.std.specs.List.{AllByRecursion}
use Rattle.mely_event.specs.declared.colour.Colour.{Colour}
use Rattle.mely_event.specs.declared.event.Event.{Event}
use Rattle.mely_event.specs.declared.trail.Trail.{Ghosts as TrailWords}
use Rattle.mely_history.specs.declared.setup.Setup.{Setup}
use Rattle.mely_history.specs.Setup.{shape_of}
use Rattle.mely_note.specs.declared.note.Note.{Note}
use Rattle.mely_note.specs.Notes.{loaded_of, notes_by}
use Rattle.mely_tally.specs.Account.{HandlerRun, IsRunOf}
use Rattle.mely_worker.specs.declared.app.App.{Ghosts as AppWords}
use Rattle.mely_chain.specs.Runs.{RunThrough, runs_on, puts_on, puts_of}

-- of runs with the cores that made them, those of a core
abbrev pub made_by : {S P : Type 0} → ℕ → List (ℕ × HandlerRun S P) → List (HandlerRun S P)
made_by n runs = filter_map (λ run. if run.0 == n then Some run.1 else None) runs

module _ {R S P F : Type 0} (t : TrailWords S F) (fits : F → Colour → Event → Option P → Type 0)
    (y : AppWords R P S F) (app : R) (setup : Setup) (frame : F) where
  -- The runs of an app's handlers that a run made which came to its end, core by core, by its
  -- notes. On each colour they are, one after another, on the events that were registered there,
  -- with their loads, from the state that was given to the one that is left. Those of a core are,
  -- in the order in which it made them, those that its pass registered the puts of, in that order.
  -- The first event was registered by the pass behind those of the cores, and nothing by any other.
  pub record AreInOrder (begin : Colour × Event × Option P) (given left : Colour → Option S)
      (notes : Colour → List (Note S P)) (by_core : List (List (HandlerRun S P)))
      (by_colour : Colour → List (ℕ × HandlerRun S P)) : Type 0 where
    pub cores : length by_core ≡ (shape_of setup).cores
    pub each : (n : ℕ) (runs : List (HandlerRun S P)) → slice_get by_core n ≡ Some runs
        → AllByRecursion (IsRunOf t fits y app setup frame) runs
    pub on_colour : (c : Colour) (first last : S) → given c ≡ Some first → left c ≡ Some last
        → RunThrough first (loaded_of (notes c) c) last (map (λ run. run.1) (by_colour c))
    pub of_core : (c : Colour) (n : ℕ) (runs : List (HandlerRun S P))
        → slice_get by_core n ≡ Some runs → made_by n (by_colour c) ≡ runs_on c runs
    pub by_cores : (c : Colour) → AllByRecursion (λ run. run.0 < (shape_of setup).cores)
        (by_colour c)
    pub puts : (c : Colour) (n : ℕ) (runs : List (HandlerRun S P))
        → slice_get by_core n ≡ Some runs
        → loaded_of (notes_by n (notes c)) c ≡ puts_on c (puts_of runs)
    pub begun : (c : Colour) → loaded_of (notes_by (shape_of setup).cores (notes c)) c
        ≡ puts_on c (begin ∷ [])
    pub no_other : (c : Colour) (n : ℕ) → (shape_of setup).cores < n
        → notes_by n (notes c) ≡ []
