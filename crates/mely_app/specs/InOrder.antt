-- In which order the handlers of a run that came to its end were run, and on which states.
use Rattle.std.specs.Prelude.{◌≡◌, ℕ, List, Option, Some, map, slice_get}
use Rattle.mely_event.specs.declared.colour.Colour.{Colour}
use Rattle.mely_event.specs.declared.event.Event.{Event}
use Rattle.mely_event.specs.declared.trail.Trail.{Ghosts as TrailWords}
use Rattle.mely_history.specs.declared.entry.Entry.{Entry}
use Rattle.mely_history.specs.declared.setup.Setup.{Setup}
use Rattle.mely_note.specs.declared.note.Note.{Note}
use Rattle.mely_note.specs.Notes.{entries_of, loaded_of}
use Rattle.mely_tally.specs.Account.{HandlerRun}
use Rattle.mely_weave.specs.Making.{AreInitial}
use Rattle.mely_weave.specs.Side.{shard_of}
use Rattle.mely_worker.specs.declared.app.App.{Ghosts as AppWords}
use Rattle.mely_cause.specs.Causes.{AreCaused}
use Rattle.mely_cause.specs.Serial.{RanAsByOne}
use Rattle.mely_chain.specs.InOrder.{AreInOrder}

module _ {R S P F : Type 0} (t : TrailWords S F) (fits : F → Colour → Event → Option P → Type 0)
    (y : AppWords R P S F) (app : R) (setup : Setup) (frame : F) where
  -- The handlers ran one after another on each colour: from the state that was given, on the events
  -- that were registered there with their loads, in that order, each on the state that the one
  -- before it left, to the state that is handed out. Notes of each shard say what its history says,
  -- and with it each load and each state that was brought home; by them the runs are known core by
  -- core and colour by colour (`AreInOrder`, of `mely_chain`). Each event but the first was put by a
  -- run that came before it, and what one colour put on another was registered there in the order in
  -- which it was put (`AreCaused`). So there is one order of all runs in which a single thread might
  -- have made them, each of something under way, on the state of its colour (`RanAsByOne`).
  pub record RanInOrder (begin : Colour × Event × Option P) (first : List S)
      (histories : List (List Entry)) (states : List S) : Type 0 where
    pub notes : ℕ → List (Note S P)
    pub by_core : List (List (HandlerRun S P))
    pub by_colour : Colour → List (ℕ × HandlerRun S P)
    pub of_histories : (shard : ℕ) (history : List Entry)
        → slice_get histories shard ≡ Some history → history ≡ entries_of (notes shard)
    pub in_order : AreInOrder t fits y app setup frame begin (λ c. slice_get first c.0)
        (λ c. slice_get states c.0) (λ c. notes (shard_of setup c)) by_core by_colour
    pub caused : AreCaused begin (λ c. loaded_of (notes (shard_of setup c)) c)
        (λ c. map (λ run. run.1) (by_colour c))
    pub serial : RanAsByOne begin (λ c. slice_get first c.0) (λ c. slice_get states c.0)
        (λ c. map (λ run. run.1) (by_colour c))

  -- the same from some initial states
  abbrev pub RanFromInitial : Colour × Event × Option P → List (List Entry) → List S → Type 0
  RanFromInitial begin histories states = (first : List S) × AreInitial t setup first
      × RanInOrder begin first histories states
