-- What a gate has been told: that a core was about to run a handler.
use Rattle.std.specs.Prelude.{ℕ, List, [], ◌∷◌, Option}
use Rattle.mely_event.specs.declared.colour.Colour.{Colour}
use Rattle.mely_event.specs.declared.event.Event.{Event}
use Rattle.mely_event.specs.declared.trail.Trail.{Ghosts as TrailWords}
use Rattle.mely_queue.specs.Turn.{TurnState}
use Rattle.mely_worker.specs.declared.app.App.{Ghosts as AppWords}
use Rattle.mely_worker.specs.declared.delivery.Delivery.{Delivery}
use Rattle.mely_worker.specs.declared.delivery.Delivery.TheVariants.{Nothing, PushMark, Report}
use Rattle.mely_worker.specs.declared.phase.Phase.{Phase}
use Rattle.mely_worker.specs.declared.phase.Phase.TheVariants.{Free, Popped, Picked, Landing, Pushing, Turning}
use Rattle.mely_worker.specs.Worker.{WorkerState}

-- a core has passed with the first of these events of a colour
abbrev pub FirstHasPassed : {P : Type 0} → (Colour → Event → Type 0) → Colour
    → List (Event × Option P) → Type 0
FirstHasPassed passed c [] = Unit {0}
FirstHasPassed passed c (event ∷ rest) = passed c event.0

module _ {S P : Type 0} (passed : Colour → Event → Type 0) where
  -- so it has where nothing is left to register
  abbrev pub NextHasPassed : TurnState S P → List (Colour × Event × Option P) → Type 0
  NextHasPassed turn [] = FirstHasPassed passed turn.colour turn.events
  NextHasPassed turn (put ∷ puts) = Unit {0}

  -- so it has where nothing is in hand either
  abbrev pub TurnHasPassed : TurnState S P → Delivery → List (Colour × Event × Option P) → Type 0
  TurnHasPassed turn Nothing puts = NextHasPassed turn puts
  TurnHasPassed turn (PushMark to mark) puts = Unit {0}
  TurnHasPassed turn (Report to colour started worth) puts = Unit {0}

  -- where a step in this phase runs a handler, the core has passed with the handler's event
  abbrev pub PhaseHasPassed : Phase S P → Type 0
  PhaseHasPassed (Free place) = Unit {0}
  PhaseHasPassed (Popped mark) = Unit {0}
  PhaseHasPassed (Picked mark victim) = Unit {0}
  PhaseHasPassed (Landing mark) = Unit {0}
  PhaseHasPassed (Pushing to mark) = Unit {0}
  PhaseHasPassed (Turning turn hand puts) = TurnHasPassed turn hand puts

-- where the worker's next step runs a handler, its core has passed with the handler's event
abbrev pub HasPassed : {S P : Type 0} → (ℕ → Colour → Event → Type 0) → WorkerState S P → Type 0
HasPassed passed worker = PhaseHasPassed (passed worker.core) worker.phase

-- the words of an app behind a gate: what its handlers do, of which each was passed with the
-- colour of its state and its event
abbrev pub behind : {R S P F : Type 0} → TrailWords S F → (Colour → Event → Type 0)
    → AppWords R P S F → AppWords R P S F
behind t passed y = record y {
  runs = λ app before event load after puts.
      y.runs app before event load after puts × passed (t.colour_of before) event;
}
