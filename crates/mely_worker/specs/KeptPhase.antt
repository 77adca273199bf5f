-- The phase of a worker, of the parts in which it is kept.
use Rattle.std.specs.Prelude.{◌≡◌, List, [], Option, None, Some}
use Rattle.mely_event.specs.declared.colour.Colour.{Colour}
use Rattle.mely_event.specs.declared.event.Event.{Event}
use Rattle.mely_queue.specs.Turn.{TurnState}
use Rattle.mely_worker.specs.declared.delivery.Delivery.{Delivery}
use Rattle.mely_worker.specs.declared.delivery.Delivery.TheVariants.{Nothing}
use Rattle.mely_worker.specs.declared.kept_phase.KeptPhase.TheInside.{Inside}
use Rattle.mely_worker.specs.declared.phase.Phase.{Phase}
use Rattle.mely_worker.specs.declared.phase.Phase.TheVariants.{Free, Popped, Picked, Landing, Pushing, Turning}
use Rattle.mely_worker.specs.declared.stage.Stage.{Stage}
use Rattle.mely_worker.specs.declared.stage.Stage.TheVariants as stage

-- the phase of a worker without a turn
abbrev pub phase_at : {S P : Type 0} → Stage → Phase S P
phase_at (stage.Free place) = Free place
phase_at (stage.Popped mark) = Popped mark
phase_at (stage.Picked mark victim) = Picked mark victim
phase_at (stage.Landing mark) = Landing mark
phase_at (stage.Pushing core mark) = Pushing core mark

-- the phase of a worker, by its turn
abbrev pub phase_with : {S P : Type 0} → Stage → Option (TurnState S P) → Delivery
    → List (Colour × Event × Option P) → Phase S P
phase_with stage None hand outs = phase_at stage
phase_with stage (Some turn) hand outs = Turning turn hand outs

-- a phase, of its private fields
abbrev pub phase_of : {S P : Type 0} → Inside S P → Phase S P
phase_of k = phase_with k.stage k.turn k.hand k.outs

-- what is in hand and what is left to register are of a turn
abbrev pub IsOfTurn : {S P : Type 0} → Inside S P → Type 0
IsOfTurn k = k.turn ≡ None → (k.hand ≡ Nothing) × (k.outs ≡ [])
