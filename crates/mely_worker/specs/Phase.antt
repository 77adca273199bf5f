-- The phases of a worker.
use Rattle.std.specs.Prelude.{◌≡◌, Bool, true, false, []}
use Rattle.mely_worker.specs.declared.delivery.Delivery.TheVariants.{Nothing}
use Rattle.mely_worker.specs.declared.phase.Phase.{Phase}
use Rattle.mely_worker.specs.declared.phase.Phase.TheVariants.{Free, Popped, Picked, Landing, Pushing, Turning}

-- the worker has no mark and no turn: it looks for one
abbrev pub is_free : {S P : Type 0} → Phase S P → Bool
is_free (Free place) = true
is_free (Popped mark) = false
is_free (Picked mark victim) = false
is_free (Landing mark) = false
is_free (Pushing core mark) = false
is_free (Turning turn hand outs) = false

-- the worker has a turn
abbrev pub is_turning : {S P : Type 0} → Phase S P → Bool
is_turning (Free place) = false
is_turning (Popped mark) = false
is_turning (Picked mark victim) = false
is_turning (Landing mark) = false
is_turning (Pushing core mark) = false
is_turning (Turning turn hand outs) = true

-- the turn is to be finished: its hand is empty, and neither a registration nor an event is left
abbrev pub HasRunAll : {S P : Type 0} → Phase S P → Type 0
HasRunAll (Free place) = ⊥
HasRunAll (Popped mark) = ⊥
HasRunAll (Picked mark victim) = ⊥
HasRunAll (Landing mark) = ⊥
HasRunAll (Pushing core mark) = ⊥
HasRunAll (Turning turn hand outs) = (hand ≡ Nothing) × (outs ≡ []) × (turn.events ≡ [])
