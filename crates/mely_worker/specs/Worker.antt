-- A worker, as contracts see it.
use Rattle.std.specs.Prelude.{ℕ, ◌≡◌, ◌*◌, ◌+◌, List, Option, Bool, true, false, length}
use Rattle.mely_event.specs.declared.event.Event.{Event}
use Rattle.mely_event.specs.declared.colour.Colour.{Colour}
use Rattle.mely_worker.specs.declared.phase.Phase.{Phase}
use Rattle.mely_worker.specs.declared.phase.Phase.TheVariants.{Free, Popped, Picked, Landing, Pushing, Turning}

-- a worker, as contracts see it
pub record WorkerState (S P : Type 0) : Type 0 where
  pub core : ℕ
  pub batch : ℕ
  pub halted : Bool
  pub victims : List ℕ
  pub lost : List (Colour × Event × Option P)
  pub phase : Phase S P

-- how many registrations may still be refused in the turn
abbrev pub may_be_refused : {S P : Type 0} → Phase S P → ℕ
may_be_refused (Free place) = 0
may_be_refused (Popped mark) = 0
may_be_refused (Picked mark victim) = 0
may_be_refused (Landing mark) = 0
may_be_refused (Pushing core mark) = 0
may_be_refused (Turning turn hand outs) = length outs + 2 * length turn.events

-- the worker hunts for a colour, or has a mark that it found
abbrev pub is_hunting : {S P : Type 0} → Phase S P → Bool
is_hunting (Free place) = false
is_hunting (Popped mark) = true
is_hunting (Picked mark victim) = true
is_hunting (Landing mark) = true
is_hunting (Pushing core mark) = false
is_hunting (Turning turn hand outs) = false

-- how far a free worker has come in its hunt: its own core, and then its victims
abbrev pub place_of : {S P : Type 0} → Phase S P → ℕ
place_of (Free place) = place
place_of (Popped mark) = 0
place_of (Picked mark victim) = 0
place_of (Landing mark) = 0
place_of (Pushing core mark) = 0
place_of (Turning turn hand outs) = 0

-- core, batch and victims are the same
pub record IsSameWorker {S P : Type 0} (before after : WorkerState S P) : Type 0 where
  pub core : after.core ≡ before.core
  pub batch : after.batch ≡ before.batch
  pub victims : after.victims ≡ before.victims
