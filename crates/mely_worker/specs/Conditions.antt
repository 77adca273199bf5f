-- The conditions of a step, which it keeps: over the values of an access, so that whoever
-- lends one can state them.
use Rattle.std.specs.Prelude.{ℕ, ◌≡◌, ◌≤◌, ◌++◌, List, Option, length}
use Rattle.std.specs.List.{AllByRecursion}
use Rattle.mely_event.specs.declared.colour.Colour.{Colour}
use Rattle.mely_event.specs.declared.event.Event.{Event}
use Rattle.mely_event.specs.declared.trail.Trail.{Ghosts as TrailWords}
use Rattle.mely_event.specs.HandlerTable.{rows_of}
use Rattle.mely_history.specs.declared.setup.Setup.{Setup}
use Rattle.mely_history.specs.Setup.{shape_of, colours_of, handlers_of}
use Rattle.mely_queue.specs.Turn.{TurnState, EachFits}
use Rattle.mely_worker.specs.declared.phase.Phase.{Phase}
use Rattle.mely_worker.specs.declared.phase.Phase.TheVariants.{Free, Popped, Picked, Landing, Pushing, Turning}
use Rattle.mely_worker.specs.declared.delivery.Delivery.{Delivery}
use Rattle.mely_worker.specs.declared.access.Access.{Ghosts as AccessWords}
use Rattle.mely_worker.specs.declared.app.App.{Ghosts as AppWords}
use Rattle.mely_worker.specs.Access.{IsColour, IsCore, FitsSetup, events_of}
use Rattle.mely_worker.specs.Delivery.{MayDeliver}
use Rattle.mely_worker.specs.Worker.{WorkerState}

module _ {S P F : Type 0} (t : TrailWords S F) (fits : F → Colour → Event → Option P → Type 0)
    (setup : Setup) (own : ℕ) (frame : F) (owes : Colour → ℕ → ℕ → List Event → Type 0) where
  -- the turn meets the condition of its finish, once the events that are left were run
  pub record WillBeSpent (turn : TurnState S P) : Type 0 where
    pub of_setup : IsColour setup turn.colour
    pub of_colour : t.colour_of turn.state ≡ turn.colour
    pub of_frame : t.frame_of turn.state ≡ frame
    pub events_fit : EachFits (fits frame turn.colour) turn.events
    pub owed : owes turn.colour turn.core turn.count (t.trail_of turn.state
        ++ events_of turn.events)

  -- what a turning worker has: its turn, what is in hand, and the registrations that are left
  pub record MayTurn (turn : TurnState S P) (hand : Delivery)
      (puts : List (Colour × Event × Option P)) : Type 0 where
    pub of_turn : WillBeSpent turn
    pub in_hand : MayDeliver setup hand
    pub of_puts : AllByRecursion (FitsSetup fits setup frame) puts

  -- what the worker has in hand may be passed to the calls of its next step: a mark is of one of
  -- the setup's colours, a core is one of its cores, and a turn can be run to its finish
  abbrev pub PhaseMayStep : Phase S P → Type 0
  PhaseMayStep (Free place) = Unit {0}
  PhaseMayStep (Popped mark) = IsColour setup mark.colour
  PhaseMayStep (Picked mark victim) = IsColour setup mark.colour × IsCore setup victim
  PhaseMayStep (Landing mark) = IsColour setup mark.colour
  PhaseMayStep (Pushing target mark) = IsColour setup mark.colour × IsCore setup target
  PhaseMayStep (Turning turn hand puts) = MayTurn turn hand puts

  -- the conditions of a step that the worker keeps: it is of this core and this batch, its victims
  -- are cores, and what it has meets the conditions of the calls that take it
  pub record MayStep (worker : WorkerState S P) : Type 0 where
    pub own_core : own ≡ worker.core
    pub core : IsCore setup worker.core
    pub batch : worker.batch ≡ (shape_of setup).batch
    pub victims : AllByRecursion (IsCore setup) worker.victims
    pub phase : PhaseMayStep worker.phase
    pub lost : AllByRecursion (FitsSetup fits setup frame) worker.lost

-- the conditions of a step, as an access says the setup, the core, the frame and what is owed
module _ {A S P F : Type 0} (t : TrailWords S F) (fits : F → Colour → Event → Option P → Type 0)
    (x : AccessWords A S P F) (access : A) where
  -- the turn can be run to its finish at this access
  abbrev pub WillBeSpentAt : TurnState S P → Type 0
  WillBeSpentAt turn = WillBeSpent t fits (x.setup_of access) (x.core_of access)
      (x.frame_of access) (x.owes access) turn

  -- the worker may make its next step at this access
  abbrev pub MayStepAt : WorkerState S P → Type 0
  MayStepAt worker = MayStep t fits (x.setup_of access) (x.core_of access)
      (x.frame_of access) (x.owes access) worker

-- the app uses no more colours and handlers than the setup has, and serves the frame
pub record AppServes {R S P F : Type 0} (y : AppWords R P S F) (setup : Setup) (frame : F)
    (app : R) : Type 0 where
  pub colours : y.colours_of app ≤ colours_of setup
  pub handlers : y.handlers_of app ≤ length (rows_of (handlers_of setup))
  pub serves : y.serves app frame

-- the app suits the setup and the frame that an access says
abbrev pub AppServesAt : {A R S P F : Type 0} → AccessWords A S P F
    → AppWords R P S F → A → R → Type 0
AppServesAt x y access app = AppServes y (x.setup_of access) (x.frame_of access) app
