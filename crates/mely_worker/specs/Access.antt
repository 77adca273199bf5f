-- What an access takes, gives and keeps.
use Rattle.std.specs.Prelude.{ℕ, ◌≡◌, ◌<◌, ◌≤◌, ◌++◌, List, [], Option, length, map}
use Rattle.mely_event.specs.declared.colour.Colour.{Colour}
use Rattle.mely_event.specs.declared.event.Event.{Event}
use Rattle.mely_event.specs.declared.trail.Trail.{Ghosts as TrailWords}
use Rattle.mely_event.specs.declared.unregistered.Unregistered.{Unregistered}
use Rattle.mely_event.specs.HandlerTable.{rows_of}
use Rattle.mely_history.specs.declared.setup.Setup.{Setup}
use Rattle.mely_history.specs.declared.registered.Registered.{Registered}
use Rattle.mely_history.specs.declared.registered.Registered.TheVariants.{Woke, Told, Running}
use Rattle.mely_history.specs.Setup.{shape_of, colours_of, handlers_of}
use Rattle.mely_queue.specs.Turn.{TurnState, EachFits}

-- the events, without their loads
abbrev pub events_of : {P : Type 0} → List (Event × Option P) → List Event
events_of left = map (λ e. e.0) left

-- the colour is one of the setup
abbrev pub IsColour : Setup → Colour → Type 0
IsColour setup c = c.0 < colours_of setup

-- the core is one of the setup
abbrev pub IsCore : Setup → ℕ → Type 0
IsCore setup core = core < (shape_of setup).cores

-- a registration is of a colour and a handler that there are, and its event and load fit
pub record FitsIn {P : Type 0} (colours handlers : ℕ) (fits : Colour → Event → Option P → Type 0)
    (put : Colour × Event × Option P) : Type 0 where
  pub colour : put.0.0 < colours
  pub handler : put.1.handler < handlers
  pub load : fits put.0 put.1 put.2

-- the setup has the colour and the handler, and event and load fit under the frame
abbrev pub FitsSetup : {F P : Type 0} → (F → Colour → Event → Option P → Type 0) → Setup → F
    → Colour × Event × Option P → Type 0
FitsSetup fits setup frame put =
    FitsIn (colours_of setup) (length (rows_of (handlers_of setup))) (fits frame) put

-- setup, core and frame stay
pub record Stays {A F : Type 0} (setup_of : A → Setup) (core_of : A → ℕ) (frame_of : A → F)
    (before after : A) : Type 0 where
  pub setup : setup_of after ≡ setup_of before
  pub core : core_of after ≡ core_of before
  pub frame : frame_of after ≡ frame_of before

-- whatever finish was owed is still owed
abbrev pub StillOwes : {A : Type 0} → (A → Colour → ℕ → ℕ → List Event → Type 0) → A → A → Type 0
StillOwes owes before after = (c : Colour) (core count : ℕ) (trail : List Event)
    → owes before c core count trail → owes after c core count trail

-- the turn that a take of the colour gives: each of its events fits, and once they were run its
-- finish is owed
pub record IsTaken {A S F P : Type 0} (t : TrailWords S F)
    (fits : F → Colour → Event → Option P → Type 0) (setup_of : A → Setup) (core_of : A → ℕ)
    (frame_of : A → F) (owes : A → Colour → ℕ → ℕ → List Event → Type 0) (before after : A)
    (c : Colour) (turn : TurnState S P) : Type 0 where
  pub colour : turn.colour ≡ c
  pub core : turn.core ≡ core_of before
  pub count : turn.count ≡ length turn.events
  pub few : length turn.events ≤ (shape_of (setup_of before)).batch
  pub of_colour : t.colour_of turn.state ≡ c
  pub of_frame : t.frame_of turn.state ≡ frame_of before
  pub events_fit : EachFits (fits (frame_of before) c) turn.events
  pub owed : owes after c turn.core turn.count (t.trail_of turn.state ++ events_of turn.events)

-- all events of the turn were run, and its finish is owed
pub record IsSpent {A S F P : Type 0} (t : TrailWords S F) (setup_of : A → Setup) (frame_of : A → F)
    (owes : A → Colour → ℕ → ℕ → List Event → Type 0) (access : A)
    (turn : TurnState S P) : Type 0 where
  pub of_setup : IsColour (setup_of access) turn.colour
  pub none_left : turn.events ≡ []
  pub of_colour : t.colour_of turn.state ≡ turn.colour
  pub of_frame : t.frame_of turn.state ≡ frame_of access
  pub owed : owes access turn.colour turn.core turn.count (t.trail_of turn.state)

-- a core that the answer names, for a mark or a report, is one of the setup
abbrev pub NamesCore : Setup → Registered → Type 0
NamesCore setup (Woke owner started worth) = IsCore setup owner
NamesCore setup (Told owner started worth) = IsCore setup owner
NamesCore setup (Running core) = Unit {0}

-- the event and the load are handed back
abbrev pub GivesBack : {P : Type 0} → Event → Option P → Unregistered P → Type 0
GivesBack event load back = (back.event ≡ event) × (back.load ≡ load)
