-- How a weave stands, in eight parts: what StandsWell keeps, rule by rule.
use Rattle.std.specs.Prelude.{◌≡◌, ◌≢◌, ◌≤◌, ◌<◌, ◌++◌, ℕ, List, Option, None, Some, length, map, take, slice_get, count_by}
use Rattle.std.specs.List.{AllByRecursion}
use Rattle.mely_event.specs.declared.colour.Colour.{Colour}
use Rattle.mely_event.specs.declared.event.Event.{Event}
use Rattle.mely_event.specs.declared.mark.Mark.{Mark}
use Rattle.mely_event.specs.declared.trail.Trail.{Ghosts as TrailWords}
use Rattle.mely_history.specs.declared.entry.Entry.{Entry}
use Rattle.mely_history.specs.Setup.{shape_of, pinned_of}
use Rattle.mely_history.specs.History.{registered_of, begun_of, owner_of, queued_of, ran_of, worth_of, IsRunning}
use Rattle.mely_history.specs.Legal.{AreLegal, IsReady, IsRunningOn}
use Rattle.mely_queue.specs.Turn.{TurnState, EachFits}
use Rattle.mely_shard.specs.Shard.{ColourState}
use Rattle.mely_worker.specs.declared.phase.Phase.TheVariants.{Picked, Turning}
use Rattle.mely_worker.specs.declared.delivery.Delivery.{Delivery}
use Rattle.mely_worker.specs.declared.delivery.Delivery.TheVariants.{Report}
use Rattle.mely_worker.specs.Access.{IsColour, FitsSetup, events_of}
use Rattle.mely_worker.specs.Worker.{WorkerState}
use Rattle.mely_weave.specs.Side.{history_for}
use Rattle.mely_weave.specs.Marks.{Placed, is_of, marks_in_system}
use Rattle.mely_weave.specs.Hands.{held_by}
use Rattle.mely_weave.specs.Lanes.{lane_for}
use Rattle.mely_weave.specs.StandsWell.{IsTurningOn}
use Rattle.mely_weave.specs.Weave.{WeaveState}

module _ {S P F : Type 0} (t : TrailWords S F) (fits : F → Colour → Event → Option P → Type 0)
    (weave : WeaveState S P) where
  -- the history of a colour's shard
  abbrev pub history_of : Colour → List Entry
  history_of c = history_for weave.setup weave.shards c

  -- all marks, in chains and in hands, each with the core that it is for: that of its chain, the
  -- worker's own for a popped mark and one that is to land, the victim for a picked one, and the
  -- target for one that is to be pushed
  abbrev pub placed_marks : List Placed
  placed_marks = marks_in_system held_by weave.chains weave.workers

  -- a mark is held, for a core
  abbrev pub IsHeld : ℕ → Mark → Type 0
  IsHeld core mark = (i : ℕ) × (slice_get placed_marks i ≡ Some (core, mark))

  -- the worker of a core is turning
  abbrev pub Turns : ℕ → TurnState S P → Delivery → List (Colour × Event × Option P) → Type 0
  Turns core turn hand puts = (w : WorkerState S P)
      × ((slice_get weave.workers core ≡ Some w) × (w.phase ≡ Turning turn hand puts))

  -- beside the parts: there is a shard for each number, a lane for each colour, and a chain
  -- and a worker for each core
  pub record IsWhole : Type 0 where
    pub shards : length weave.shards ≡ (shape_of weave.setup).shards
    pub lanes : (c : Colour) → IsColour weave.setup c → (lane : ColourState S P)
        × (lane_for weave.setup weave.shards c ≡ Some lane)
    pub chains : length weave.chains ≡ (shape_of weave.setup).cores
    pub workers : length weave.workers ≡ (shape_of weave.setup).cores
    pub own_core : (core : ℕ) (w : WorkerState S P) → slice_get weave.workers core
        ≡ Some w → w.core ≡ core

  -- 1: the histories are legal, and what waits of a colour is what its history says is queued,
  -- where each event fits its load
  pub record HistoriesStand : Type 0 where
    pub legal : AreLegal weave.setup (map (λ has. has.history) weave.shards)
    pub queued : (c : Colour) (lane : ColourState S P) → IsColour weave.setup c
        → lane_for weave.setup weave.shards c ≡ Some lane → map (λ e. e.0) lane.events
        ≡ queued_of (history_of c) c
    pub fit : (c : Colour) (lane : ColourState S P) → IsColour weave.setup c
        → lane_for weave.setup weave.shards c ≡ Some lane
        → EachFits (fits (t.frame_of weave.given) c) lane.events

  -- 2: a colour has one mark where it rests while something waits, and none otherwise
  pub record MarksAreOne : Type 0 where
    pub one : (c : Colour) → IsReady (history_of c) c → count_by (is_of c) placed_marks ≡ 1
    pub none : (c : Colour) → ¬ IsReady (history_of c) c → count_by (is_of c) placed_marks ≡ 0

  -- 3: each mark is for the owner of its colour, and a thief isn't the owner
  pub record MarksAreForOwners : Type 0 where
    pub owner : (core : ℕ) (mark : Mark) → IsHeld core mark
        → core ≡ owner_of weave.setup (history_of mark.colour) mark.colour
    pub thief : (core victim : ℕ) (w : WorkerState S P) (mark : Mark) → slice_get weave.workers core
        ≡ Some w → w.phase ≡ Picked mark victim → victim ≢ core

  -- 4: each mark says how many events were begun and no more than the worth, and a picked one is
  -- worth a steal and of a colour that isn't pinned
  pub record MarksAreTold : Type 0 where
    pub started : (core : ℕ) (mark : Mark) → IsHeld core mark
        → mark.started ≡ begun_of (history_of mark.colour) mark.colour
    pub worth : (core : ℕ) (mark : Mark) → IsHeld core mark
        → mark.worth ≤ worth_of weave.setup (history_of mark.colour) mark.colour
    pub worthy : (core victim : ℕ) (w : WorkerState S P) (mark : Mark)
        → slice_get weave.workers core
        ≡ Some w → w.phase ≡ Picked mark victim → (shape_of weave.setup).steal_cost < mark.worth
    pub loose : (core victim : ℕ) (w : WorkerState S P) (mark : Mark) → slice_get weave.workers core
        ≡ Some w → w.phase ≡ Picked mark victim → pinned_of weave.setup ≤ mark.colour.0

  -- 5: a report says no more events than were begun, and where it says as
  -- many no more than the worth
  pub record ReportsAreTold : Type 0 where
    pub started : (core to : ℕ) (turn : TurnState S P) (c : Colour) (started worth : ℕ)
        (puts : List (Colour × Event × Option P)) → Turns core turn (Report to c started worth) puts
        → started ≤ begun_of (history_of c) c
    pub worth : (core to : ℕ) (turn : TurnState S P) (c : Colour) (started worth : ℕ)
        (puts : List (Colour × Event × Option P)) → Turns core turn (Report to c started worth) puts
        → started ≡ begun_of (history_of c) c → worth ≤ worth_of weave.setup (history_of c) c

  -- 6: a worker turns on a colour exactly where the colour runs on its core; the turn has the count
  -- of that take, and what was run on its state with what is left is what was begun
  pub record TurnsStand : Type 0 where
    pub runs : (core : ℕ) (turn : TurnState S P) (hand : Delivery) (puts : List (Colour × Event
        × Option P)) → Turns core turn hand puts
        → IsRunningOn (history_of turn.colour) turn.colour core turn.count
    pub turns : (c : Colour) (core count : ℕ) → IsRunningOn (history_of c) c core count
        → IsTurningOn weave.workers core c
    pub trailed : (core : ℕ) (turn : TurnState S P) (hand : Delivery) (puts : List (Colour × Event
        × Option P)) → Turns core turn hand puts → t.trail_of turn.state ++ events_of turn.events
        ≡ take (begun_of (history_of turn.colour) turn.colour)
        (registered_of (history_of turn.colour) turn.colour)

  -- a state is at home: it is of the colour, has the frame, and its trail is what was run
  pub record IsHomeState (c : Colour) (state : S) : Type 0 where
    pub trail : t.trail_of state ≡ ran_of (history_of c) c
    pub colour : t.colour_of state ≡ c
    pub frame : t.frame_of state ≡ t.frame_of weave.given

  -- a state is in a turn: it is of the colour and has the frame
  pub record IsTurnState (turn : TurnState S P) : Type 0 where
    pub colour : t.colour_of turn.state ≡ turn.colour
    pub frame : t.frame_of turn.state ≡ t.frame_of weave.given

  -- 7: the state of a colour is at home where the colour doesn't run, and in the turn where it does
  pub record StatesStand : Type 0 where
    pub home : (c : Colour) (lane : ColourState S P) → IsColour weave.setup c
        → lane_for weave.setup weave.shards c ≡ Some lane → ¬ IsRunning (history_of c) c
        → (state : S)
        × ((lane.state ≡ Some state) × IsHomeState c state)
    pub away : (c : Colour) (lane : ColourState S P) → IsColour weave.setup c
        → lane_for weave.setup weave.shards c ≡ Some lane
        → IsRunning (history_of c) c → lane.state ≡ None
    pub turn : (core : ℕ) (turn : TurnState S P) (hand : Delivery) (puts : List (Colour × Event
        × Option P)) → Turns core turn hand puts → IsTurnState turn

  -- 8: each registration that a worker has left or has lost is of a colour and a handler of the
  -- setup, and event and load fit
  pub record RegistrationsFit : Type 0 where
    pub left : (core : ℕ) (turn : TurnState S P) (hand : Delivery) (puts : List (Colour × Event
        × Option P)) → Turns core turn hand puts
        → AllByRecursion (FitsSetup fits weave.setup (t.frame_of weave.given)) puts
    pub lost : (core : ℕ) (w : WorkerState S P) → slice_get weave.workers core ≡ Some w
        → AllByRecursion (FitsSetup fits weave.setup (t.frame_of weave.given)) w.lost

  -- the rules of a weave, whatever steps were made
  pub record WeaveStands : Type 0 where
    pub whole : IsWhole
    pub histories : HistoriesStand
    pub one_mark : MarksAreOne
    pub owners : MarksAreForOwners
    pub marks : MarksAreTold
    pub reports : ReportsAreTold
    pub turns : TurnsStand
    pub states : StatesStand
    pub registrations : RegistrationsFit
