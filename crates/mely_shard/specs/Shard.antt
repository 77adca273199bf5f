-- What callers see of a shard, and what its calls say of it.
use Rattle.std.specs.Prelude.{◌≡◌, ◌≢◌, ◌<◌, ◌≤◌, ◌+◌, ◌*◌, ◌%◌, ℕ, List, [], ◌∷◌, ◌++◌, Option, None, Some, length, map, take, drop, slice_get, slice_set, count_by, is_none}
use Rattle.mely_event.specs.declared.colour.Colour.{Colour}
use Rattle.mely_event.specs.declared.event.Event.{Event}
use Rattle.mely_event.specs.declared.trail.Trail.{Ghosts as TrailWords}
use Rattle.mely_history.specs.Setup.{shape_of, colours_of, pinned_of, is_listed}
pub use Rattle.mely_history.specs.Setup.{place}
use Rattle.mely_history.specs.declared.setup.Setup.{Setup}
use Rattle.mely_history.specs.declared.entry.Entry.{Entry}
use Rattle.mely_history.specs.declared.entry.Entry.TheVariants.{Reg, Take, Fin, Steal}
use Rattle.mely_history.specs.declared.registered.Registered.{Registered}
use Rattle.mely_history.specs.declared.registered.Registered.TheVariants.{Woke, Told, Running}
use Rattle.mely_history.specs.History.{registered_of, begun_of, ended_of, queued_of, owner_of, worth_of, last_take, IsRunning, ran_of}
use Rattle.mely_history.specs.Legal.{IsRunningOn, IsReady, MayTake, MaySteal, IsLegal, IsOfShard}
use Rattle.mely_history.specs.declared.no_take.NoTake.{NoTake}
use Rattle.mely_history.specs.declared.no_take.NoTake.TheVariants.{Elsewhere, Busy, Empty, Memory}
use Rattle.mely_history.specs.declared.after.After.{After}
use Rattle.mely_history.specs.declared.after.After.TheVariants.{More, Idle}
use Rattle.mely_history.specs.declared.no_steal.NoSteal.{NoSteal}
use Rattle.mely_history.specs.declared.no_steal.NoSteal.TheVariants as steals
use Rattle.mely_history.specs.declared.no_steal.NoSteal.TheVariants.{Pinned, Own, Cheap}
use Rattle.mely_history.specs.declared.stolen.Stolen.{Stolen}
use Rattle.mely_queue.specs.Turn.{TurnState, EachFits}
use Rattle.mely_history.specs.Kept.{limit_of}

-- one colour: its state where it is at home, the state that it was given at first, and the events
-- that wait with their loads
pub record ColourState (S P : Type 0) : Type 0 where
  pub state : Option S
  pub given : S
  pub events : List (Event × Option P)

-- the initial lane of a state
abbrev pub initial_lane : {S P : Type 0} → S → ColourState S P
initial_lane state = record { state = Some state; given = state; events = [] }

-- what a shard has
pub record ShardState (S P : Type 0) : Type 0 where
  pub setup : Setup
  pub shard : ℕ
  pub history : List Entry
  pub lanes : List (ColourState S P)
  pub spare : ℕ

-- the colour of a place in a shard
abbrev pub colour_at : Setup → ℕ → ℕ → Colour
colour_at setup shard i = record { 0 = i * (shape_of setup).shards + shard }

-- one state with an empty trail for each colour of the shard, in ascending order, all of one frame
pub record AreInitialStates {S F : Type 0} (t : TrailWords S F) (setup : Setup) (shard : ℕ)
    (states : List S) : Type 0 where
  pub all : (i : ℕ) → (colour_at setup shard i).0 < colours_of setup → i < length states
  pub only : (i : ℕ) → i < length states → (colour_at setup shard i).0 < colours_of setup
  pub coloured : (i : ℕ) (state : S) → slice_get states i ≡ Some state
      → t.colour_of state ≡ colour_at setup shard i
  pub untouched : (i : ℕ) (state : S) → slice_get states i ≡ Some state → t.trail_of state ≡ []
  pub one_frame : (i j : ℕ) (s u : S) → slice_get states i ≡ Some s → slice_get states j ≡ Some u
      → t.frame_of s ≡ t.frame_of u

-- what a shard has initially
pub record IsInitialShard {S P : Type 0} (setup : Setup) (shard : ℕ) (states : List S)
    (has : ShardState S P) : Type 0 where
  pub of_setup : has.setup ≡ setup
  pub of_shard : has.shard ≡ shard
  pub no_entry : has.history ≡ []
  pub lanes : has.lanes ≡ map initial_lane states

-- the lane of a colour, where the shard has it
abbrev pub lane_at : {S P : Type 0} → ShardState S P → Colour → Option (ColourState S P)
lane_at has c = slice_get has.lanes (place has.setup c)

-- the states that were given at first, by colour
abbrev pub givens : {S P : Type 0} → ShardState S P → List S
givens has = map (λ lane. lane.given) has.lanes

-- what stays over all calls: the setup, the number of the shard, and the states
-- that were given at first
pub record KeepsFrame {S P : Type 0} (old new : ShardState S P) : Type 0 where
  pub same_setup : new.setup ≡ old.setup
  pub same_shard : new.shard ≡ old.shard
  pub same_givens : givens new ≡ givens old

-- how many of its colours run: their states are away
abbrev pub running_in : {S P : Type 0} → ShardState S P → ℕ
running_in has = count_by (λ lane. is_none lane.state) has.lanes

-- the colour is one of the shard
pub record IsOwn {S P : Type 0} (has : ShardState S P) (c : Colour) : Type 0 where
  pub there : c.0 < colours_of has.setup
  pub here : c.0 % (shape_of has.setup).shards ≡ has.shard

-- all but the spare is the same
pub record KeepsAllButSpare {S P : Type 0} (old new : ShardState S P) : Type 0 where
  pub same_setup : new.setup ≡ old.setup
  pub same_shard : new.shard ≡ old.shard
  pub history : new.history ≡ old.history
  pub lanes : new.lanes ≡ old.lanes

-- one entry more, and one lane changed
pub record Appends {S P : Type 0} (old new : ShardState S P) (entry : Entry) (c : Colour)
    (lane : ColourState S P) : Type 0 where
  pub same_setup : new.setup ≡ old.setup
  pub same_shard : new.shard ≡ old.shard
  pub history : new.history ≡ old.history ++ entry ∷ []
  pub lanes : new.lanes ≡ slice_set old.lanes (place old.setup c) lane

-- the event waits behind the others
pub record Registers {S P : Type 0} (old new : ShardState S P) (c : Colour) (event : Event)
    (load : Option P) (by : ℕ) : Type 0 where
  pub before : ColourState S P
  pub was : lane_at old c ≡ Some before
  pub after : Appends old new (Reg c event by) c
      (record before { events = before.events ++ (event, load) ∷ [] })

-- what the reply to a registration says
abbrev pub RegisteredAs : Setup → List Entry → List Entry → Colour → Registered → Type 0
RegisteredAs setup old new c (Running core) = IsRunning old c
    × ((count : ℕ) × (last_take old c ≡ Some (core, count)))
RegisteredAs setup old new c (Woke core started worth) = (begun_of old c ≡ ended_of old c)
    × (queued_of old c ≡ []) × (core ≡ owner_of setup new c) × (started ≡ begun_of new c)
    × (worth ≡ worth_of setup new c)
RegisteredAs setup old new c (Told core started worth) = (begun_of old c ≡ ended_of old c)
    × (0 < length (queued_of old c)) × (core ≡ owner_of setup new c) × (started ≡ begun_of new c)
    × (worth ≡ worth_of setup new c)

-- a turn of a shard: its colour runs on it, the events that were run on its state and those that it
-- holds are all that were begun, its state is of the colour and has the shard's frame, and each
-- event that it holds fits its load
pub record TurnStands {S P F : Type 0} (t : TrailWords S F)
    (fits : F → Colour → Event → Option P → Type 0) (has : ShardState S P)
    (turn : TurnState S P) : Type 0 where
  pub away : IsRunningOn has.history turn.colour turn.core turn.count
  pub trailed : t.trail_of turn.state ++ map (λ e. e.0) turn.events
      ≡ take (begun_of has.history turn.colour) (registered_of has.history turn.colour)
  pub coloured : t.colour_of turn.state ≡ turn.colour
  pub framed : (i : ℕ) (given : S) → slice_get (givens has) i ≡ Some given
      → t.frame_of turn.state ≡ t.frame_of given
  pub fit : EachFits (fits (t.frame_of turn.state) turn.colour) turn.events

-- the state and the first events are moved out into a turn
pub record Takes {S P : Type 0} (old new : ShardState S P) (c : Colour) (core : ℕ)
    (turn : TurnState S P) : Type 0 where
  pub before : ColourState S P
  pub was : lane_at old c ≡ Some before
  pub home : S
  pub at_home : before.state ≡ Some home
  pub allowed : MayTake old.setup old.history c core turn.count
  pub made : turn ≡ record {
    colour = c;
    core = core;
    count = turn.count;
    state = home;
    given = home;
    events = take turn.count before.events;
  }
  pub after : Appends old new (Take c core turn.count) c (record before {
    state = None;
    events = drop turn.count before.events;
  })

-- why nothing is taken
abbrev pub NoTakeAs : Setup → List Entry → Colour → ℕ → NoTake → Type 0
NoTakeAs setup history c core (Elsewhere k) = (core ≢ owner_of setup history c)
    × (k ≡ owner_of setup history c)
NoTakeAs setup history c core (Busy k) = (core ≡ owner_of setup history c) × IsRunning history c
    × ((count : ℕ) × (last_take history c ≡ Some (k, count)))
NoTakeAs setup history c core (Empty n) = (core ≡ owner_of setup history c)
    × (begun_of history c ≡ ended_of history c) × (queued_of history c ≡ [])
    × (n ≡ length (registered_of history c))
NoTakeAs setup history c core Memory = (core ≡ owner_of setup history c) × IsReady history c

-- the state of the turn comes home
pub record Finishes {S P : Type 0} (old new : ShardState S P) (turn : TurnState S P) : Type 0 where
  pub before : ColourState S P
  pub was : lane_at old turn.colour ≡ Some before
  pub after : Appends old new (Fin turn.colour turn.core turn.count) turn.colour
      (record before { state = Some turn.state })

-- what is left
abbrev pub AfterAs : Setup → List Entry → Colour → After → Type 0
AfterAs setup history c (More started worth) = (0 < length (queued_of history c))
    × (started ≡ begun_of history c) × (worth ≡ worth_of setup history c)
AfterAs setup history c Idle = queued_of history c ≡ []

-- where the state of a colour is, and what it has
abbrev pub HomeStands : {S F : Type 0} → TrailWords S F → List Entry → Colour
    → S → Option S → Type 0
HomeStands t history c given None = IsRunning history c
HomeStands t history c given (Some state) = (begun_of history c ≡ ended_of history c)
    × (t.trail_of state ≡ ran_of history c) × (t.colour_of state ≡ c)
    × (t.frame_of state ≡ t.frame_of given)

-- a lane has what the history says of its colour
pub record LaneStands {S P F : Type 0} (t : TrailWords S F)
    (fits : F → Colour → Event → Option P → Type 0) (history : List Entry) (c : Colour)
    (lane : ColourState S P) : Type 0 where
  pub events : map (λ e. e.0) lane.events ≡ queued_of history c
  pub fit : EachFits (fits (t.frame_of lane.given) c) lane.events
  pub state : HomeStands t history c lane.given lane.state

-- what a shard keeps: its history is legal and its own, and there is a lane for each of its
-- colours, of one frame, which has what the history says; its entries, those that finish the
-- colours that run, and the spare are together within the limit of a history that is listed or not
pub record IsConsistent {S P F : Type 0} (t : TrailWords S F)
    (fits : F → Colour → Event → Option P → Type 0) (has : ShardState S P) : Type 0 where
  pub legal : IsLegal has.setup has.history
  pub numbered : has.shard < (shape_of has.setup).shards
  pub of_shard : IsOfShard has.setup has.shard has.history
  pub found : (c : Colour) → IsOwn has c → place has.setup c < length has.lanes
  pub only : (i : ℕ) → i < length has.lanes → (colour_at has.setup has.shard i).0
      < colours_of has.setup
  pub one_frame : (i j : ℕ) (a b : ColourState S P) → slice_get has.lanes i ≡ Some a
      → slice_get has.lanes j ≡ Some b → t.frame_of a.given ≡ t.frame_of b.given
  pub each : (c : Colour) (lane : ColourState S P) → IsOwn has c → lane_at has c ≡ Some lane
      → LaneStands t fits has.history c lane
  pub within_limit : length has.history + running_in has + has.spare
      ≤ limit_of (is_listed has.setup)

-- what is told of a ready colour; nothing where it runs or nothing is queued
abbrev pub ReadyAs : Setup → List Entry → Colour → Option (ℕ × ℕ × ℕ) → Type 0
ReadyAs setup history c None = ¬ IsReady history c
ReadyAs setup history c (Some told) = IsReady history c × (told.0 ≡ owner_of setup history c)
    × (told.1 ≡ begun_of history c) × (told.2 ≡ worth_of setup history c)

-- the owner is another, and all else stays
pub record Steals {S P : Type 0} (old new : ShardState S P) (c : Colour) (to : ℕ)
    (stolen : Stolen) : Type 0 where
  pub allowed : MaySteal old.setup old.history c stolen.from to
  pub same_setup : new.setup ≡ old.setup
  pub same_shard : new.shard ≡ old.shard
  pub history : new.history ≡ old.history ++ Steal c stolen.from to ∷ []
  pub lanes : new.lanes ≡ old.lanes
  pub started : stolen.started ≡ begun_of new.history c
  pub worth : stolen.worth ≡ worth_of new.setup new.history c

-- why nothing is stolen
abbrev pub NoStealAs : Setup → List Entry → Colour → ℕ → NoSteal → Type 0
NoStealAs setup history c to (Pinned colour) = (c.0 < pinned_of setup) × (colour ≡ c)
NoStealAs setup history c to Own = (pinned_of setup ≤ c.0) × (to ≡ owner_of setup history c)
NoStealAs setup history c to (steals.Busy k) = (pinned_of setup ≤ c.0)
    × (to ≢ owner_of setup history c) × IsRunning history c
    × ((count : ℕ) × (last_take history c ≡ Some (k, count)))
NoStealAs setup history c to (steals.Empty n) = (pinned_of setup ≤ c.0)
    × (to ≢ owner_of setup history c) × (begun_of history c ≡ ended_of history c)
    × (queued_of history c ≡ []) × (n ≡ length (registered_of history c))
NoStealAs setup history c to (Cheap worth) = (pinned_of setup ≤ c.0)
    × (to ≢ owner_of setup history c) × IsReady history c × (worth ≡ worth_of setup history c)
    × (worth ≤ (shape_of setup).steal_cost)
NoStealAs setup history c to steals.Memory = (pinned_of setup ≤ c.0)
    × (to ≢ owner_of setup history c) × IsReady history c
    × ((shape_of setup).steal_cost < worth_of setup history c)

-- each event that was registered on the colour is, once, among those that were run, those of the
-- turn that is out, or those that wait with their loads, and in that order
pub record StandsOnce {S P : Type 0} (has : ShardState S P) (c : Colour)
    (lane : ColourState S P) : Type 0 where
  pub out : List Event
  pub once : registered_of has.history c ≡ ran_of has.history c ++ out ++ map (λ e. e.0) lane.events
  pub none_out : ¬ IsRunning has.history c → out ≡ []
