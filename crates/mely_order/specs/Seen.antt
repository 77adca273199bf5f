-- One colour of a weave, wherever its state and its events are.
use Rattle.std.specs.Prelude.{◌==◌, if◌then◌else◌, List, [], ◌∷◌, ◌++◌, Option, None, Some, flat_map}
use Rattle.mely_event.specs.declared.colour.Colour.{Colour}
use Rattle.mely_event.specs.declared.event.Event.{Event}
use Rattle.mely_queue.specs.Turn.{TurnState}
use Rattle.mely_shard.specs.Shard.{ColourState}
use Rattle.mely_worker.specs.declared.phase.Phase.{Phase}
use Rattle.mely_worker.specs.declared.phase.Phase.TheVariants.{Free, Popped, Picked, Landing, Pushing, Turning}
use Rattle.mely_worker.specs.Worker.{WorkerState}
use Rattle.mely_weave.specs.Lanes.{lane_for}
use Rattle.mely_weave.specs.Weave.{WeaveState}
use Rattle.mely_tally.specs.Tallies.{Carried}

-- what a handler puts: a colour, an event, and its load
abbrev pub Put : Type 0 → Type 0
Put P = Colour × Event × Option P

-- a turn that is out, and what its last handler put and that is left to register
pub record TurnOut (S P : Type 0) : Type 0 where
  pub turn : TurnState S P
  pub puts : List (Put P)

-- the turn of a worker, where it is one of the colour
abbrev pub turn_in : {S P : Type 0} → Colour → Phase S P → List (TurnOut S P)
turn_in c (Free place) = []
turn_in c (Popped mark) = []
turn_in c (Picked mark victim) = []
turn_in c (Landing mark) = []
turn_in c (Pushing core mark) = []
turn_in c (Turning turn hand puts) =
    if turn.colour.0 == c.0 then record { turn = turn; puts = puts } ∷ [] else []

-- the turns of a colour, by core; a weave that stands well has one at most
abbrev pub turns_of : {S P : Type 0} → Colour → List (WorkerState S P) → List (TurnOut S P)
turns_of c workers = flat_map (λ w. turn_in c w.phase) workers

-- what is seen of a colour
pub record ColourSeen (S P : Type 0) : Type 0 where
  -- its state, in its turn or at home
  pub state : Option S
  -- the events that are still to be run on it, in this order: those left of its turn, and those
  -- that wait behind them
  pub line : List (Carried P)
  -- what its last handler put and that is left to register, in this order
  pub puts : List (Put P)

-- what the lane of a colour has
abbrev pub lane_state : {S P : Type 0} → Option (ColourState S P) → Option S
lane_state None = None
lane_state (Some lane) = lane.state

abbrev pub lane_events : {S P : Type 0} → Option (ColourState S P) → List (Carried P)
lane_events None = []
lane_events (Some lane) = lane.events

-- what its turn has, where one is out
abbrev pub state_in : {S P : Type 0} → List (TurnOut S P) → Option S → Option S
state_in [] home = home
state_in (out ∷ more) home = Some out.turn.state

abbrev pub left_in : {S P : Type 0} → List (TurnOut S P) → List (Carried P)
left_in [] = []
left_in (out ∷ more) = out.turn.events

abbrev pub puts_in : {S P : Type 0} → List (TurnOut S P) → List (Put P)
puts_in [] = []
puts_in (out ∷ more) = out.puts

-- a colour as it is seen, of its turns and its lane
abbrev pub seen_in : {S P : Type 0} → List (TurnOut S P) → Option (ColourState S P)
    → ColourSeen S P
seen_in turns lane = record {
  state = state_in turns (lane_state lane);
  line = left_in turns ++ lane_events lane;
  puts = puts_in turns;
}

-- a colour of a weave
abbrev pub seen : {S P : Type 0} → Colour → WeaveState S P → ColourSeen S P
seen c weave = seen_in (turns_of c weave.workers) (lane_for weave.setup weave.shards c)

-- what the workers were refused for memory, by core, with the colours on which it was to be
-- registered
abbrev pub lost_in : {S P : Type 0} → WeaveState S P → List (Put P)
lost_in weave = flat_map (λ w. w.lost) weave.workers
