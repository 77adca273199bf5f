-- All states and all events under way of a weave, wherever they are.
use Rattle.std.specs.Prelude.{List, [], ◌∷◌, ◌++◌, Option, map, flat_map}
use Rattle.mely_event.specs.declared.colour.Colour.{Colour}
use Rattle.mely_event.specs.declared.event.Event.{Event}
use Rattle.mely_shard.specs.Shard.{ShardState}
use Rattle.mely_worker.specs.declared.phase.Phase.{Phase}
use Rattle.mely_worker.specs.declared.phase.Phase.TheVariants.{Free, Popped, Picked, Landing, Pushing, Turning}
use Rattle.mely_worker.specs.Outs.{in_place}
use Rattle.mely_worker.specs.Worker.{WorkerState}
use Rattle.mely_weave.specs.Weave.{WeaveState}

-- an event with its load
abbrev pub Carried : Type 0 → Type 0
Carried P = Event × Option P

-- the states that a shard has at home
abbrev pub homes_in : {S P : Type 0} → ShardState S P → List S
homes_in has = flat_map (λ lane. in_place lane.state) has.lanes

-- the events that wait in a shard
abbrev pub waiting_in : {S P : Type 0} → ShardState S P → List (Carried P)
waiting_in has = flat_map (λ lane. lane.events) has.lanes

-- registrations without their colours
abbrev pub carried_by : {P : Type 0} → List (Colour × Event × Option P) → List (Carried P)
carried_by puts = map (λ put. (put.1, put.2)) puts

-- the state that a worker turns on
abbrev pub turned_in : {S P : Type 0} → Phase S P → List S
turned_in (Free place) = []
turned_in (Popped mark) = []
turned_in (Picked mark victim) = []
turned_in (Landing mark) = []
turned_in (Pushing core mark) = []
turned_in (Turning turn hand puts) = turn.state ∷ []

-- the events of its turn that are left, and what its last handler put and that is left to register
abbrev pub on_hand : {S P : Type 0} → Phase S P → List (Carried P)
on_hand (Free place) = []
on_hand (Popped mark) = []
on_hand (Picked mark victim) = []
on_hand (Landing mark) = []
on_hand (Pushing core mark) = []
on_hand (Turning turn hand puts) = turn.events ++ carried_by puts

-- the state of the turn of a worker, where it has one
abbrev pub turned_by : {S P : Type 0} → WorkerState S P → List S
turned_by w = turned_in w.phase

-- what a worker was refused for memory
abbrev pub refused_to : {S P : Type 0} → WorkerState S P → List (Carried P)
refused_to w = carried_by w.lost

-- the events that a worker has and that are still to be run: those left of its turn, what is left
-- to register, and what it was refused for memory
abbrev pub hold_of : {S P : Type 0} → WorkerState S P → List (Carried P)
hold_of w = on_hand w.phase ++ refused_to w

-- the states of all colours: at home, or out in turns
abbrev pub states_of : {S P : Type 0} → WeaveState S P → List S
states_of weave = flat_map homes_in weave.shards ++ flat_map turned_by weave.workers

-- all events that were put or posted and not yet run: they wait, are left of turns, are left to
-- register, or were refused for memory
abbrev pub under_way : {S P : Type 0} → WeaveState S P → List (Carried P)
under_way weave = flat_map waiting_in weave.shards ++ flat_map hold_of weave.workers

-- the events that were refused for memory, by core
abbrev pub refused_in : {S P : Type 0} → WeaveState S P → List (Carried P)
refused_in weave = flat_map refused_to weave.workers
