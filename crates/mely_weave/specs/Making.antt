-- An initial weave: the states that it is made of, and its empty chains and free workers.
use Rattle.std.specs.Prelude.{◌≡◌, ℕ, false, List, [], Some, length, slice_get}
use Rattle.mely_event.specs.declared.colour.Colour.{Colour}
use Rattle.mely_event.specs.declared.event.Event.{Event}
use Rattle.mely_event.specs.declared.trail.Trail.{Ghosts as TrailWords}
use Rattle.mely_history.specs.declared.setup.Setup.{Setup}
use Rattle.mely_history.specs.Setup.{shape_of, colours_of, pinned_of}
use Rattle.mely_shard.specs.Shard.{ShardState, initial_lane}
use Rattle.mely_steal.specs.Victims.{victims_of}
use Rattle.mely_core.specs.CoreQueue.{CoreQueueState, empty_core}
use Rattle.mely_worker.specs.declared.phase.Phase.TheVariants.{Free}
use Rattle.mely_worker.specs.IdleWorker.{IdleWorkerState}
use Rattle.mely_worker.specs.Worker.{WorkerState}
use Rattle.mely_weave.specs.Lanes.{lane_for}
use Rattle.mely_weave.specs.Weave.{WeaveState}

-- one state with an empty trail for each colour, in ascending order, all of one frame
pub record AreInitial {S F : Type 0} (t : TrailWords S F) (setup : Setup)
    (states : List S) : Type 0 where
  pub all : length states ≡ colours_of setup
  pub coloured : (i : ℕ) (state : S) → slice_get states i ≡ Some state
      → t.colour_of state ≡ record { 0 = i }
  pub untouched : (i : ℕ) (state : S) → slice_get states i ≡ Some state → t.trail_of state ≡ []
  pub one_frame : (i j : ℕ) (a b : S) → slice_get states i ≡ Some a → slice_get states j ≡ Some b
      → t.frame_of a ≡ t.frame_of b

-- initial states of the colours below a number, in ascending order: one for each,
-- on which nothing was run
pub record AreInitialBelow {S : Type 0} (colour_of : S → Colour) (trail_of : S → List Event)
    (count : ℕ) (states : List S) : Type 0 where
  pub many : length states ≡ count
  pub each : (i : ℕ) (state : S) → slice_get states i ≡ Some state
      → (colour_of state ≡ record { 0 = i }) × (trail_of state ≡ [])

-- an empty chain
abbrev pub empty_chain : Setup → CoreQueueState
empty_chain setup = empty_core (colours_of setup) (shape_of setup).steal_cost (pinned_of setup)

-- the initial worker of a core
abbrev pub initial_worker : {S P : Type 0} → Setup → ℕ → WorkerState S P
initial_worker setup core = record {
  core = core;
  batch = (shape_of setup).batch;
  halted = false;
  victims = victims_of core (shape_of setup).cores (shape_of setup).group;
  lost = [];
  phase = Free 0;
}

-- the initial worker of a core, at rest
abbrev pub initial_idle_worker : {P : Type 0} → Setup → ℕ → IdleWorkerState P
initial_idle_worker setup core = record {
  core = core;
  batch = (shape_of setup).batch;
  halted = false;
  victims = victims_of core (shape_of setup).cores (shape_of setup).group;
  lost = [];
  place = 0;
}

-- nothing was registered, each colour has the state that it was given, the chains are empty,
-- and the workers are free
pub record IsInitialWeave {S P : Type 0} (setup : Setup) (states : List S)
    (weave : WeaveState S P) : Type 0 where
  pub of_setup : weave.setup ≡ setup
  pub no_entry : (shard : ℕ) (has : ShardState S P) → slice_get weave.shards shard
      ≡ Some has → has.history ≡ []
  pub lane : (c : Colour) (state : S) → slice_get states c.0 ≡ Some state
      → lane_for weave.setup weave.shards c ≡ Some (initial_lane state)
  pub chain : (core : ℕ) (queue : CoreQueueState) → slice_get weave.chains core ≡ Some queue
      → queue ≡ empty_chain setup
  pub worker : (core : ℕ) (w : WorkerState S P) → slice_get weave.workers core ≡ Some w
      → w ≡ initial_worker setup core
