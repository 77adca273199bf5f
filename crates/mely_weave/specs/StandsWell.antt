-- A weave, and how it stands: the rules on colours, histories, marks and turns that hold
-- whatever steps were made.
use Rattle.std.specs.Prelude.{◌≡◌, ◌≢◌, ◌≤◌, ◌<◌, ℕ, List, Option, Some, length, slice_get}
use Rattle.mely_event.specs.declared.colour.Colour.{Colour}
use Rattle.mely_event.specs.declared.event.Event.{Event}
use Rattle.mely_event.specs.declared.trail.Trail.{Ghosts as TrailWords}
use Rattle.mely_history.specs.declared.setup.Setup.{Setup}
use Rattle.mely_history.specs.Setup.{shape_of, pinned_of}
use Rattle.mely_history.specs.Legal.{IsRunningOn}
use Rattle.mely_shard.specs.Shard.{ShardState}
use Rattle.mely_steal.specs.Victims.{victims_of}
use Rattle.mely_core.specs.CoreQueue.{CoreQueueState}
use Rattle.mely_worker.specs.declared.phase.Phase.{Phase}
use Rattle.mely_worker.specs.declared.phase.Phase.TheVariants.{Free, Popped, Picked, Landing, Pushing, Turning}
use Rattle.mely_worker.specs.declared.delivery.Delivery.{Delivery}
use Rattle.mely_worker.specs.declared.delivery.Delivery.TheVariants.{Nothing, PushMark, Report}
use Rattle.mely_worker.specs.declared.made.Made.{Made}
use Rattle.mely_worker.specs.declared.made.Made.TheVariants as made
use Rattle.mely_worker.specs.Worker.{WorkerState}
use Rattle.mely_worker.specs.Conditions.{MayStep}
use Rattle.mely_weave.specs.Side.{SideState, Readiness, history_for, readiness_for}
use Rattle.mely_weave.specs.Marks.{MarksStand, marks_in_system}
use Rattle.mely_weave.specs.Hands.{held_by, colour_run_by}
use Rattle.mely_weave.specs.Calls.{IsOut}
use Rattle.mely_weave.specs.SideStands.{ShardStands, ChainStands}
use Rattle.mely_weave.specs.Weave.{WeaveState}

-- its shards and chains, from the side of a core
abbrev pub side_of : {S P : Type 0} → WeaveState S P → ℕ → SideState S P
side_of weave core = record {
  setup = weave.setup;
  core = core;
  given = weave.given;
  shards = weave.shards;
  chains = weave.chains;
}

-- a report says no more than is so, unless more was begun since
abbrev pub ReportIsTold : (Colour → Readiness) → Delivery → Type 0
ReportIsTold of Nothing = Unit {0}
ReportIsTold of (PushMark core mark) = Unit {0}
ReportIsTold of (Report core colour started worth) = (started ≤ (of colour).begun)
    × (started ≡ (of colour).begun → worth ≤ (of colour).worth)

-- a turn is of the worker's own core, and a picked mark is from another core, worth a steal, and of
-- a colour that isn't pinned
abbrev pub PhaseIsTold : {S P : Type 0} → Setup → (Colour → Readiness) → ℕ → Phase S P → Type 0
PhaseIsTold setup of core (Free place) = Unit {0}
PhaseIsTold setup of core (Popped mark) = Unit {0}
PhaseIsTold setup of core (Picked mark victim) = (victim ≢ core)
    × ((shape_of setup).steal_cost < mark.worth) × (pinned_of setup ≤ mark.colour.0)
PhaseIsTold setup of core (Landing mark) = Unit {0}
PhaseIsTold setup of core (Pushing to mark) = Unit {0}
PhaseIsTold setup of core (Turning turn hand puts) = (turn.core ≡ core) × ReportIsTold of hand

-- the step isn't one in which a mark was dropped because its colour was refused
abbrev pub WasntRefused : Made → Type 0
WasntRefused (made.NotTaken why) = ⊥
WasntRefused (made.NotStolen why) = ⊥
WasntRefused other = Unit {0}

-- some worker of the core runs the colour
pub record IsTurningOn {S P : Type 0} (workers : List (WorkerState S P)) (core : ℕ)
    (c : Colour) : Type 0 where
  pub worker : WorkerState S P
  pub there : slice_get workers core ≡ Some worker
  pub turning : colour_run_by worker ≡ Some c

module _ {S P F : Type 0} (t : TrailWords S F) (fits : F → Colour → Event → Option P → Type 0)
    (weave : WeaveState S P) where
  -- a worker is that of its core, with the batch and the victims of the setup
  pub record WorkerStands (core : ℕ) (w : WorkerState S P) : Type 0 where
    -- Its turn is out on its core: it has the count of the colour's last take, and what was run of
    -- it with what is left is what was begun. The state is of the colour and has the frame. Each
    -- registration that is left or lost is of a colour and a handler of the setup, and event and load
    -- fit.
    pub may : MayStep t fits weave.setup core (t.frame_of weave.given) (IsOut (side_of weave core))
        w
    pub victims : w.victims
        ≡ victims_of core (shape_of weave.setup).cores (shape_of weave.setup).group
    pub told : PhaseIsTold weave.setup (readiness_for weave.setup weave.shards) core w.phase

  -- What holds of a weave between any two calls, whatever calls were made: its shards, its chains
  -- and its workers are as many as the setup says and keep their rules, and they agree on which
  -- colours are ready and which run.
  pub record StandsWell : Type 0 where
    -- The histories are legal. What waits of a colour is what is queued by its history,
    -- and each event fits its load. The state of a colour that rests is at home, with
    -- the trail of what was run.
    pub shards : length weave.shards ≡ (shape_of weave.setup).shards
    pub shard : (number : ℕ) (has : ShardState S P) → slice_get weave.shards number ≡ Some has
        → ShardStands t fits weave.setup (t.frame_of weave.given) number has
    pub chains : length weave.chains ≡ (shape_of weave.setup).cores
    pub chain : (core : ℕ) (queue : CoreQueueState) → slice_get weave.chains core ≡ Some queue
        → ChainStands weave.setup queue
    -- A ready colour has one mark, in a chain or a hand, and no other colour has one. It is for the
    -- owner, and says how many events were begun and no more than the worth.
    pub marks : MarksStand (readiness_for weave.setup weave.shards)
        (marks_in_system held_by weave.chains weave.workers)
    pub workers : length weave.workers ≡ (shape_of weave.setup).cores
    pub worker : (core : ℕ) (w : WorkerState S P) → slice_get weave.workers core
        ≡ Some w → WorkerStands core w
    -- Where a colour runs on a core, the core's worker is turning on it.
    pub running : (c : Colour) (core count : ℕ)
        → IsRunningOn (history_for weave.setup weave.shards c) c core count
        → IsTurningOn weave.workers core c
