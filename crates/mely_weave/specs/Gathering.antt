-- What a weave is gathered from, and what it has then.
use Rattle.std.specs.Prelude.{◌≡◌, ◌==◌, ◌&&◌, ℕ, Bool, IsTrue, List, Option, Some, length, map, filter, slice_get}
use Rattle.std.specs.List.{range_with_len, AllByRecursion}
use Rattle.mely_event.specs.declared.colour.Colour.{Colour}
use Rattle.mely_event.specs.declared.event.Event.{Event}
use Rattle.mely_event.specs.declared.mark.Mark.{Mark}
use Rattle.mely_event.specs.declared.trail.Trail.{Ghosts as TrailWords}
use Rattle.mely_history.specs.declared.setup.Setup.{Setup}
use Rattle.mely_history.specs.Setup.{shape_of, colours_of, pinned_of}
use Rattle.mely_history.specs.History.{IsRunning}
use Rattle.mely_history.specs.Legal.{IsLegal}
use Rattle.mely_shard.specs.Shard.{ShardState, IsOwn, givens}
use Rattle.mely_steal.specs.StealQueue.{is_worthy}
use Rattle.mely_steal.specs.Victims.{victims_of}
use Rattle.mely_core.specs.CoreQueue.{CoreQueueState}
use Rattle.mely_worker.specs.Access.{FitsSetup}
use Rattle.mely_worker.specs.Phase.{is_free}
use Rattle.mely_worker.specs.Worker.{WorkerState}
use Rattle.mely_weave.specs.Side.{Readiness, readiness_for}

-- all colours below a number, in ascending order
abbrev pub colours_below : ℕ → List Colour
colours_below n = map (λ k. record { 0 = k }) (range_with_len 0 n)

-- the colour is ready, and this core owns it
abbrev pub is_ready_on : (Colour → Readiness) → ℕ → Colour → Bool
is_ready_on of core c = (of c).ready && ((of c).owner == core)

-- the mark that says of a colour what is so
abbrev pub mark_for : (Colour → Readiness) → Colour → Mark
mark_for of c = record { colour = c; started = (of c).begun; worth = (of c).worth }

-- the marks of the ready colours of a core below a number, in ascending order
abbrev pub marks_below : (Colour → Readiness) → ℕ → ℕ → List Mark
marks_below of core n = map (mark_for of) (filter (is_ready_on of core) (colours_below n))

-- a chain into which these marks were pushed, in this order
abbrev pub chain_of : Setup → List Mark → CoreQueueState
chain_of setup marks = record {
  chain = marks;
  worthy = filter (is_worthy (shape_of setup).steal_cost (pinned_of setup)) marks;
  colours = colours_of setup;
  cost = (shape_of setup).steal_cost;
  pinned = pinned_of setup;
}

-- each core's chain has the marks of the ready colours below a number that the core owns
pub record AreChained (setup : Setup) (of : Colour → Readiness) (n : ℕ)
    (chains : List CoreQueueState) : Type 0 where
  pub many : length chains ≡ (shape_of setup).cores
  pub each : (core : ℕ) (queue : CoreQueueState) → slice_get chains core ≡ Some queue
      → queue ≡ chain_of setup (marks_below of core n)

-- each core's chain has the marks of all ready colours that the core owns
abbrev pub AreChainedAnew : {S P : Type 0} → Setup → List (ShardState S P) → List CoreQueueState
    → Type 0
AreChainedAnew setup shards chains =
    AreChained setup (readiness_for setup shards) (colours_of setup) chains

-- a shard that is gathered: it is the setup's shard of this number, and no colour of it runs
pub record MayGatherShard {S P F : Type 0} (t : TrailWords S F) (setup : Setup) (frame : F)
    (number : ℕ) (has : ShardState S P) : Type 0 where
  pub of_setup : has.setup ≡ setup
  pub numbered : has.shard ≡ number
  pub at_rest : (c : Colour) → IsOwn has c → ¬ IsRunning has.history c
  pub framed : (i : ℕ) (given : S) → slice_get (givens has) i ≡ Some given
      → t.frame_of given ≡ frame

-- a chain that is gathered: it is of the setup's numbers, whatever it holds
pub record MayGatherChain (setup : Setup) (queue : CoreQueueState) : Type 0 where
  pub colours : queue.colours ≡ colours_of setup
  pub cost : queue.cost ≡ (shape_of setup).steal_cost
  pub pinned : queue.pinned ≡ pinned_of setup

-- a worker that is gathered: it is free, it is the setup's worker of this core, and what
-- it lost may be registered
pub record MayGatherWorker {S P F : Type 0} (fits : F → Colour → Event → Option P → Type 0)
    (setup : Setup) (frame : F) (core : ℕ) (w : WorkerState S P) : Type 0 where
  pub own_core : w.core ≡ core
  pub batch : w.batch ≡ (shape_of setup).batch
  pub victims : w.victims ≡ victims_of core (shape_of setup).cores (shape_of setup).group
  pub free : IsTrue (is_free w.phase)
  pub lost : AllByRecursion (FitsSetup fits setup frame) w.lost

-- all shards of a setup, a chain and a worker for each core, by number, with states of one frame
pub record MayGather {S P F : Type 0} (t : TrailWords S F)
    (fits : F → Colour → Event → Option P → Type 0) (setup : Setup) (shards : List (ShardState S P))
    (chains : List CoreQueueState) (workers : List (WorkerState S P)) : Type 0 where
  pub frame : F
  pub shard_count : length shards ≡ (shape_of setup).shards
  pub shard : (number : ℕ) (has : ShardState S P) → slice_get shards number ≡ Some has
      → MayGatherShard t setup frame number has
  pub chain_count : length chains ≡ (shape_of setup).cores
  pub chain : (core : ℕ) (queue : CoreQueueState) → slice_get chains core ≡ Some queue
      → MayGatherChain setup queue
  pub worker_count : length workers ≡ (shape_of setup).cores
  pub worker : (core : ℕ) (w : WorkerState S P) → slice_get workers core ≡ Some w
      → MayGatherWorker fits setup frame core w

-- the shard is the setup's of this number, with a legal history
pub record IsOwnShard {S P : Type 0} (setup : Setup) (number : ℕ)
    (has : ShardState S P) : Type 0 where
  pub of_setup : has.setup ≡ setup
  pub numbered : has.shard ≡ number
  pub legal : IsLegal setup has.history

-- the shard is that of colour 0, and no colour of it runs
pub record IsFirstAtRest {S P : Type 0} (has : ShardState S P) : Type 0 where
  pub first : has.shard ≡ 0
  pub at_rest : (c : Colour) → IsOwn has c → ¬ IsRunning has.history c
