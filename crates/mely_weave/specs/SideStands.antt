-- What the shards and the chains keep, each for itself.
use Rattle.std.specs.Prelude.{◌≡◌, ◌<◌, ℕ, List, Option, Some, length, slice_get}
use Rattle.mely_event.specs.declared.colour.Colour.{Colour}
use Rattle.mely_event.specs.declared.event.Event.{Event}
use Rattle.mely_event.specs.declared.trail.Trail.{Ghosts as TrailWords}
use Rattle.mely_history.specs.declared.setup.Setup.{Setup}
use Rattle.mely_history.specs.Setup.{shape_of, colours_of, pinned_of}
use Rattle.mely_shard.specs.Shard.{ShardState, IsConsistent, givens}
use Rattle.mely_core.specs.CoreQueue.{CoreQueueState, HoldTogether}
use Rattle.mely_weave.specs.Side.{SideState}

-- the shard is that of the number: its history is legal and its own, each of its colours has a lane
-- that has what the history says, and the states that were given have the frame
pub record ShardStands {S P F : Type 0} (t : TrailWords S F)
    (fits : F → Colour → Event → Option P → Type 0) (setup : Setup) (frame : F) (number : ℕ)
    (has : ShardState S P) : Type 0 where
  pub of_setup : has.setup ≡ setup
  pub numbered : has.shard ≡ number
  pub kept : IsConsistent t fits has
  pub framed : (i : ℕ) (given : S) → slice_get (givens has) i ≡ Some given
      → t.frame_of given ≡ frame

-- the chain is of the setup's numbers, and its stealing queue has its worthy marks
pub record ChainStands (setup : Setup) (queue : CoreQueueState) : Type 0 where
  pub colours : queue.colours ≡ colours_of setup
  pub cost : queue.cost ≡ (shape_of setup).steal_cost
  pub pinned : queue.pinned ≡ pinned_of setup
  pub together : HoldTogether queue

-- there is a shard for each number and a chain for each core
pub record PartsStand {S P F : Type 0} (t : TrailWords S F)
    (fits : F → Colour → Event → Option P → Type 0) (setup : Setup) (given : S)
    (has_shards : List (ShardState S P)) (has_chains : List CoreQueueState) : Type 0 where
  pub shards : length has_shards ≡ (shape_of setup).shards
  pub shard : (number : ℕ) (has : ShardState S P) → slice_get has_shards number ≡ Some has
      → ShardStands t fits setup (t.frame_of given) number has
  pub chains : length has_chains ≡ (shape_of setup).cores
  pub chain : (core : ℕ) (queue : CoreQueueState) → slice_get has_chains core ≡ Some queue
      → ChainStands setup queue

-- the shards and the chains of a side stand so, whatever core it is the side of
abbrev pub PartsOf : {S P F : Type 0} → TrailWords S F
    → (F → Colour → Event → Option P → Type 0) → SideState S P → Type 0
PartsOf t fits a = PartsStand t fits a.setup a.given a.shards a.chains

-- the same from the side of a core, which is one of the setup
pub record SideStands {S P F : Type 0} (t : TrailWords S F)
    (fits : F → Colour → Event → Option P → Type 0) (a : SideState S P) : Type 0 where
  pub core : a.core < (shape_of a.setup).cores
  pub shards : length a.shards ≡ (shape_of a.setup).shards
  pub shard : (number : ℕ) (has : ShardState S P) → slice_get a.shards number ≡ Some has
      → ShardStands t fits a.setup (t.frame_of a.given) number has
  pub chains : length a.chains ≡ (shape_of a.setup).cores
  pub chain : (core : ℕ) (queue : CoreQueueState) → slice_get a.chains core ≡ Some queue
      → ChainStands a.setup queue
