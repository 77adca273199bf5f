-- The shards and the chains of a runtime, as they are reached from the side of one core.
use Rattle.std.specs.Prelude.{◌==◌, ◌&&◌, nat_lt, ℕ, Bool, List, [], Option, None, Some, length, drop, sum_by, slice_get}
use Rattle.mely_event.specs.declared.colour.Colour.{Colour}
pub use Rattle.mely_history.specs.Setup.{shard_of}
use Rattle.mely_history.specs.History.{weight}
use Rattle.mely_history.specs.ColourAccount.{ColourAccount, account_of}
use Rattle.mely_history.specs.declared.setup.Setup.{Setup}
use Rattle.mely_history.specs.declared.entry.Entry.{Entry}
use Rattle.mely_shard.specs.Shard.{ShardState}
use Rattle.mely_core.specs.CoreQueue.{CoreQueueState}
use Rattle.mely_weave.specs.Shared.{SharedState}

-- the shards and the chains at the side of a core, and a state as it was given at first
pub record SideState (S P : Type 0) : Type 0 where
  pub setup : Setup
  pub core : ℕ
  pub given : S
  pub shards : List (ShardState S P)
  pub chains : List CoreQueueState

-- the shards and the chains of a weave, from the side of a core
abbrev pub side_at : {S P : Type 0} → SharedState S P → ℕ → SideState S P
side_at shared core = record {
  setup = shared.setup;
  core = core;
  given = shared.given;
  shards = shared.shards;
  chains = shared.chains;
}

-- the history of a shard, and none where there is no shard
abbrev pub history_in : {S P : Type 0} → Option (ShardState S P) → List Entry
history_in None = []
history_in (Some has) = has.history

-- the history in which the entries of a colour stand
abbrev pub history_for : {S P : Type 0} → Setup → List (ShardState S P) → Colour → List Entry
history_for setup shards c = history_in (slice_get shards (shard_of setup c))

-- the history of the shard of a colour
abbrev pub history_at : {S P : Type 0} → SideState S P → Colour → List Entry
history_at a c = history_for a.setup a.shards c

-- what the mark of a colour goes by: whether the colour rests while something waits, so that there
-- is a mark; its owner; how many events were begun; and its worth
pub record Readiness : Type 0 where
  pub ready : Bool
  pub owner : ℕ
  pub begun : ℕ
  pub worth : ℕ

-- what the mark of a colour goes by, of what its history says
abbrev pub readiness_of : Setup → ColourAccount → Readiness
readiness_of setup s = record {
  ready = (s.begun == s.ended) && nat_lt s.begun (length s.registered);
  owner = s.owner;
  begun = s.begun;
  worth = sum_by (weight setup) (drop s.begun s.registered);
}

-- what the histories say of a colour
abbrev pub readiness_for : {S P : Type 0} → Setup → List (ShardState S P) → Colour → Readiness
readiness_for setup shards c = readiness_of setup (account_of setup (history_for setup shards c) c)
