-- What a contract sees of the shards and the chains of a weave.
use Rattle.std.specs.Prelude.{List}
use Rattle.mely_history.specs.declared.setup.Setup.{Setup}
use Rattle.mely_shard.specs.Shard.{ShardState}
use Rattle.mely_core.specs.CoreQueue.{CoreQueueState}

-- the shards and the chains, and a state as it was given at first
pub record SharedState (S P : Type 0) : Type 0 where
  pub setup : Setup
  pub given : S
  pub shards : List (ShardState S P)
  pub chains : List CoreQueueState
