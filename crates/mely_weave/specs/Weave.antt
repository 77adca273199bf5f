-- What a contract sees of a weave.
use Rattle.std.specs.Prelude.{List}
use Rattle.mely_history.specs.declared.setup.Setup.{Setup}
use Rattle.mely_shard.specs.Shard.{ShardState}
use Rattle.mely_core.specs.CoreQueue.{CoreQueueState}
use Rattle.mely_worker.specs.Worker.{WorkerState}

-- all shards and all chains, a state as it was given at first, and the workers by core
pub record WeaveState (S P : Type 0) : Type 0 where
  pub setup : Setup
  pub given : S
  pub shards : List (ShardState S P)
  pub chains : List CoreQueueState
  pub workers : List (WorkerState S P)
