-- The shard of the tests.
use Rattle.std.specs.Prelude.{◌≡◌, length}
use Rattle.mely_event.specs.HandlerTable.{rows_of}
use Rattle.mely_history.specs.Setup.{shape_of, colours_of, handlers_of}
use Rattle.mely_shard.specs.Shard.{ShardState}

-- the one shard of the examples: four colours on two cores, and one handler
pub record IsExample {S P : Type 0} (has : ShardState S P) : Type 0 where
  pub colours : colours_of has.setup ≡ 4
  pub shards : (shape_of has.setup).shards ≡ 1
  pub cores : (shape_of has.setup).cores ≡ 2
  pub handlers : length (rows_of (handlers_of has.setup)) ≡ 1
  pub number : has.shard ≡ 0
