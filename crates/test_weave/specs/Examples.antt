-- The setup of the examples, and their initial states.
use Rattle.std.specs.Prelude.{◌≡◌, ℕ, length}
use Rattle.mely_event.specs.HandlerTable.{rows_of}
use Rattle.mely_history.specs.declared.setup.Setup.{Setup}
use Rattle.mely_history.specs.Setup.{shape_of, colours_of, handlers_of}

-- so many cores and colours in one shard, and two handlers
pub record IsExample (some_cores some_colours : ℕ) (setup : Setup) : Type 0 where
  pub cores : (shape_of setup).cores ≡ some_cores
  pub colours : colours_of setup ≡ some_colours
  pub shards : (shape_of setup).shards ≡ 1
  pub handlers : length (rows_of (handlers_of setup)) ≡ 2
