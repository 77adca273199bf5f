-- The setup of the example.
use Rattle.std.specs.Prelude.{◌≡◌, length}
use Rattle.mely_event.specs.HandlerTable.{rows_of}
use Rattle.mely_history.specs.declared.setup.Setup.{Setup}
use Rattle.mely_history.specs.Setup.{shape_of, colours_of, handlers_of}

-- two cores, two colours, and two handlers
pub record IsSmall (setup : Setup) : Type 0 where
  pub cores : (shape_of setup).cores ≡ 2
  pub colours : colours_of setup ≡ 2
  pub handlers : length (rows_of (handlers_of setup)) ≡ 2
