-- The setup of the loop.
use Rattle.std.specs.Prelude.{◌≡◌, ℕ, length}
use Rattle.mely_event.specs.HandlerTable.{rows_of}
use Rattle.mely_history.specs.declared.setup.Setup.{Setup}
use Rattle.mely_history.specs.Setup.{shape_of, colours_of, handlers_of}
use Rattle.measure.specs.declared.weave.steps.TheConstants.{CORES}

-- so many colours on four cores, and one handler
pub record IsLoop (count : ℕ) (setup : Setup) : Type 0 where
  pub colours : colours_of setup ≡ count
  pub cores : (shape_of setup).cores ≡ CORES
  pub handlers : length (rows_of (handlers_of setup)) ≡ 1
