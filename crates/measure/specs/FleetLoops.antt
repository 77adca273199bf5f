-- The setup of the loop.
use Rattle.std.specs.Prelude.{◌≡◌, ℕ, length}
use Rattle.mely_event.specs.HandlerTable.{rows_of}
use Rattle.mely_history.specs.declared.setup.Setup.{Setup}
use Rattle.mely_history.specs.Setup.{colours_of, handlers_of}

-- so many colours, and one handler
pub record IsLoop (count : ℕ) (setup : Setup) : Type 0 where
  pub colours : colours_of setup ≡ count
  pub handlers : length (rows_of (handlers_of setup)) ≡ 1
