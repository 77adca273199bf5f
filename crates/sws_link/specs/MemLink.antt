-- What a contract sees of a link in memory.
use Rattle.std.specs.Prelude.{ℕ, Bool}
use Rattle.sws_link.specs.Calls.{CallsState}
use Rattle.sws_link.specs.ScriptedBytes.{ScriptedBytesState}

-- a link with calls that fail, which are its faults; how often it wasn't
-- ready, and whether it was shut
pub record MemLinkState : Type 0 where
  pub bytes : ScriptedBytesState
  pub calls : CallsState
  pub waits : ℕ
  pub shut : Bool
