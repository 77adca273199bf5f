-- What a contract sees of a link in memory without faults.
use Rattle.std.specs.Prelude.{ℕ, Bool}
use Rattle.sws_link.specs.ScriptedBytes.{ScriptedBytesState}

-- a link without faults
pub record SureLinkState : Type 0 where
  pub bytes : ScriptedBytesState
  pub waits : ℕ
  pub shut : Bool
