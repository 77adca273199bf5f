-- What a contract sees of a sink in memory.
use Rattle.std.specs.Prelude.{ℕ, List}
use Rattle.sws_link.specs.Calls.{CallsState}

-- a sink: what was written, and its calls
pub record MemSinkState : Type 0 where
  pub written : List ℕ
  pub calls : CallsState
