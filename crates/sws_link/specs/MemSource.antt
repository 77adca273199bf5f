-- What a contract sees of a source in memory.
use Rattle.std.specs.Prelude.{ℕ, List}
use Rattle.sws_link.specs.Calls.{CallsState}

-- a source: what is left of its bytes, and its calls
pub record MemSourceState : Type 0 where
  pub left : List ℕ
  pub calls : CallsState
