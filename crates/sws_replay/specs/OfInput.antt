-- The connections of an input.
use Rattle.std.specs.Prelude.{ℕ, Bool, List}
use Rattle.sws_script.specs.declared.input.ScriptConn.{ScriptConn}
use Rattle.sws_script.specs.Inputs.{IsInput}

-- they are those of some input, whatever its schedule is: their numbers are within their ranges,
-- and their items stand in order
pub record AreOfInput (conns : List ScriptConn) : Type 0 where
  pub schedule : Bool
  pub cores : ℕ
  pub steps : List (ℕ × ℕ)
  pub is : IsInput schedule cores (record { steps = steps; conns = conns })
