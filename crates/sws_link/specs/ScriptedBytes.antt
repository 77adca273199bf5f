-- What a contract sees of the bytes that a script gives and takes.
use Rattle.std.specs.Prelude.{ℕ, List, Option}
use Rattle.sws_link.specs.ScriptReader.{ScriptReaderState}

-- a link whose calls are not counted: what was taken and the items that are left, what was written,
-- the most bytes of one write, and the most bytes that are written in all
pub record ScriptedBytesState : Type 0 where
  pub input : ScriptReaderState
  pub written : List ℕ
  pub step : Option ℕ
  pub cut : Option ℕ
