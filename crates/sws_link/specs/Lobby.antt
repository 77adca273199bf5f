-- What a contract sees of the links of a world in memory; it is all that it sees of a world
-- without calls that fail.
use Rattle.std.specs.Prelude.{ℕ, List}

-- links that wait to be accepted, the next one first; how many are given in all since the opening,
-- and how many of these were accepted; and the port of the opening, or 0
pub record LobbyState (L : Type 0) : Type 0 where
  pub links : List L
  pub total : ℕ
  pub accepted : ℕ
  pub port : ℕ
