-- A request that asks several cells.
use Rattle.std.specs.Prelude.{ℕ, List}

-- a request that asks several cells, while one of them is asked: what is asked of whom behind it,
-- what the ones before it have replied, and the reply that these are parts of
pub record SeveralState (Request Reply : Type 0) : Type 0 where
  pub left : List (ℕ × Request)
  pub parts : List Reply
  pub reply : Reply
