-- The ranges of the numbers by which generations are served.
use Rattle.std.specs.Prelude.{ℕ, ◌≤◌}
use Rattle.mely_history.specs.Ranges.{core_limit, shard_limit, batch_limit, group_limit}
use Rattle.mely_history.specs.declared.shape.Shape.{Shape}
use Rattle.sws_link.specs.Limits.{conn_limit}
use Rattle.sws_lane.specs.declared.lane.Terms.{Terms}

-- the number is in the range, whose ends belong to it
abbrev pub IsBetween : ℕ → ℕ → ℕ → Type 0
IsBetween least most number = (least ≤ number) × (number ≤ most)

-- each number of the shape is within its range
pub record IsInShape (shape : Shape) : Type 0 where
  pub cores : IsBetween 1 core_limit shape.cores
  pub shards : IsBetween 1 shard_limit shape.shards
  pub batch : IsBetween 1 batch_limit shape.batch
  pub group : IsBetween 1 group_limit shape.group

-- each number of the terms is within its range
pub record AreTerms (terms : Terms) : Type 0 where
  pub shape : IsInShape terms.shape
  pub connections : IsBetween 1 conn_limit terms.connections
