-- The ranges of the numbers in an order.
use Rattle.std.specs.Prelude.{ℕ, ◌≤◌, length, IfSome, Option}
use Rattle.mely_history.specs.declared.shape.Shape.{Shape as RunShape}
use Rattle.mely_history.specs.Ranges.{core_limit, shard_limit, batch_limit, group_limit}
use Rattle.sws_site.specs.Site.{last_second}
use Rattle.sws_words.specs.Orders.{Order, Shape, cost_limit, host_limit, answer, replay, serve, bench, check, gopher}
use Rattle.sws_link.specs.Limits.{conn_limit}

-- the number is in the range, whose ends belong to it
abbrev pub IsBetween : ℕ → ℕ → ℕ → Type 0
IsBetween least most number = (least ≤ number) × (number ≤ most)

-- a date, if one is given, is one that can be shown
abbrev pub IsDate : Option ℕ → Type 0
IsDate date = IfSome date (λ secs. secs ≤ last_second)

-- each number of the shape of a run is within its range
pub record IsRunShape (shape : RunShape) : Type 0 where
  pub cores : IsBetween 1 core_limit shape.cores
  pub shards : IsBetween 1 shard_limit shape.shards
  pub batch : IsBetween 1 batch_limit shape.batch
  pub group : IsBetween 1 group_limit shape.group
  pub steal_cost : shape.steal_cost ≤ cost_limit

-- the shape of a run, as the runtime has it
abbrev pub run_shape : Shape → RunShape
run_shape shape = record {
  cores = shape.cores;
  shards = shape.shards;
  batch = shape.batch;
  steal_cost = shape.steal_cost;
  group = shape.group;
}

-- each number of a shape is within its range
abbrev pub IsShape : Shape → Type 0
IsShape shape = IsRunShape (run_shape shape)

-- each number of the order is within its range
abbrev pub IsInRange : Order → Type 0
IsInRange (answer folder date) = IsDate date
IsInRange (replay folder shape date journal schedule log) = IsShape shape × IsDate date
IsInRange (serve folder port connections shape date log) = IsBetween 1 65535 port
    × IsBetween 1 conn_limit connections × IsShape shape × IsDate date
IsInRange (bench connections number shape) = IsBetween 1 conn_limit connections × IsShape shape
IsInRange (check connections shape log) = (connections ≤ conn_limit) × IsShape shape
IsInRange (gopher folder host port connections shape journal) = (length host ≤ host_limit)
    × IsBetween 1 65535 port × IfSome connections (IsBetween 1 conn_limit) × IsShape shape
