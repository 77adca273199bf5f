use Rattle.std.proofs.Common.{◌≡◌, map}
use Rattle.std.specs.List.{range_with_len}
use Rattle.example_redis.specs.Asking.{asks_in}
use Rattle.example_redis.specs.Values.{All}
use Rattle.example_redis.proofs.several.ask_all.Given as goal

abbrev pub invariant-cells : goal.invariant-cells
invariant-cells l = asks_in l.asks.items ≡ map (λ cell. (cell, All l.sweep)) (range_with_len 0 l.cell)
