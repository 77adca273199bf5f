use Rattle.std.proofs.Common.{◌≡◌, map}
use Rattle.std.specs.List.{range_with_len}
use Rattle.example_redis.specs.Asking.{asks_in}
use Rattle.example_redis.specs.Values.{Lists}
use Rattle.example_redis.proofs.several.ask_to_list.Given as goal

abbrev pub invariant-cells : goal.invariant-cells
invariant-cells l = asks_in l.asks.items ≡ map (λ cell. (cell, Lists l.pattern)) (range_with_len 0 l.cell)
