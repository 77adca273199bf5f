use Rattle.std.proofs.Common.{◌≡◌, drop}
use Rattle.example_redis.specs.Asking.{asks_in, have_long_key}
use Rattle.example_redis.proofs.several.any_long.Given as goal

abbrev pub invariant-asks : goal.invariant-asks
invariant-asks l = have_long_key (asks_in l.asks) ≡ have_long_key (asks_in (drop l.ask-index l.asks))
