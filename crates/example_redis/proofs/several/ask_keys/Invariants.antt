use Rattle.std.proofs.Common.{◌≡◌, ◌++◌, map}
use Rattle.std.specs.VecDeque.{deque_len}
use Rattle.example_redis.specs.Asking.{asks_in, asks_of_keys, deed_of_each}
use Rattle.example_redis.proofs.several.ask_keys.Given as goal

abbrev pub invariant-keys : goal.invariant-keys
invariant-keys l = asks_in l.asks.items ++ asks_of_keys (deed_of_each l.verb) (map (λ word. word.items) l.left.items)
    ≡ asks_of_keys (deed_of_each l.verb) (map (λ word. word.items) l.fn.keys.items)

abbrev pub decreases-keys : goal.decreases-keys
decreases-keys l = deque_len l.left
