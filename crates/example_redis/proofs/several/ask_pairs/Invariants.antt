use Rattle.std.proofs.Common.{◌≡◌, ◌++◌, map}
use Rattle.std.specs.VecDeque.{deque_len}
use Rattle.example_redis.specs.Asking.{asks_in, asks_of_pairs}
use Rattle.example_redis.proofs.several.ask_pairs.Given as goal

abbrev pub invariant-pairs : goal.invariant-pairs
invariant-pairs l = asks_in l.asks.items ++ asks_of_pairs (map (λ word. word.items) l.left.items)
    ≡ asks_of_pairs (map (λ word. word.items) l.fn.words.items)

abbrev pub decreases-pairs : goal.decreases-pairs
decreases-pairs l = deque_len l.left
