use Rattle.std.proofs.Common.{◌≡◌, ◌++◌}
use Rattle.std.specs.VecDeque.{deque_len}
use Rattle.example_redis.specs.Asking.{timed_asks}
use Rattle.example_redis.proofs.store.time_all.Given as goal

abbrev pub invariant-asks : goal.invariant-asks
invariant-asks l = l.timed.items ++ timed_asks l.now l.left.items ≡ timed_asks l.now l.fn.asks.items

abbrev pub decreases-asks : goal.decreases-asks
decreases-asks l = deque_len l.left
