use Rattle.std.proofs.Common.{◌≡◌, ◌++◌, map, take}
use Rattle.std.specs.Prelude.{flat_map}
use Rattle.example_redis.specs.Replies.{bulk}
use Rattle.example_redis.proofs.reply.write_each.Given as goal

abbrev pub invariant-each : goal.invariant-each
invariant-each l = l.out.items ≡ l.fn.out.items ++ flat_map bulk (map (λ key. key.items) (take l.key-index l.keys))
