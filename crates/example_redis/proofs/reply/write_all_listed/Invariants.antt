use Rattle.std.proofs.Common.{◌≡◌, ◌++◌, take}
use Rattle.std.specs.Prelude.{flat_map}
use Rattle.example_redis.specs.Replies.{bulk, keys_in}
use Rattle.example_redis.proofs.reply.write_all_listed.Given as goal

abbrev pub invariant-each : goal.invariant-each
invariant-each l = l.out.items ≡ l.fn.out.items ++ flat_map bulk (flat_map keys_in (take l.part-index l.parts))
