use Rattle.std.proofs.Common.{◌≡◌, ◌≤◌, ◌*◌, length, take}
use Rattle.std.specs.Prelude.{flat_map}
use Rattle.example_redis.specs.Replies.{keys_in}
use Rattle.example_redis.proofs.reply.count_keys.Given as goal

abbrev pub invariant-each : goal.invariant-each
invariant-each l = record {
  is : l.total ≡ length (flat_map keys_in (take l.part-index l.parts));
  small : l.total ≤ 18446744073709551615 * l.part-index;
}
