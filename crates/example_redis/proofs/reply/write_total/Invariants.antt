use Rattle.std.proofs.Common.{◌≡◌, ◌≤◌, ◌*◌, take}
use Rattle.std.specs.List.{sum_by}
use Rattle.example_redis.specs.Replies.{count_in}
use Rattle.example_redis.proofs.reply.write_total.Given as goal

abbrev pub invariant-parts : goal.invariant-parts
invariant-parts l = record {
  is : l.total ≡ sum_by count_in (take l.part-index l.parts);
  small : l.total ≤ 18446744073709551615 * l.part-index;
}
