use Rattle.std.proofs.Common.{◌≡◌, drop}
use Rattle.example_redis.specs.Globs.{is_among}
use Rattle.example_redis.proofs.glob.is_in_any.Given as goal

abbrev pub invariant-each : goal.invariant-each
invariant-each l = is_among l.byte l.ranges ≡ is_among l.byte (drop l.range-index l.ranges)
