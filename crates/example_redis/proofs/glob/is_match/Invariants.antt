use Rattle.std.proofs.Common.{◌≡◌, ◌≤◌, ◌-◌, ◌+◌, drop, length, map}
use Rattle.example_redis.specs.Globs.{matches, part_of, some_rest}
use Rattle.example_redis.specs.Globbing.{parts_at}
use Rattle.example_redis.proofs.glob.is_match.Given as goal

abbrev pub invariant-starts : goal.invariant-starts
invariant-starts l = record {
  part : l.from.part ≤ length l.parts;
  byte : l.from.byte ≤ length l.key;
  is : matches (map part_of l.parts) l.key ≡ some_rest (matches (parts_at l.parts l.from.part)) (drop l.from.byte l.key);
}

abbrev pub decreases-starts : goal.decreases-starts
decreases-starts l = (length l.parts - l.from.part) + (length l.key - l.from.byte)
