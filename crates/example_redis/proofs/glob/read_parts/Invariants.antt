use Rattle.std.proofs.Common.{◌≡◌, drop}
use Rattle.example_redis.specs.Globs.{parts_from, parts_of}
use Rattle.example_redis.proofs.glob.read_parts.Given as goal

abbrev pub invariant-loop-byte : goal.invariant-loop-byte
invariant-loop-byte l = parts_of l.pattern ≡ parts_from l.place l.reading (drop l.byte-index l.pattern)
