use Rattle.std.proofs.Common.{◌≡◌, ◌<◌, take}
use Rattle.example_redis.specs.Asking.{hash_of}
use Rattle.example_redis.proofs.asking.cell_of_key.Given as goal

abbrev pub invariant-loop-byte : goal.invariant-loop-byte
invariant-loop-byte l = record { low : l.hash < 65521; is : l.hash ≡ hash_of (take l.byte-index l.key) }
