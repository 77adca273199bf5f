use Rattle.std.proofs.Common.{◌≡◌, drop}
use Rattle.example_redis.specs.Frames.{heard_from, heard_of}
use Rattle.example_redis.proofs.heard.hear.Given as goal

abbrev pub invariant-loop-byte : goal.invariant-loop-byte
invariant-loop-byte l = heard_of l.frame ≡ heard_from l.place l.words (drop l.byte-index l.frame)
