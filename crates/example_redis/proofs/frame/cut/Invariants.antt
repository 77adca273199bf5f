use Rattle.std.proofs.Common.{◌≡◌, drop}
use Rattle.example_redis.specs.Frames.{cut_from, cut_of, longer}
use Rattle.example_redis.proofs.frame.cut.Given as goal

abbrev pub invariant-loop-i : goal.invariant-loop-i
invariant-loop-i l = cut_of l.bytes ≡ longer l.i (cut_from l.place (drop l.i l.bytes))
