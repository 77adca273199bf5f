use Rattle.std.proofs.Common.{◌≡◌, take, replicate}
use Rattle.sws_link.proofs.script_reader.fill.Given as goal

abbrev pub invariant-loop-i : goal.invariant-loop-i
invariant-loop-i l = take l.i l.room ≡ replicate l.i 97
