use Rattle.std.proofs.Common.{◌≡◌, drop}
use Rattle.sws_answer.specs.Closing.{has_option}
use Rattle.sws_answer.proofs.closing.has_option.Given as goal

abbrev pub invariant-loop-i : goal.invariant-loop-i
invariant-loop-i l = has_option l.option (drop l.i l.request.fields) ≡ has_option l.option l.request.fields
