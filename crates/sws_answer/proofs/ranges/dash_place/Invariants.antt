use Rattle.std.proofs.Common.{◌≡◌, ℕ, ◌<◌, false, get_or}
use Rattle.sws_answer.specs.Ranges.{is_dash}
use Rattle.sws_answer.proofs.ranges.dash_place.Given as goal

abbrev pub invariant-loop-i : goal.invariant-loop-i
invariant-loop-i l = (k : ℕ) → k < l.i → is_dash (get_or l.text k 0) ≡ false
