use Rattle.std.proofs.Common.{◌≡◌, ◌++◌, drop}
use Rattle.mely_picture.proofs.MarkLemmas.{marks_text}
use Rattle.mely_picture.proofs.mark.push_marks.Given as goal

abbrev pub invariant-loop-at : goal.invariant-loop-at
invariant-loop-at l = l.text.items ++ marks_text l.top l.at (drop l.at l.history) ≡ l.fn.text.items ++ marks_text l.top 0 l.history
