use Rattle.std.proofs.Common.{◌≡◌, drop}
use Rattle.mely_picture.specs.Marks.{has}
use Rattle.mely_picture.proofs.legend.is_there.Given as goal

abbrev pub invariant-loop-other : goal.invariant-loop-other
invariant-loop-other l = has l.number l.numbers ≡ has l.number (drop l.other-index l.numbers)
