use Rattle.std.proofs.Common.{take}
use Rattle.mely_check.specs.Reading.{IsHigh}
use Rattle.mely_check.proofs.reading.split_low.Given as goal

abbrev pub invariant-loop-at : goal.invariant-loop-at
invariant-loop-at l = IsHigh (take l.at l.text)
