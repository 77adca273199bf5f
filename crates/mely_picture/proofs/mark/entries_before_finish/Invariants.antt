use Rattle.std.proofs.Common.{◌≡◌, ◌+◌, drop}
use Rattle.mely_picture.specs.Marks.{before_finish}
use Rattle.mely_picture.proofs.mark.entries_before_finish.Given as goal

abbrev pub invariant-loop-at : goal.invariant-loop-at
invariant-loop-at l = before_finish l.colour l.entries ≡ l.at + before_finish l.colour (drop l.at l.entries)
