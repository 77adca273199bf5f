use Rattle.std.proofs.Common.{◌≡◌}
use Rattle.measure.proofs.chain.calls.filled.Given as goal

abbrev pub invariant-marks : goal.invariant-marks
invariant-marks l = l.queue.colours ≡ l.fn.marks
