use Rattle.std.proofs.Common.{◌≡◌}
use Rattle.measure.proofs.chain.calls.make.Given as goal

abbrev pub invariant-calls : goal.invariant-calls
invariant-calls l = l.queue.colours ≡ l.fn.marks
