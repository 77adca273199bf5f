use Rattle.std.proofs.Common.{sym, arith}
use Rattle.example_counters.proofs.CuttingLemmas.{line_end-at, line_end-none}
use Rattle.example_counters.proofs.counters.CountersService.cut.Goals as goal

pub returns-then-byte-eq10-clause-cut : goal.returns-then-byte-eq10-clause-cut
returns-then-byte-eq10-clause-cut c = sym (line_end-at c.args.bytes.now c.loop-i.i c.loop-i-test.true c.if-byte-eq10.true c.loop-i.invariant)

pub returns-clause-cut : goal.returns-clause-cut
returns-clause-cut c = let ended = c.loop-i-test.false in sym (line_end-none c.args.bytes.now (λ k below there. c.loop-i.invariant k (omega (arith, below, ended)) there))
