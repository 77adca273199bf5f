use Rattle.std.proofs.Common.{length, sym, arith}
use Rattle.std.proofs.lemmas.Bool.{eq-eqb}
use Rattle.std.proofs.lemmas.List.Sums.{position_or_len_is}
use Rattle.sws_answer.specs.Ranges.{is_dash}
use Rattle.sws_answer.proofs.ranges.dash_place.Goals as goal

pub returns-then-byte-eq45-clause-place : goal.returns-then-byte-eq45-clause-place
returns-then-byte-eq45-clause-place c = sym (position_or_len_is is_dash c.args.text.now c.loop-i.i 0 (omega arith) c.loop-i.invariant (λ h. eq-eqb _ 45 c.if-byte-eq45.true))

pub returns-clause-place : goal.returns-clause-place
returns-clause-place c = sym (position_or_len_is is_dash c.args.text.now (length c.args.text.now) 0 (omega arith) (λ k lt. c.loop-i.invariant k (omega arith)) (λ h. absurd (omega arith)))
