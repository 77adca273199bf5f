use Rattle.std.proofs.Common.{length, sym, arith}
use Rattle.std.specs.Prelude.{◌==◌}
use Rattle.std.proofs.lemmas.Bool.{eq-eqb}
use Rattle.std.proofs.lemmas.List.Sums.{position_or_len_is}
use Rattle.sws_site.proofs.own_types.place_of.Goals as goal

pub returns-then-byte-sought-clause-place : goal.returns-then-byte-sought-clause-place
returns-then-byte-sought-clause-place c = sym (position_or_len_is (λ byte. byte == c.args.sought) c.args.bytes.now c.loop-i.i 0 (omega arith) c.loop-i.invariant (λ h. eq-eqb _ c.args.sought c.if-byte-sought.true))

pub returns-clause-place : goal.returns-clause-place
returns-clause-place c = sym (position_or_len_is (λ byte. byte == c.args.sought) c.args.bytes.now (length c.args.bytes.now) 0 (omega arith) (λ k lt. c.loop-i.invariant k (omega arith)) (λ h. absurd (omega arith)))
