use Rattle.std.proofs.Common.{length, sym, ◌∙◌, arith}
use Rattle.std.proofs.lemmas.List.Sums.{position_or_len_is}
use Rattle.sws_answer.specs.Targets.{ends_authority}
use Rattle.sws_answer.proofs.targets.authority_len.Goals as goal

pub returns-then-is_authority_end-clause-len : goal.returns-then-is_authority_end-clause-len
returns-then-is_authority_end-clause-len c = sym (position_or_len_is ends_authority c.args.bytes.now c.loop-i.i 0 (omega arith) c.loop-i.invariant (λ h. sym c.is_authority_end.ensures ∙ c.if-is_authority_end.true))

pub returns-clause-len : goal.returns-clause-len
returns-clause-len c = sym (position_or_len_is ends_authority c.args.bytes.now (length c.args.bytes.now) 0 (omega arith) (λ k lt. c.loop-i.invariant k (omega arith)) (λ h. absurd (omega arith)))
