use Rattle.std.proofs.Common.{◌+◌, ◌*◌, arith, sym, ap, ◌∙◌}
use Rattle.sws_answer.proofs.RangeLemmas.{next_digit}
use Rattle.sws_answer.proofs.ranges.value_of.Goals as goal

pub overflow_mul-value : goal.overflow_mul-value
overflow_mul-value c =
    let next = next_digit c.args.digits.now c.loop-digit.digit-index c.loop-digit.value c.requires.digits c.requires.few c.loop-digit-test.true c.loop-digit.invariant in
    omega arith

pub overflow_sub-digit : goal.overflow_sub-digit
overflow_sub-digit c =
    let next = next_digit c.args.digits.now c.loop-digit.digit-index c.loop-digit.value c.requires.digits c.requires.few c.loop-digit-test.true c.loop-digit.invariant in
    omega arith

pub overflow_add-value : goal.overflow_add-value
overflow_add-value c =
    let next = next_digit c.args.digits.now c.loop-digit.digit-index c.loop-digit.value c.requires.digits c.requires.few c.loop-digit-test.true c.loop-digit.invariant in
    omega arith

pub loop-digit-preserved : goal.loop-digit-preserved
loop-digit-preserved c =
    let next = next_digit c.args.digits.now c.loop-digit.digit-index c.loop-digit.value c.requires.digits c.requires.few c.loop-digit-test.true c.loop-digit.invariant in
    ap (λ n. c.loop-digit.value * 10 + n) c.from.ensures ∙ sym next.next
