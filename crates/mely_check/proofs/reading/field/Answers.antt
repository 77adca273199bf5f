use Rattle.std.proofs.Common.{arith}
use Rattle.mely_check.proofs.ReadingLemmas.{digits_are}
use Rattle.mely_check.proofs.reading.field.Goals as goal

pub returns-in_err-value : goal.returns-in_err-value
returns-in_err-value c =
    rw c.from_residual-in_err-value.ensures
    (λ n rest few ends is.
    let fits = c.ranges.high.fits in
    c.in_err-value.ensures n
    (digits_are c.args.text.now c.in_ok-behind.field-0.now c.split_low.result.0.now c.split_low.result.1.now rest n
    c.in_ok-behind.ensures c.split_low.ensures.whole c.split_low.ensures.high c.split_low.ensures.behind (omega arith) ends is)
    few)
