use Rattle.std.proofs.Common.{arith}
use Rattle.sws_text.proofs.number.read_decimal.Goals as goal

pub returns-else-value-from : goal.returns-else-value-from
returns-else-value-from c n is few =
    let same = c.in_ok-value.ensures.1 n is (omega arith) in
    omega (arith, c.from.ensures, same)
