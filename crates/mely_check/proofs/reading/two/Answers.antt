use Rattle.std.proofs.Common.{[], ◌∷◌, arith}
use Rattle.mely_check.proofs.ReadingLemmas.{feed_ends, second_is, last_is, not_feed}
use Rattle.mely_check.proofs.reading.two.Goals as goal

pub returns-in_err-second : goal.returns-in_err-second
returns-in_err-second c =
    rw c.from_residual-in_err-second.ensures
    (λ a b few_a few_b is.
    let read = c.in_ok-first.ensures in
    c.in_err-second.ensures b (10 ∷ []) (omega arith) feed_ends
    (second_is c.args.text.now c.in_ok-first.rest.now (10 ∷ []) c.in_ok-first.first a b read.0 few_a read.1 read.2 is))

pub returns-then-ne : goal.returns-then-ne
returns-then-ne c = λ a b few_a few_b is.
    let read = c.in_ok-first.ensures in
    let next = c.in_ok-second.ensures in
    not_feed c.in_ok-second.rest.now c.as_slice.result.now c.as_slice.ensures c.if-ne.ensures
    (last_is c.in_ok-first.rest.now c.in_ok-second.rest.now (10 ∷ []) c.in_ok-second.second b 65535 next.0 (omega arith) (omega arith) next.1 feed_ends next.2
    (second_is c.args.text.now c.in_ok-first.rest.now (10 ∷ []) c.in_ok-first.first a b read.0 few_a read.1 read.2 is))
