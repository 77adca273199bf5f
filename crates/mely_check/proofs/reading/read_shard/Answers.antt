use Rattle.std.proofs.Common.{[], ◌∷◌, arith}
use Rattle.mely_check.proofs.ReadingLemmas.{feed_ends, second_is, last_is, not_feed, shard_behind}
use Rattle.mely_check.proofs.reading.read_shard.Goals as goal

pub returns-in_err-count : goal.returns-in_err-count
returns-in_err-count c =
    rw c.from_residual-in_err-count.ensures
    (λ number count few_n few_c is.
    let read = c.in_ok-number.ensures in
    c.in_err-count.ensures count (10 ∷ []) (omega arith) feed_ends
    (second_is c.in_ok-rest.rest.now c.in_ok-number.rest.now (10 ∷ []) c.in_ok-number.number number count read.0 few_n read.1 read.2
    (shard_behind c.args.line.now c.in_ok-rest.rest.now number count c.in_ok-rest.ensures is)))

pub returns-then-ne : goal.returns-then-ne
returns-then-ne c = λ number count few_n few_c is.
    let read = c.in_ok-number.ensures in
    let next = c.in_ok-count.ensures in
    not_feed c.in_ok-count.rest.now c.as_slice.result.now c.as_slice.ensures c.if-ne.ensures
    (last_is c.in_ok-number.rest.now c.in_ok-count.rest.now (10 ∷ []) c.in_ok-count.count count 18446744073709551615 next.0 (omega arith) (omega arith) next.1 feed_ends next.2
    (second_is c.in_ok-rest.rest.now c.in_ok-number.rest.now (10 ∷ []) c.in_ok-number.number number count read.0 few_n read.1 read.2
    (shard_behind c.args.line.now c.in_ok-rest.rest.now number count c.in_ok-rest.ensures is)))
