-- Rows among which none has penalty 0.
use Rattle.std.proofs.Common.{◌≡◌, ◌<◌, ◌==◌, ℕ, List, None, Some, Bool, true, false, cond, length, position, refl, arith, nat_lt}
use Rattle.std.specs.List.{position_or_len}
use Rattle.std.proofs.lemmas.Bool.Decides.{nat_tests}
use Rattle.std.proofs.lemmas.List.Sums.{fails_before_first}
use Rattle.mely_event.specs.HandlerTable.{row_at}

-- where a choice gives nothing, its test failed
test_failed : (b : Bool) (n : ℕ) → None ≡ cond b (Some n) None → b ≡ false
test_failed true n is = cc
test_failed false n is = refl

-- where no row has penalty 0, each divides
pub divisors_where_none : (rows : List (ℕ × ℕ)) → None ≡ position (λ row. row.1 == 0) rows → (h : ℕ) → h < length rows → 0 < (row_at rows h).1
divisors_where_none rows none h within =
    let first = position_or_len (λ (row : ℕ × ℕ). row.1 == 0) rows in
    let past : nat_lt first (length rows) ≡ false = test_failed (nat_lt first (length rows)) first none in
    let before : h < first = grind (arith, nat_tests) in
    let fails : ((row_at rows h).1 == 0) ≡ false = fails_before_first (λ row. row.1 == 0) rows h (0, 1) before in
    grind (arith, nat_tests)
