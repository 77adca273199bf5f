-- A quotient by a number of shards, taken by its reciprocal.
use Rattle.std.proofs.Common.{◌≡◌, ℕ, ◌+◌, ◌*◌, ◌/◌, ◌<◌, ◌≤◌, arith}
use Rattle.std.proofs.Math.Nat.{div-eq_of_lt-le, div-mul-le_self, lt-div-mul-add, lt_of_mul-lt-mul_left, mul-le-mul_left, mul-le-mul_right}

-- the product with the reciprocal isn't below the quotient
reaches : (c n u d q : ℕ) → u < d * n + n → q * n ≤ c → q * u ≤ c * (d + 1)
reaches c n u d q high low =
    let step = mul-le-mul_left q (let h : u ≤ d * n + n = omega (arith, high) in h) in
    let onward = mul-le-mul_right (d + 1) low in
    grind (arith, step, onward)

-- nor does it reach the next one
stays_below : (c n u d q : ℕ) → d * n ≤ u → c < q * n + n → c * n < u → c * (d + 1) < (q + 1) * u
stays_below c n u d q low high small =
    let step = mul-le-mul_left c low in
    let onward = mul-le-mul_right u (let h : c + 1 ≤ q * n + n = omega (arith, high) in h) in
    lt_of_mul-lt-mul_left n (grind (arith, step, onward, small))

-- so that it has the quotient before the rest is cut off
pub quotient : (c n u : ℕ) → 1 ≤ n → c * n < u → c * (u / n + 1) / u ≡ c / n
quotient c n u some small =
    div-eq_of_lt-le u (reaches c n u (u / n) (c / n) (lt-div-mul-add some) (div-mul-le_self c n)) (stays_below c n u (u / n) (c / n) (div-mul-le_self u n) (lt-div-mul-add some) small)

-- for a colour and a number of shards
pub colour_quotient : (c n : ℕ) → c < 65536 → 1 ≤ n → n ≤ 64 → c * (4194304 / n + 1) / 4194304 ≡ c / n
colour_quotient c n few some many =
    let step = mul-le-mul_left c many in
    quotient c n 4194304 some (omega (arith, few, step))
