-- What numbers that rise are, and what they stay.
use Rattle.std.proofs.Common.{◌≡◌, ℕ, zero, suc, ◌+◌, ◌≤◌, List, [], ◌∷◌, ◌++◌, length, refl, ◌∙◌, ap, arith}
use Rattle.std.proofs.lemmas.Option.{same_Some}
use Rattle.std.specs.List.{range_with_len}
use Rattle.mely_order.specs.Rising.{Rises, IsAscending, AreBetween}

pub rises_up : (low : ℕ) (ns : List ℕ) (high : ℕ) → Rises low ns high → low ≤ high
rises_up low [] high rise = rise
rises_up low (n ∷ more) high rise = let first = rise.0 in let rest = rises_up n more high rise.1 in omega (arith, first, rest)

-- from a lower number on
pub rises_lower : (less low : ℕ) (ns : List ℕ) (high : ℕ) → less ≤ low → Rises low ns high → Rises less ns high
rises_lower less low [] high under rise = omega (arith, under, rise)
rises_lower less low (n ∷ more) high under rise = (let first = rise.0 in omega (arith, under, first), rise.1)

-- up to a higher one
pub rises_higher : (low : ℕ) (ns : List ℕ) (high more : ℕ) → high ≤ more → Rises low ns high → Rises low ns more
rises_higher low [] high more over rise = omega (arith, over, rise)
rises_higher low (n ∷ ns) high more over rise = (rise.0, rises_higher n ns high more over rise.1)

-- one after the other
pub rises_append : (low : ℕ) (xs : List ℕ) (middle : ℕ) (ys : List ℕ) (high : ℕ) → Rises low xs middle → Rises middle ys high → Rises low (xs ++ ys) high
rises_append low [] middle ys high one other = rises_lower low middle ys high one other
rises_append low (x ∷ xs) middle ys high one other = (one.0, rises_append x xs middle ys high one.1 other)

-- and apart again
pub rises_apart : (low : ℕ) (xs ys : List ℕ) (high : ℕ) → Rises low (xs ++ ys) high → (middle : ℕ) × Rises low xs middle × Rises middle ys high
rises_apart low [] ys high rise = (low, omega arith, rise)
rises_apart low (x ∷ xs) ys high rise = let rest = rises_apart x xs ys high rise.1 in (rest.0, (rise.0, rest.1), rest.2)

-- the front alone
pub rises_front : (low : ℕ) (xs ys : List ℕ) (high : ℕ) → Rises low (xs ++ ys) high → Rises low xs high
rises_front low xs ys high rise =
    let parts = rises_apart low xs ys high rise in
    rises_higher low xs parts.0 high (rises_up parts.0 ys high parts.2) parts.1

-- without what lies between
pub rises_without : (low : ℕ) (xs gone ys : List ℕ) (high : ℕ) → Rises low (xs ++ (gone ++ ys)) high → Rises low (xs ++ ys) high
rises_without low xs gone ys high rise =
    let front = rises_apart low xs (gone ++ ys) high rise in
    let back = rises_apart front.0 gone ys high front.2 in
    rises_append low xs front.0 ys high front.1 (rises_lower front.0 back.0 ys high (rises_up front.0 gone back.0 back.1) back.2)

-- each is above the low one and at most the high one
pub rising_between : (low : ℕ) (ns : List ℕ) (high : ℕ) → Rises low ns high → AreBetween low ns high
rising_between low [] high rise i n at = cc
rising_between low (x ∷ xs) high rise zero n at =
    let same = same_Some x n at in
    let first = rise.0 in
    let up = rises_up x xs high rise.1 in
    (omega (arith, same, first), omega (arith, same, up))
rising_between low (x ∷ xs) high rise (suc i) n at =
    let rest = rising_between x xs high rise.1 i n at in
    let first = rise.0 in
    let over = rest.0 in
    (omega (arith, first, over), rest.1)

-- the earlier of two is the lesser
pub rising_ascends : (low : ℕ) (ns : List ℕ) (high : ℕ) → Rises low ns high → IsAscending ns
rising_ascends low [] high rise i j a b less one other = cc
rising_ascends low (x ∷ xs) high rise i zero a b less one other = absurd (omega (arith, less))
rising_ascends low (x ∷ xs) high rise zero (suc j) a b less one other =
    let same = same_Some x a one in
    let over = (rising_between x xs high rise.1 j b other).0 in
    omega (arith, same, over)
rising_ascends low (x ∷ xs) high rise (suc i) (suc j) a b less one other = rising_ascends x xs high rise.1 i j a b (omega (arith, less)) one other

-- no more of them than there are numbers between
pub rising_few : (low : ℕ) (ns : List ℕ) (high : ℕ) → Rises low ns high → low + length ns ≤ high
rising_few low [] high rise = omega (arith, rise)
rising_few low (x ∷ xs) high rise = let first = rise.0 in let rest = rising_few x xs high rise.1 in omega (arith, first, rest)

-- as many as there are between are all of those
pub rising_all : (low : ℕ) (ns : List ℕ) (high : ℕ) → Rises low ns high → low + length ns ≡ high → ns ≡ range_with_len (low + 1) (length ns)
rising_all low [] high rise many = refl
rising_all low (x ∷ xs) high rise many =
    let first = rise.0 in
    let few = rising_few x xs high rise.1 in
    let next : x ≡ low + 1 = omega (arith, first, few, many) in
    let rest = rising_all x xs high rise.1 (omega (arith, next, many)) in
    ap (λ l. x ∷ l) rest ∙ ap (λ n. n ∷ range_with_len (n + 1) (length xs)) next
