-- What was dealt to shards has the sums that it had before.
use Rattle.std.proofs.Common.{◌≡◌, ℕ, zero, suc, ◌+◌, ◌*◌, ◌≤◌, ◌<◌, List, [], ◌∷◌, Option, Some, length, refl, sym, ◌∙◌, ap, arith, inl, inr}
use Rattle.std.proofs.Math.Nat.{le-mul_of_pos_right}
use Rattle.std.proofs.lemmas.Bool.{cases_lt}
use Rattle.std.proofs.lemmas.List.Sums.{sum_by-append, sum_by-cons}
use Rattle.std.specs.Prelude.{slice_get, flat_map, sum_by}
use Rattle.mely_worker.specs.Outs.{in_place}
use Rattle.mely_weave.specs.Dealing.{AreDealt}
use Rattle.mely_weave.proofs.Wholes.DealLemmas.{within_both}
use Rattle.mely_weave.proofs.Wholes.GatherLemmas.{get_there}

-- the first so many numbers of a sequence, summed
abbrev up_to : (ℕ → ℕ) → ℕ → ℕ
up_to h zero = 0
up_to h (suc n) = up_to h n + h n

up_to_same : (h k : ℕ → ℕ) (n : ℕ) → ((i : ℕ) → i < n → h i ≡ k i) → up_to h n ≡ up_to k n
up_to_same h k zero same = refl
up_to_same h k (suc n) same =
    let rest = up_to_same h k n (λ i low. same i (omega (arith, low))) in
    let last = same n (omega arith) in
    omega (arith, rest, last)

up_to_none : (n : ℕ) → up_to (λ i. 0) n ≡ 0
up_to_none zero = refl
up_to_none (suc n) = let rest = up_to_none n in omega (arith, rest)

up_to_two : (h k : ℕ → ℕ) (n : ℕ) → up_to (λ i. h i + k i) n ≡ up_to h n + up_to k n
up_to_two h k zero = refl
up_to_two h k (suc n) = let rest = up_to_two h k n in omega (arith, rest)

-- the first one apart
up_to_front : (h : ℕ → ℕ) (n : ℕ) → up_to h (suc n) ≡ h 0 + up_to (λ i. h (suc i)) n
up_to_front h zero = omega arith
up_to_front h (suc n) = let rest = up_to_front h n in omega (arith, rest)

-- the first ones, and those behind them
up_to_more : (h : ℕ → ℕ) (a b : ℕ) → up_to h (a + b) ≡ up_to h a + up_to (λ i. h (a + i)) b
up_to_more h a zero = ap (up_to h) (let e : a + 0 ≡ a = omega arith in e) ∙ omega arith
up_to_more h a (suc b) =
    let next : a + suc b ≡ suc (a + b) = omega arith in
    let rest = up_to_more h a b in
    ap (up_to h) next ∙ omega (arith, rest)

-- by rows or by columns
up_to_swap : (h : ℕ → ℕ → ℕ) (a b : ℕ) → up_to (λ i. up_to (λ s. h i s) b) a ≡ up_to (λ s. up_to (λ i. h i s) a) b
up_to_swap h zero b = sym (up_to_none b)
up_to_swap h (suc a) b =
    let rest = up_to_swap h a b in
    let both = up_to_two (λ s. up_to (λ i. h i s) a) (λ s. h a s) b in
    omega (arith, rest, both)

-- in blocks of one length
up_to_blocks : (h : ℕ → ℕ) (size m : ℕ) → up_to h (m * size) ≡ up_to (λ i. up_to (λ s. h (i * size + s)) size) m
up_to_blocks h size zero = ap (up_to h) (let e : 0 * size ≡ 0 = omega arith in e)
up_to_blocks h size (suc m) =
    let next : suc m * size ≡ m * size + size = omega arith in
    let rest = up_to_blocks h size m in
    let more = up_to_more h (m * size) size in
    ap (up_to h) next ∙ omega (arith, rest, more)

-- the number of what stands at a place, and 0 behind the last one
abbrev at_place : {X : Type 0} → (X → ℕ) → List X → ℕ → ℕ
at_place g xs k = sum_by g (in_place (slice_get xs k))

-- a sum over a list is one over its places
up_to_whole : {X : Type 0} (g : X → ℕ) (xs : List X) (n : ℕ) → length xs ≤ n → up_to (λ k. at_place g xs k) n ≡ sum_by g xs
up_to_whole g [] n low = up_to_none n
up_to_whole g (x ∷ xs) zero low = absurd (omega (arith, low))
up_to_whole g (x ∷ xs) (suc n) low =
    let front = up_to_front (λ k. at_place g (x ∷ xs) k) n in
    let rest = up_to_whole g xs n (omega (arith, low)) in
    let here = sum_by-cons g x [] in
    front ∙ omega (arith, rest, here, sum_by-cons g x xs)

-- a sum over lists of lists
pub sum_of_sums : {A X : Type 0} (h : A → List X) (g : X → ℕ) (xs : List A) → sum_by g (flat_map h xs) ≡ sum_by (λ a. sum_by g (h a)) xs
sum_of_sums h g [] = refl
sum_of_sums h g (x ∷ xs) = let rest = sum_of_sums h g xs in sum_by-append g (h x) (flat_map h xs) ∙ ap (λ n. sum_by g (h x) + n) rest ∙ sym (sum_by-cons (λ a. sum_by g (h a)) x xs)

module _ {X Y : Type 0} (items : Y → List X) (shards : ℕ) (some : 1 ≤ shards) (all : List X) (piles : List Y) (dealt : AreDealt items shards all piles) (g : X → ℕ) where
  abbrev many : ℕ
  many = length all

  no_longer : (s : ℕ) (pile : Y) → slice_get piles s ≡ Some pile → length (items pile) ≤ many
  no_longer s pile at = elim (cases_lt many (length (items pile))) [
    | inl more ↦
        let past = within_both (items pile) all many (many * shards + s) (dealt.each s pile at many) more in
        let enough = le-mul_of_pos_right many (let p : 0 < shards = omega (arith, some) in p) in
        absurd (omega (arith, past, enough))
    | inr less ↦ less
  ]

  -- the sum over a pile, by the places of the whole list
  of_pile : (s : ℕ) → s < shards → sum_by (λ (pile : Y). sum_by g (items pile)) (in_place (slice_get piles s)) ≡ up_to (λ i. at_place g all (i * shards + s)) many
  of_pile s low =
      let count = dealt.many in
      let there = get_there piles s (omega (arith, low, count)) in
      let one = ap (λ (o : Option Y). sum_by (λ (pile : Y). sum_by g (items pile)) (in_place o)) there.1 in
      let places = up_to_whole g (items there.0) many (no_longer s there.0 there.1) in
      let same = up_to_same (λ i. at_place g (items there.0) i) (λ i. at_place g all (i * shards + s)) many (λ i under. ap (λ (o : Option X). sum_by g (in_place o)) (dealt.each s there.0 there.1 i)) in
      omega (arith, one, places, same)

  -- so dealing keeps every sum
  pub dealt_sum : sum_by g (flat_map items piles) ≡ sum_by g all
  dealt_sum =
      let count = dealt.many in
      let lists = sum_of_sums items g piles in
      let by_shard = up_to_whole (λ (pile : Y). sum_by g (items pile)) piles shards (omega (arith, count)) in
      let by_place = up_to_same (λ s. sum_by (λ (pile : Y). sum_by g (items pile)) (in_place (slice_get piles s))) (λ s. up_to (λ i. at_place g all (i * shards + s)) many) shards of_pile in
      let swapped = up_to_swap (λ i s. at_place g all (i * shards + s)) many shards in
      let blocks = up_to_blocks (λ k. at_place g all k) shards many in
      let enough = le-mul_of_pos_right many (let p : 0 < shards = omega (arith, some) in p) in
      let whole = up_to_whole g all (many * shards) (omega (arith, enough)) in
      omega (arith, lists, by_shard, by_place, swapped, blocks, whole)
