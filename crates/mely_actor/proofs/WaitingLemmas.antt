-- What is put now and what waits, and what follows where all has been put.
use Rattle.std.proofs.Common.{◌≡◌, ◌≤◌, ◌+◌, ℕ, Bool, true, false, List, [], ◌∷◌, ◌++◌, length, refl, sym, ap, arith}
use Rattle.std.specs.List.{AllByRecursion}
use Rattle.mely_actor.specs.Waiting.{are_many, put_later, put_now, turn_is_put, turning}

abbrev pub of_true : Bool → ℕ
of_true true = 1
of_true false = 0

-- ---- lists

module _ {X : Type 0} where
  -- what is put and what waits is all
  pub put_whole : (busy : Bool) (all : List X) → put_now busy all ++ put_later busy all ≡ all
  put_whole true [] = refl
  put_whole true (x ∷ []) = refl
  put_whole true (x ∷ y ∷ []) = refl
  put_whole true (x ∷ y ∷ z ∷ more) = refl
  put_whole false [] = refl
  put_whole false (x ∷ []) = refl
  put_whole false (x ∷ y ∷ []) = refl
  put_whole false (x ∷ y ∷ z ∷ more) = refl

  -- two at most are put at once
  pub few_now : (all : List X) → length all ≤ 2 → put_now false all ≡ all
  few_now [] few = refl
  few_now (x ∷ []) few = refl
  few_now (x ∷ y ∷ []) few = refl
  few_now (x ∷ y ∷ z ∷ more) few = absurd (let long : length (x ∷ y ∷ z ∷ more) ≡ length more + 3 = omega arith in omega (arith, few, long))

  pub few_later : (all : List X) → length all ≤ 2 → put_later false all ≡ []
  few_later [] few = refl
  few_later (x ∷ []) few = refl
  few_later (x ∷ y ∷ []) few = refl
  few_later (x ∷ y ∷ z ∷ more) few = absurd (let long : length (x ∷ y ∷ z ∷ more) ≡ length more + 3 = omega arith in omega (arith, few, long))

  pub few_are : (all : List X) → length all ≤ 2 → are_many all ≡ false
  few_are [] few = refl
  few_are (x ∷ []) few = refl
  few_are (x ∷ y ∷ []) few = refl
  few_are (x ∷ y ∷ z ∷ more) few = absurd (let long : length (x ∷ y ∷ z ∷ more) ≡ length more + 3 = omega arith in omega (arith, few, long))

  -- 1 for a list that has something
  abbrev pub of_some : List X → ℕ
  of_some [] = 0
  of_some (x ∷ xs) = 1

  -- a turn is registered where something waits
  pub one_turn : (turn : Bool) (waiting new : List X) → (turn ≡ true → new ≡ [])
      → of_true (turn_is_put turn waiting (waiting ++ new)) + of_some waiting ≡ of_some (put_later (turning turn waiting) (waiting ++ new)) + of_true turn
  one_turn true [] new none = ap (λ (l : List X). of_some (put_later false l) + 1) (sym (none refl))
  one_turn true (x ∷ waiting) new none = behind (x ∷ waiting ++ new)
    where
      behind : (all : List X) → of_true (are_many all) + 1 ≡ of_some (put_later false all) + 1
      behind [] = refl
      behind (x ∷ []) = refl
      behind (x ∷ y ∷ []) = refl
      behind (x ∷ y ∷ z ∷ more) = refl
  one_turn false [] new none = first new
    where
      first : (all : List X) → of_true (are_many all) + 0 ≡ of_some (put_later false all) + 0
      first [] = refl
      first (x ∷ []) = refl
      first (x ∷ y ∷ []) = refl
      first (x ∷ y ∷ z ∷ more) = refl
  one_turn false (x ∷ waiting) new none = left (waiting ++ new)
    where
      left : (more : List X) → 0 + 1 ≡ of_some (put_later true (x ∷ more)) + 0
      left [] = refl
      left (y ∷ []) = refl
      left (y ∷ z ∷ more) = refl

  pub none_there : (xs : List X) → of_some xs ≡ 0 → xs ≡ []
  none_there [] none = refl
  none_there (x ∷ xs) none = cc

module _ {X : Type 0} (P : X → Type 0) where
  pub all_left : (xs ys : List X) → AllByRecursion P (xs ++ ys) → AllByRecursion P xs
  all_left [] ys all = tt
  all_left (x ∷ xs) ys all = (all.0, all_left xs ys all.1)

  pub all_right : (xs ys : List X) → AllByRecursion P (xs ++ ys) → AllByRecursion P ys
  all_right [] ys all = all
  all_right (x ∷ xs) ys all = all_right xs ys all.1

  pub all_both : (xs ys : List X) → AllByRecursion P xs → AllByRecursion P ys → AllByRecursion P (xs ++ ys)
  all_both [] ys one other = other
  all_both (x ∷ xs) ys one other = (one.0, all_both xs ys one.1 other)

  pub all_now : (busy : Bool) (all : List X) → AllByRecursion P all → AllByRecursion P (put_now busy all)
  all_now busy all each = all_left (put_now busy all) (put_later busy all) (rw (put_whole busy all) each)

  pub all_later : (busy : Bool) (all : List X) → AllByRecursion P all → AllByRecursion P (put_later busy all)
  all_later busy all each = all_right (put_now busy all) (put_later busy all) (rw (put_whole busy all) each)
