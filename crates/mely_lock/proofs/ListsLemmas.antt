-- Lists read by place, and sums over them.
use Rattle.std.proofs.Common.{◌≡◌, ℕ, zero, suc, ◌+◌, ◌<◌, ◌≤◌, ◌≢◌, ◌⊎◌, List, [], ◌∷◌, ◌++◌, length, get_or, set, sum_by, count_by, All, Any, Bool, true, false, cond, sym, refl, ap, subst, inl, inr, ⊎_elim, arith}
use Rattle.std.specs.List.{AllByRecursion}
use Rattle.std.proofs.lemmas.List.Sums.{sum_by-cons, sum_by-set, get_or-le-sum_by}
use mathlib.Core.Option.{some, some-injective, some-ne-none}
use lib.ListN.{get_elem?}
use Rattle.atomic_table.proofs.Lists.{at_set, at_snoc}
use Rattle.mely_lock.specs.Rule.{EachAt}

module _ {A : Type 0} where
  pub set_there : (l : List A) (i : ℕ) (a b : A) → get_elem? l i ≡ some a → get_elem? (set l i b) i ≡ some b
  set_there [] i a b e = absurd (some-ne-none a (sym e))
  set_there (x ∷ xs) zero a b e = refl
  set_there (x ∷ xs) (suc i) a b e = set_there xs i a b e

  pub only_one : (l : List A) (a : A) → length l ≡ 1 → set l 0 a ≡ a ∷ []
  only_one [] a e = absurd (omega arith)
  only_one (x ∷ []) a e = refl
  only_one (x ∷ y ∷ ys) a e = absurd (omega arith)

  at_get_or : (xs : List A) (k : ℕ) (p : A) → get_elem? xs k ≡ some p → (k < length xs) × (get_or xs k p ≡ p)
  at_get_or [] k p e = absurd (some-ne-none p (sym e))
  at_get_or (x ∷ xs) zero p e = (omega arith, some-injective x p e)
  at_get_or (x ∷ xs) (suc k) p e = let more = at_get_or xs k p e in (omega arith, more.1)

  pub get_or_at : (xs : List A) (k : ℕ) (d : A) → k < length xs → get_elem? xs k ≡ some (get_or xs k d)
  get_or_at [] k d l = absurd (omega arith)
  get_or_at (x ∷ xs) zero d l = refl
  get_or_at (x ∷ xs) (suc k) d l = get_or_at xs k d (omega arith)

  -- what holds at each place, in std's words
  pub All-at : (P : A → Type 0) (xs : List A) → All P xs → EachAt (λ _ x. P x) xs
  All-at P xs all k p e = let t = at_get_or xs k p e in subst P t.1 (all k p t.0)

  pub at_place : (P : ℕ → A → Type 0) (xs : List A) → EachAt P xs → (k : ℕ) (d : A) → k < length xs → P k (get_or xs k d)
  at_place P xs each k d l = each k (get_or xs k d) (get_or_at xs k d l)

  pub Each-at : (P : A → Type 0) (xs : List A) (j : ℕ) (a : A) → AllByRecursion P xs → get_elem? xs j ≡ some a → P a
  Each-at P [] j a all e = absurd (some-ne-none a (sym e))
  Each-at P (x ∷ xs) zero a all e = subst P (some-injective x a e) all.0
  Each-at P (x ∷ xs) (suc j) a all e = Each-at P xs j a all.1 e

  pub Each-append : (P : A → Type 0) (xs ys : List A) → AllByRecursion P xs → AllByRecursion P ys → AllByRecursion P (xs ++ ys)
  Each-append P [] ys a b = b
  Each-append P (x ∷ xs) ys a b = (a.0, Each-append P xs ys a.1 b)

  -- one element is written: what holds of it, and held of each other, holds of each
  pub each_set : (P : ℕ → A → Type 0) (xs : List A) (i : ℕ) (a : A) → P i a → ((k : ℕ) (x : A) → k ≢ i → get_elem? xs k ≡ some x → P k x) → EachAt P (set xs i a)
  each_set P xs i a mine others k x e = ⊎_elim (λ (t : (k ≡ i) × (a ≡ x)). subst (λ (u : ℕ × A). P u.0 u.1) (λ j. (sym t.0 j, t.1 j)) mine)
      (λ (t : (k ≢ i) × (get_elem? xs k ≡ some x)). others k x t.0 t.1) (at_set xs i k a x e)

  -- one element comes behind the others
  pub each_push : (P : ℕ → A → Type 0) (xs : List A) (a : A) → ((k : ℕ) → P k a) → EachAt P xs → EachAt P (xs ++ a ∷ [])
  each_push P xs a new others k x e = ⊎_elim (others k x) (λ (t : a ≡ x). subst (P k) t (new k)) (at_snoc xs a x k e)

  at_push : (l : List A) (a b : A) (k : ℕ) → get_elem? (l ++ a ∷ []) k ≡ some b → (get_elem? l k ≡ some b) ⊎ ((k ≡ length l) × (a ≡ b))
  at_push [] a b zero e = inr (refl, some-injective a b e)
  at_push [] a b (suc k) e = absurd (some-ne-none b (sym e))
  at_push (x ∷ xs) a b zero e = inl e
  at_push (x ∷ xs) a b (suc k) e = ⊎_elim (λ t. inl t) (λ t. inr (ap suc t.0, t.1)) (at_push xs a b k e)

  -- the same, where what holds of the new one is known for its place alone
  pub each_pushed : (P : ℕ → A → Type 0) (l l' : List A) (a : A) → l' ≡ l ++ a ∷ [] → EachAt P l → P (length l) a → EachAt P l'
  each_pushed P l l' a is all last k p e = ⊎_elim (all k p) (λ (t : (k ≡ length l) × (a ≡ p)). subst (λ (u : ℕ × A). P u.0 u.1) (λ i. (sym t.0 i, t.1 i)) last)
      (at_push l a p k (subst (λ (m : List A). get_elem? m k ≡ some p) is e))

  pub sum-set : (f : A → ℕ) (xs : List A) (i : ℕ) (v w : A) → get_elem? xs i ≡ some v → sum_by f (set xs i w) + f v ≡ sum_by f xs + f w
  sum-set f xs i v w e = let t = at_get_or xs i v e in let moved = sum_by-set f xs i w v t.0 in let same : f (get_or xs i v) ≡ f v = ap f t.1 in omega arith

  pub sum_same : (f : A → ℕ) (xs : List A) (i : ℕ) (v w : A) → get_elem? xs i ≡ some v → f w ≡ f v → sum_by f (set xs i w) ≡ sum_by f xs
  sum_same f xs i v w e same = let moved = sum-set f xs i v w e in omega arith

  pub sum_one : (f : A → ℕ) (xs : List A) (i : ℕ) (v : A) → get_elem? xs i ≡ some v → f v ≤ sum_by f xs
  sum_one f xs i v e = let t = at_get_or xs i v e in let le = get_or-le-sum_by f xs i v t.0 in let same : f (get_or xs i v) ≡ f v = ap f t.1 in omega arith

  -- two elements at different places
  pub sum_two : (f : A → ℕ) (xs : List A) (i j : ℕ) (v w : A) → i ≢ j → get_elem? xs i ≡ some v → get_elem? xs j ≡ some w → f v + f w ≤ sum_by f xs
  sum_two f [] i j v w ne e e' = absurd (some-ne-none v (sym e))
  sum_two f (x ∷ xs) zero zero v w ne e e' = absurd (ne refl)
  sum_two f (x ∷ xs) zero (suc j) v w ne e e' = let all = sum_by-cons f x xs in let same : f x ≡ f v = ap f (some-injective x v e) in let rest = sum_one f xs j w e' in omega arith
  sum_two f (x ∷ xs) (suc i) zero v w ne e e' = let all = sum_by-cons f x xs in let same : f x ≡ f w = ap f (some-injective x w e') in let rest = sum_one f xs i v e in omega arith
  sum_two f (x ∷ xs) (suc i) (suc j) v w ne e e' = let all = sum_by-cons f x xs in let rest = sum_two f xs i j v w (λ h. ne (ap suc h)) e e' in omega arith

  sum_le : (f g : A → ℕ) → ((x : A) → f x ≤ g x) → (xs : List A) → sum_by f xs ≤ sum_by g xs
  sum_le f g le [] = omega arith
  sum_le f g le (x ∷ xs) = let a = sum_by-cons f x xs in let b = sum_by-cons g x xs in let here = le x in let rest = sum_le f g le xs in omega arith

  -- all but one element have less of the one than of the other
  pub sum_but_one : (f g : A → ℕ) → ((x : A) → f x ≤ g x) → (xs : List A) (i : ℕ) (v : A) → get_elem? xs i ≡ some v → sum_by f xs + g v ≤ sum_by g xs + f v
  sum_but_one f g le [] i v e = absurd (some-ne-none v (sym e))
  sum_but_one f g le (x ∷ xs) zero v e = let a = sum_by-cons f x xs in let b = sum_by-cons g x xs in let f_same : f x ≡ f v = ap f (some-injective x v e) in let g_same : g x ≡ g v = ap g (some-injective x v e) in let rest = sum_le f g le xs in omega arith
  sum_but_one f g le (x ∷ xs) (suc i) v e = let a = sum_by-cons f x xs in let b = sum_by-cons g x xs in let here = le x in let rest = sum_but_one f g le xs i v e in omega arith

  -- some element passes a test that is passed at all
  pub some_passes : (test : A → Bool) (xs : List A) → 0 < count_by test xs → Any (λ x. test x ≡ true) xs
  some_passes test [] l = absurd (omega arith)
  some_passes test (x ∷ xs) l = elim (test x) as (λ b. test x ≡ b → Any (λ x. test x ≡ true) (x ∷ xs)) [
    | true ↦ λ is. (0, x, omega arith, refl, is)
    | false ↦ λ is. let all = sum_by-cons (λ y. cond (test y) 1 0) x xs in let none : ◌≡◌ {A = ℕ} (cond (test x) 1 0) 0 = ap (λ b. cond b 1 0) is in
        let (k, y, below, there, passes) = some_passes test xs (omega arith) in (suc k, y, omega arith, there, passes)
  ] refl
