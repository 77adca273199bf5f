-- Sums over lists of lists, of which one changes.
use Rattle.std.proofs.Common.{◌≡◌, ℕ, zero, suc, ◌+◌, ◌≤◌, List, [], ◌∷◌, ◌++◌, Some, refl, sym, ◌∙◌, ap, arith}
use Rattle.std.proofs.lemmas.List.{append_assoc}
use Rattle.std.proofs.lemmas.List.Sums.{sum_by-append, sum_by-cons}
use Rattle.std.proofs.lemmas.Option.{same_Some}
use Rattle.std.specs.Prelude.{slice_get, slice_set, flat_map, sum_by}

-- what lies before and behind one of the lists
pub record Around {A X : Type 0} (h : A → List X) (xs : List A) (k : ℕ) (x : A) : Type 0 where
  pub front : List X
  pub back : List X
  pub was : flat_map h xs ≡ front ++ h x ++ back
  pub set : (y : A) → flat_map h (slice_set xs k y) ≡ front ++ h y ++ back

pub one_behind : {X : Type 0} (a b c d : List X) → a ++ (b ++ c ++ d) ≡ (a ++ b) ++ c ++ d
one_behind a b c d = sym (append_assoc a (b ++ c) d) ∙ ap (λ l. l ++ d) (sym (append_assoc a b c))

pub around : {A X : Type 0} (h : A → List X) (xs : List A) (k : ℕ) (x : A) → slice_get xs k ≡ Some x → Around h xs k x
around h [] k x at = cc
around h (z ∷ zs) zero x at =
    let same : z ≡ x = cc in
    record { front = []; back = flat_map h zs; was = ap (λ v. h v ++ flat_map h zs) same; set = λ y. refl }
around h (z ∷ zs) (suc k) x at =
    let r = around h zs k x at in
    record {
      front = h z ++ r.front;
      back = r.back;
      was = ap (λ l. h z ++ l) r.was ∙ one_behind (h z) r.front (h x) r.back;
      set = λ y. ap (λ l. h z ++ l) (r.set y) ∙ one_behind (h z) r.front (h y) r.back;
    }

pub sum_around : {X : Type 0} (f : X → ℕ) (a b c : List X) → sum_by f (a ++ b ++ c) ≡ sum_by f a + sum_by f b + sum_by f c
sum_around f a b c = sum_by-append f (a ++ b) c ∙ ap (λ n. n + sum_by f c) (sum_by-append f a b)

-- one of the lists becomes another
pub sum_set : {A X : Type 0} (h : A → List X) (f : X → ℕ) (xs : List A) (k : ℕ) (x y : A) → slice_get xs k ≡ Some x → sum_by f (flat_map h (slice_set xs k y)) + sum_by f (h x) ≡ sum_by f (flat_map h xs) + sum_by f (h y)
sum_set h f xs k x y at =
    let r = around h xs k x at in
    let was : sum_by f (flat_map h xs) ≡ sum_by f r.front + sum_by f (h x) + sum_by f r.back = ap (sum_by f) r.was ∙ sum_around f r.front (h x) r.back in
    let is : sum_by f (flat_map h (slice_set xs k y)) ≡ sum_by f r.front + sum_by f (h y) + sum_by f r.back = ap (sum_by f) (r.set y) ∙ sum_around f r.front (h y) r.back in
    omega (arith, was, is)

pub sum_one : {X : Type 0} (f : X → ℕ) (x : X) → sum_by f (x ∷ []) ≡ f x
sum_one f x = omega arith

-- a number that is 0 at each place
pub sum_nowhere : {X : Type 0} (f : X → ℕ) (xs : List X) → ((k : ℕ) (x : X) → slice_get xs k ≡ Some x → f x ≡ 0) → sum_by f xs ≡ 0
sum_nowhere f [] none = refl
sum_nowhere f (x ∷ xs) none = let here = none 0 x refl in let rest = sum_nowhere f xs (λ k y at. none (suc k) y at) in omega (arith, here, rest, sum_by-cons f x xs)

-- and one that is 0 but at one place
pub sum_at_one : {X : Type 0} (f : X → ℕ) (xs : List X) (k : ℕ) (x : X) → slice_get xs k ≡ Some x → ((j : ℕ) (y : X) → (j ≡ k → ⊥) → slice_get xs j ≡ Some y → f y ≡ 0) → sum_by f xs ≡ f x
sum_at_one f [] k x at none = cc
sum_at_one f (z ∷ zs) zero x at none =
    let same = ap f (same_Some z x at) in
    let rest = sum_nowhere f zs (λ j y there. none (suc j) y (λ is. cc) there) in
    omega (arith, same, rest, sum_by-cons f z zs)
sum_at_one f (z ∷ zs) (suc k) x at none =
    let here = none 0 z (λ is. cc) refl in
    let rest = sum_at_one f zs k x at (λ j y apart there. none (suc j) y (λ is. apart (omega (arith, is))) there) in
    omega (arith, here, rest, sum_by-cons f z zs)

-- what one of a list has is no more than the sum
pub sum_member : {X : Type 0} (f : X → ℕ) (xs : List X) (k : ℕ) (x : X) → slice_get xs k ≡ Some x → f x ≤ sum_by f xs
sum_member f [] k x at = cc
sum_member f (z ∷ zs) zero x at = let same = ap f (same_Some z x at) in omega (arith, same, sum_by-cons f z zs)
sum_member f (z ∷ zs) (suc k) x at = let rest = sum_member f zs k x at in omega (arith, rest, sum_by-cons f z zs)
