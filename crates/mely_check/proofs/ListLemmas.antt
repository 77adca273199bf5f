-- The elements of lists.
use Rattle.std.proofs.Common.{◌≡◌, ◌≢◌, ℕ, zero, suc, ◌<◌, ◌⊎◌, List, [], ◌∷◌, ◌++◌, Some, length, set, replicate, unwrap_or, refl, ap, arith, inl, inr}
use Rattle.std.specs.List.{slice_get}

-- what stands in a list with one more element
pub in_pushed : {X : Type 0} (xs : List X) (x y : X) (k : ℕ) → slice_get (xs ++ x ∷ []) k ≡ Some y → (slice_get xs k ≡ Some y) ⊎ ((k ≡ length xs) × (x ≡ y))
in_pushed [] x y zero is = inr (refl, ap (λ o. unwrap_or o x) is)
in_pushed [] x y (suc k) is = absurd (cc)
in_pushed (z ∷ xs) x y zero is = inl is
in_pushed (z ∷ xs) x y (suc k) is = elim (in_pushed xs x y k is) [ inl front ↦ inl front | inr last ↦ inr (ap suc last.0, last.1) ]

pub at_seam : {X : Type 0} (xs ys : List X) (y : X) → slice_get (xs ++ y ∷ ys) (length xs) ≡ Some y
at_seam [] ys y = refl
at_seam (x ∷ xs) ys y = at_seam xs ys y

pub at_other : {X : Type 0} (xs : List X) (i k : ℕ) (x : X) → k ≢ i → slice_get (set xs i x) k ≡ slice_get xs k
at_other [] i k x ne = refl
at_other (z ∷ xs) zero zero x ne = absurd (ne refl)
at_other (z ∷ xs) zero (suc k) x ne = refl
at_other (z ∷ xs) (suc i) zero x ne = refl
at_other (z ∷ xs) (suc i) (suc k) x ne = at_other xs i k x (λ e. ne (ap suc e))

pub at_changed : {X : Type 0} (xs : List X) (i : ℕ) (x y : X) → slice_get xs i ≡ Some y → slice_get (set xs i x) i ≡ Some x
at_changed [] i x y is = absurd (cc)
at_changed (z ∷ xs) zero x y is = refl
at_changed (z ∷ xs) (suc i) x y is = at_changed xs i x y is

pub in_replicate : {X : Type 0} (n k : ℕ) (x : X) → k < n → slice_get (replicate n x) k ≡ Some x
in_replicate zero k x lt = absurd (omega arith)
in_replicate (suc n) zero x lt = refl
in_replicate (suc n) (suc k) x lt = in_replicate n k x (omega arith)
