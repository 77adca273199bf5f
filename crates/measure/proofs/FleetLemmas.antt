-- Lists that threads gave back.
use Rattle.std.proofs.Common.{◌≡◌, ◌++◌, ℕ, zero, suc, List, [], ◌∷◌, Some, length, take, drop, ap, arith}
use Rattle.std.specs.Prelude.{slice_get}

-- what was written over the whole of a list is what is there
pub refilled : {A : Type 0} (xs ys : List A) (n : ℕ) → n ≡ length ys → length xs ≡ length ys → take n (xs ++ drop (length xs) ys) ≡ xs
refilled [] [] n is same = ap (λ k. take k []) is
refilled [] (y ∷ ys) n is same = absurd (omega (arith, same))
refilled (x ∷ xs) [] n is same = absurd (omega (arith, same))
refilled (x ∷ xs) (y ∷ ys) zero is same = absurd (omega (arith, is))
refilled (x ∷ xs) (y ∷ ys) (suc n) is same = ap (λ l. x ∷ l) (refilled xs ys n (omega (arith, is)) (omega (arith, same)))

-- the only one of a list
pub the_only : {A : Type 0} (a b : A) (i : ℕ) → slice_get (a ∷ []) i ≡ Some b → a ≡ b
the_only a b zero at = cc
the_only a b (suc i) at = cc
