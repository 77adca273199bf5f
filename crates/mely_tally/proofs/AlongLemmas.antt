-- Sums along a list.
use Rattle.std.proofs.Common.{◌≡◌, ℕ, ◌+◌, List, [], ◌∷◌, ◌++◌, refl, sym, ◌∙◌, ap, arith, length, take, length-append, append_assoc, append-nil}
use Rattle.std.proofs.lemmas.List.Sums.{sum_by-cons}
use Rattle.std.specs.Prelude.{sum_by}
use Rattle.mely_tally.specs.Account.{sum_along}

module _ {X : Type 0} (f : List X → X → ℕ) where
  pub along-append : (before xs ys : List X) → sum_along f before (xs ++ ys) ≡ sum_along f before xs + sum_along f (before ++ xs) ys
  along-append before [] ys = let same = ap (λ l. sum_along f l ys) (append-nil before) in omega (arith, same)
  along-append before (x ∷ xs) ys =
      let rest = along-append (before ++ x ∷ []) xs ys in
      let same : sum_along f ((before ++ x ∷ []) ++ xs) ys ≡ sum_along f (before ++ x ∷ xs) ys = ap (λ l. sum_along f l ys) (append_assoc before (x ∷ []) xs) in
      omega (arith, rest, same)

  pub along-push : (before xs : List X) (x : X) → sum_along f before (xs ++ x ∷ []) ≡ sum_along f before xs + f (before ++ xs) x
  along-push before xs x = let both = along-append before xs (x ∷ []) in omega (arith, both)

-- a number that doesn't go by those before
pub along-flat : {X : Type 0} (f : X → ℕ) (before xs : List X) → sum_along (λ _ x. f x) before xs ≡ sum_by f xs
along-flat f before [] = refl
along-flat f before (x ∷ xs) = let rest = along-flat f (before ++ x ∷ []) xs in let one = sum_by-cons f x xs in omega (arith, rest, one)

-- what stands before the same list is the same
front_alone : {X : Type 0} (xs zs : List X) → take (length xs) (xs ++ zs) ≡ xs
front_alone [] zs = refl
front_alone (x ∷ xs) zs = ap (λ l. x ∷ l) (front_alone xs zs)

pub cancel_behind : {X : Type 0} (xs ys zs : List X) → xs ++ zs ≡ ys ++ zs → xs ≡ ys
cancel_behind xs ys zs same =
    let many = ap length same in
    let one = length-append xs zs in
    let other = length-append ys zs in
    let long : length xs ≡ length ys = omega (arith, many, one, other) in
    sym (front_alone xs zs) ∙ ap (λ n. take n (xs ++ zs)) long ∙ ap (take (length ys)) same ∙ front_alone ys zs
