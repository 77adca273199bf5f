-- How many claims a number has.
use Rattle.std.proofs.Common.{◌≡◌, ℕ, zero, suc, eqb, eq-eqb, ne_eqb, ◌+◌, ◌<◌, ◌≤◌, ◌≢◌, cond, List, [], ◌∷◌, ◌++◌, length, refl, ap, ◌∙◌, arith}
use Rattle.std.proofs.lemmas.List.Sums.{sum_by-append, sum_by-cons}
use mathlib.Core.Logic.{dite}
use native.Mathlib.Decide.{ℕ_discrete}
use Rattle.mely_lock.specs.declared.claim.Claim.{Claim}
use Rattle.mely_lock.specs.Views.{claim, initial_claims, shares_of}

module _ {N F : Type 0} where
  pub shares_of-append : (n : ℕ) (xs ys : List (Claim N F)) → shares_of n (xs ++ ys) ≡ shares_of n xs + shares_of n ys
  shares_of-append n xs ys = sum_by-append (λ (c : Claim N F). cond (eqb c.number n) 1 0) xs ys

  pub share_of_same : (n : ℕ) (c : Claim N F) (cs : List (Claim N F)) → c.number ≡ n → shares_of n (c ∷ cs) ≡ 1 + shares_of n cs
  share_of_same n c cs e = sum_by-cons (λ (d : Claim N F). cond (eqb d.number n) 1 0) c cs ∙ ap (λ b. cond b 1 0 + shares_of n cs) (eq-eqb c.number n e)

  pub share_of_other : (n : ℕ) (c : Claim N F) (cs : List (Claim N F)) → c.number ≢ n → shares_of n (c ∷ cs) ≡ 0 + shares_of n cs
  share_of_other n c cs ne = sum_by-cons (λ (d : Claim N F). cond (eqb d.number n) 1 0) c cs ∙ ap (λ b. cond b 1 0 + shares_of n cs) (ne_eqb c.number n ne)

module _ (N : Type 0) {F : Type 0} where
  pub length-initial_claims : (k m : ℕ) (frame : F) → length (initial_claims {N = N} k m frame) ≡ m
  length-initial_claims k zero frame = refl
  length-initial_claims k (suc m) frame = ap suc (length-initial_claims (k + 1) m frame)

  -- the numbers from k on, m of them, have one claim each among the first ones, and others none
  pub record FirstShares (n k m : ℕ) (frame : F) : Type 0 where
    pub below : n < k → shares_of n (initial_claims {N = N} k m frame) ≡ 0
    pub among : k ≤ n → n < k + m → shares_of n (initial_claims {N = N} k m frame) ≡ 1
    pub above : k + m ≤ n → shares_of n (initial_claims {N = N} k m frame) ≡ 0

  pub shares_of-initial_claims : (n k m : ℕ) (frame : F) → FirstShares n k m frame
  shares_of-initial_claims n k zero frame = record { below = λ _. refl; among = λ l r. absurd (omega arith); above = λ _. refl }
  shares_of-initial_claims n k (suc m) frame = let rest = shares_of-initial_claims n (k + 1) m frame in let later : List (Claim N F) = initial_claims (k + 1) m frame in dite (ℕ_discrete k n)
      (λ e. let one = share_of_same n (claim k [] frame) later e in let none = rest.below (omega arith) in record { below = λ l. absurd (omega arith); among = λ l r. omega arith; above = λ l. absurd (omega arith) })
      (λ ne. let none = share_of_other n (claim k [] frame) later ne in record {
        below = λ l. let t = rest.below (omega arith) in omega arith;
        among = λ l r. let t = rest.among (omega arith) (omega arith) in omega arith;
        above = λ l. let t = rest.above (omega arith) in omega arith;
      })
