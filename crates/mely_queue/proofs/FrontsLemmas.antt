-- What is left of a list when its first items are gone.
use Rattle.std.proofs.Common.{◌≡◌, ℕ, ◌+◌, ◌-◌, ◌≤◌, List, [], ◌∷◌, ◌++◌, Option, length, take, drop, sum, arith, refl, sym, ap, ◌∙◌, append_assoc, add-one}
use Rattle.std.proofs.lemmas.List.{length-drop}
use Rattle.std.proofs.lemmas.List.Sums.{sum_by-cons, sum_by-take-drop}
use Rattle.mely_event.specs.declared.event.Event.{Event}
use Rattle.mely_queue.specs.Invariant.{IsConsistent}

-- the first n and one more
pub take_first : {X : Type 0} (x : X) (xs ys : List X) (n m : ℕ) → n ≡ m + 1 → xs ≡ x ∷ ys → take n xs ≡ x ∷ take m ys
take_first x xs ys n m is e = rw (is, e, add-one m) refl

pub drop_first : {X : Type 0} (x : X) (xs ys : List X) (n m : ℕ) → n ≡ m + 1 → xs ≡ x ∷ ys → drop n xs ≡ drop m ys
drop_first x xs ys n m is e = rw (is, e, add-one m) refl

pub sum_first : (x : ℕ) (xs ys : List ℕ) (n m : ℕ) → n ≡ m + 1 → xs ≡ x ∷ ys → sum (take n xs) ≡ x + sum (take m ys)
sum_first x xs ys n m is e = ap sum (take_first x xs ys n m is e) ∙ sum_by-cons (λ k. k) x (take m ys)

pub append_first : {X : Type 0} (x : X) (done xs ys : List X) (n m : ℕ) → n ≡ m + 1 → xs ≡ x ∷ ys → (done ++ x ∷ []) ++ take m ys ≡ done ++ take n xs
append_first x done xs ys n m is e = append_assoc done (x ∷ []) (take m ys) ∙ ap (λ zs. done ++ zs) (sym (take_first x xs ys n m is e))

-- what the fields keep when the first n events are started
pub kept_after_take : {P : Type 0} (events : List (Event × Option P)) (weights : List ℕ) (started finished worth n : ℕ) → IsConsistent events weights started finished worth → n ≤ length events
    → IsConsistent (drop n events) (drop n weights) (started + n) finished (worth - sum (take n weights))
kept_after_take {P} events weights started finished worth n kept le =
    let a : length (drop n events) ≡ length events - n = length-drop n events in
    let b : length (drop n weights) ≡ length weights - n = length-drop n weights in
    let s : sum (take n weights) + sum (drop n weights) ≡ sum weights = sum_by-take-drop (λ k. k) weights n in
    record {
      weighed = omega arith;
      counted = omega arith;
      done = omega arith;
      worth = omega arith;
      small = omega arith;
    }
