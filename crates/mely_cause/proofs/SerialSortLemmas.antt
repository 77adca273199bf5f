-- A list put in the order of its elements' keys, of which no two are the same.
use Rattle.std.proofs.Common.{◌≡◌, ℕ, ◌<◌, Bool, true, false, List, [], ◌∷◌, ◌⊎◌, cond, ltb, refl, sym, subst, inl, inr, arith, ltb-true, ltb-false}
use Rattle.mely_cause.proofs.AmongLemmas.{Among, all_at, all_from}
use Rattle.mely_cause.proofs.AscendLemmas.{Ascends}

module _ {X : Type 0} (key : X → ℕ) where
  -- an element put in its place among others; where one with its key is there, that stays
  abbrev pub put_in : X → List X → List X
  put_in x [] = x ∷ []
  put_in x (y ∷ ys) = cond (ltb (key x) (key y)) (x ∷ y ∷ ys) (cond (ltb (key y) (key x)) (y ∷ put_in x ys) (y ∷ ys))

  abbrev pub by_key : List X → List X
  by_key [] = []
  by_key (x ∷ xs) = put_in x (by_key xs)

  among_put : (x : X) (ys : List X) (z : X) → Among z (put_in x ys) → (z ≡ x) ⊎ Among z ys
  among_put x [] z there = there
  among_put x (y ∷ ys) z there = for (λ later. among_put x ys z later) (ltb (key x) (key y)) (ltb (key y) (key x)) there where
    later : (z ≡ x) ⊎ Among z ys → (z ≡ x) ⊎ Among z (y ∷ ys)
    later (inl is) = inl is
    later (inr old) = inr (inr old)

    own : (Among z (put_in x ys) → (z ≡ x) ⊎ Among z ys) → Among z (y ∷ put_in x ys) → (z ≡ x) ⊎ Among z (y ∷ ys)
    own more (inl is) = inr (inl is)
    own more (inr rest) = later (more rest)

    for : (Among z (put_in x ys) → (z ≡ x) ⊎ Among z ys) → (less above : Bool) → Among z (cond less (x ∷ y ∷ ys) (cond above (y ∷ put_in x ys) (y ∷ ys))) → (z ≡ x) ⊎ Among z (y ∷ ys)
    for more true above there = there
    for more false true there = own more there
    for more false false there = inr there

  put_old : (x : X) (ys : List X) (z : X) → Among z ys → Among z (put_in x ys)
  put_old x [] z there = elim there [ ]
  put_old x (y ∷ ys) z there = for (λ later. put_old x ys z later) (ltb (key x) (key y)) (ltb (key y) (key x)) there where
    own : (Among z ys → Among z (put_in x ys)) → Among z (y ∷ ys) → Among z (y ∷ put_in x ys)
    own more (inl is) = inl is
    own more (inr old) = inr (more old)

    for : (Among z ys → Among z (put_in x ys)) → (less above : Bool) → Among z (y ∷ ys) → Among z (cond less (x ∷ y ∷ ys) (cond above (y ∷ put_in x ys) (y ∷ ys)))
    for more true above there = inr there
    for more false true there = own more there
    for more false false there = there

  put_new : (x : X) (ys : List X) → ((y : X) → Among y ys → key x ≡ key y → x ≡ y) → Among x (put_in x ys)
  put_new x [] one = inl refl
  put_new x (y ∷ ys) one = for (put_new x ys (λ z later. one z (inr later))) (ltb (key x) (key y)) (ltb (key y) (key x)) refl refl where
    for : Among x (put_in x ys) → (less above : Bool) → ltb (key x) (key y) ≡ less → ltb (key y) (key x) ≡ above → Among x (cond less (x ∷ y ∷ ys) (cond above (y ∷ put_in x ys) (y ∷ ys)))
    for more true high less other = inl refl
    for more false true less other = inr more
    for more false false less other =
        let up = ltb-false (key x) (key y) less in
        let down = ltb-false (key y) (key x) other in
        inl (one y (inl refl) (omega (arith, up, down)))

  put_ascends : (x : X) (ys : List X) → Ascends key ys → Ascends key (put_in x ys)
  put_ascends x [] all = (tt, tt)
  put_ascends x (y ∷ ys) all = for (put_ascends x ys all.1) (ltb (key x) (key y)) (ltb (key y) (key x)) refl refl where
    above : (z : X) → Among z ys → key y < key z
    above z = all_at (λ z. key y < key z) ys z all.0

    first : key x < key y → (z : X) → Among z (y ∷ ys) → key x < key z
    first less z (inl is) = subst (λ w. key x < key w) (sym is) less
    first less z (inr later) = let more = above z later in omega (arith, less, more)

    second : key y < key x → (z : X) → (z ≡ x) ⊎ Among z ys → key y < key z
    second less z (inl is) = subst (λ w. key y < key w) (sym is) less
    second less z (inr later) = above z later

    for : Ascends key (put_in x ys) → (less above : Bool) → ltb (key x) (key y) ≡ less → ltb (key y) (key x) ≡ above → Ascends key (cond less (x ∷ y ∷ ys) (cond above (y ∷ put_in x ys) (y ∷ ys)))
    for more true high is other = (all_from (λ z. key x < key z) (y ∷ ys) (first (ltb-true (key x) (key y) is)), all)
    for more false true is other = (all_from (λ z. key y < key z) (put_in x ys) (λ z there. second (ltb-true (key y) (key x) other) z (among_put x ys z there)), more)
    for more false false is other = all

  pub by_key_ascends : (xs : List X) → Ascends key (by_key xs)
  by_key_ascends [] = tt
  by_key_ascends (x ∷ xs) = put_ascends x (by_key xs) (by_key_ascends xs)

  pub by_key_among : (xs : List X) (z : X) → Among z (by_key xs) → Among z xs
  by_key_among [] z there = there
  by_key_among (x ∷ xs) z there = for (λ later. by_key_among xs z later) (among_put x (by_key xs) z there) where
    for : (Among z (by_key xs) → Among z xs) → (z ≡ x) ⊎ Among z (by_key xs) → Among z (x ∷ xs)
    for more (inl is) = inl is
    for more (inr later) = inr (more later)

  -- where elements with one key are one, all are there
  pub among_by_key : (xs : List X) → ((x y : X) → Among x xs → Among y xs → key x ≡ key y → x ≡ y) → (z : X) → Among z xs → Among z (by_key xs)
  among_by_key [] one z there = there
  among_by_key (x ∷ xs) one z (inl is) = subst (λ w. Among w (by_key (x ∷ xs))) (sym is) (put_new x (by_key xs) (λ y later. one x y (inl refl) (inr (by_key_among xs y later))))
  among_by_key (x ∷ xs) one z (inr later) = put_old x (by_key xs) z (among_by_key xs (λ a b first second. one a b (inr first) (inr second)) z later)
