-- Lists in which something holds of each two elements, and lists whose keys ascend.
use Rattle.std.proofs.Common.{◌≡◌, ℕ, zero, suc, ◌<◌, Bool, true, false, List, [], ◌∷◌, ◌++◌, ◌⊎◌, Some, cond, map, filter, take, drop, refl, sym, ◌∙◌, ap, ap₂, subst, inl, inr, arith}
use Rattle.std.specs.Prelude.{flat_map}
use Rattle.std.specs.List.{AllByRecursion, slice_get}
use Rattle.mely_cause.proofs.AmongLemmas.{Among, all_at, all_from, among_place, among_front, among_back, passes_among, among_take, among_joined, joined_among, among_map, map_among}

module _ {X : Type 0} (R : X → X → Type 0) where
  -- it holds of each element and each later one
  abbrev pub Pairs : List X → Type 0
  Pairs [] = Unit {0}
  Pairs (x ∷ xs) = AllByRecursion (λ y. R x y) xs × Pairs xs

  all_in : (x : X) (xs ys : List X) → ((y : X) → Among y ys → Among y xs) → AllByRecursion (λ y. R x y) xs → AllByRecursion (λ y. R x y) ys
  all_in x xs ys within all = all_from (λ y. R x y) ys (λ y there. all_at (λ y. R x y) xs y all (within y there))

  pub pairs-filter : (p : X → Bool) (xs : List X) → Pairs xs → Pairs (filter p xs)
  pairs-filter p [] all = tt
  pairs-filter p (x ∷ xs) all = for (pairs-filter p xs all.1) (p x) where
    for : Pairs (filter p xs) → (own : Bool) → Pairs (cond own (x ∷ filter p xs) (filter p xs))
    for rest true = (all_in x xs (filter p xs) (λ y there. (passes_among p xs y there).0) all.0, rest)
    for rest false = rest

  pub pairs-take : (n : ℕ) (xs : List X) → Pairs xs → Pairs (take n xs)
  pairs-take zero xs all = tt
  pairs-take (suc n) [] all = tt
  pairs-take (suc n) (x ∷ xs) all = (all_in x xs (take n xs) (λ y there. among_take n xs y there) all.0, pairs-take n xs all.1)

  pub pairs-drop : (n : ℕ) (xs : List X) → Pairs xs → Pairs (drop n xs)
  pairs-drop zero xs all = all
  pairs-drop (suc n) [] all = tt
  pairs-drop (suc n) (x ∷ xs) all = pairs-drop n xs all.1

  -- it holds of the elements at two places
  pub pairs_at : (xs : List X) (i j : ℕ) (x y : X) → Pairs xs → slice_get xs i ≡ Some x → slice_get xs j ≡ Some y → i < j → R x y
  pairs_at [] i j x y all is there less = cc
  pairs_at (z ∷ xs) zero zero x y all is there less = absurd (omega arith)
  pairs_at (z ∷ xs) zero (suc j) x y all is there less = let same : z ≡ x = cc in subst (λ w. R w y) same (all_at (λ y. R z y) xs y all.0 (among_place xs j y there))
  pairs_at (z ∷ xs) (suc i) zero x y all is there less = absurd (omega arith)
  pairs_at (z ∷ xs) (suc i) (suc j) x y all is there less = pairs_at xs i j x y all.1 is there (omega arith)

  -- of two elements they are one, or it holds of one and the other
  pub pairs_among : (xs : List X) (x y : X) → Pairs xs → Among x xs → Among y xs → (x ≡ y) ⊎ (R x y ⊎ R y x)
  pairs_among [] x y all there here = elim there [ ]
  pairs_among (z ∷ xs) x y all (inl is) (inl so) = inl (is ∙ sym so)
  pairs_among (z ∷ xs) x y all (inl is) (inr there) = inr (inl (subst (λ w. R w y) (sym is) (all_at (λ y. R z y) xs y all.0 there)))
  pairs_among (z ∷ xs) x y all (inr there) (inl so) = inr (inr (subst (λ w. R w x) (sym so) (all_at (λ y. R z y) xs x all.0 there)))
  pairs_among (z ∷ xs) x y all (inr there) (inr here) = pairs_among xs x y all.1 there here

  -- one list behind another
  pub pairs-append : (xs ys : List X) → Pairs xs → Pairs ys → ((x y : X) → Among x xs → Among y ys → R x y) → Pairs (xs ++ ys)
  pairs-append [] ys first second across = second
  pairs-append (x ∷ xs) ys first second across = (both x xs ys first.0 (all_from (λ y. R x y) ys (λ y there. across x y (inl refl) there)), pairs-append xs ys first.1 second (λ z y here there. across z y (inr here) there)) where
    both : (x : X) (xs ys : List X) → AllByRecursion (λ y. R x y) xs → AllByRecursion (λ y. R x y) ys → AllByRecursion (λ y. R x y) (xs ++ ys)
    both x [] ys front back = back
    both x (z ∷ xs) ys front back = (front.0, both x xs ys front.1 back)

  pub pairs_front : (xs ys : List X) → Pairs (xs ++ ys) → Pairs xs
  pairs_front [] ys all = tt
  pairs_front (x ∷ xs) ys all = (all_in x (xs ++ ys) xs (λ y there. among_front xs ys y there) all.0, pairs_front xs ys all.1)

  pub pairs_back : (xs ys : List X) → Pairs (xs ++ ys) → Pairs ys
  pairs_back [] ys all = all
  pairs_back (x ∷ xs) ys all = pairs_back xs ys all.1

  pub pairs_across : (xs ys : List X) (x y : X) → Pairs (xs ++ ys) → Among x xs → Among y ys → R x y
  pairs_across [] ys x y all here there = elim here [ ]
  pairs_across (z ∷ xs) ys x y all (inl is) there = subst (λ w. R w y) (sym is) (all_at (λ y. R z y) (xs ++ ys) y all.0 (among_back xs ys y there))
  pairs_across (z ∷ xs) ys x y all (inr here) there = pairs_across xs ys x y all.1 here there

-- it holds of what two elements are mapped to
module _ {X Y : Type 0} (R : Y → Y → Type 0) (f : X → Y) where
  pub pairs-map : (xs : List X) → Pairs (λ x y. R (f x) (f y)) xs → Pairs R (map f xs)
  pairs-map [] all = tt
  pairs-map (x ∷ xs) all = (all_from (λ y. R (f x) y) (map f xs) (λ y there. let from = map_among f xs y there in subst (λ z. R (f x) z) (sym from.2) (all_at (λ y. R (f x) (f y)) xs from.0 all.0 from.1)), pairs-map xs all.1)

  pub pairs_mapped : (xs : List X) → Pairs R (map f xs) → Pairs (λ x y. R (f x) (f y)) xs
  pairs_mapped [] all = tt
  pairs_mapped (x ∷ xs) all = (all_from (λ y. R (f x) (f y)) xs (λ y there. all_at (λ y. R (f x) y) (map f xs) (f y) all.0 (among_map f xs y there)), pairs_mapped xs all.1)

module _ {X : Type 0} (key : X → ℕ) where
  -- the keys ascend
  abbrev pub Ascends : List X → Type 0
  Ascends xs = Pairs (λ x y. key x < key y) xs

  -- two lists that ascend and have the same elements are one
  pub same_elements : (xs ys : List X) → Ascends xs → Ascends ys → ((x : X) → Among x xs → Among x ys) → ((y : X) → Among y ys → Among y xs) → xs ≡ ys
  same_elements [] [] first second there here = refl
  same_elements [] (y ∷ ys) first second there here = absurd (here y (inl refl))
  same_elements (x ∷ xs) [] first second there here = absurd (there x (inl refl))
  same_elements (x ∷ xs) (y ∷ ys) first second there here = ap₂ (λ z l. z ∷ l) heads (same_elements xs ys first.1 second.1 (λ z in_rest. rest z in_rest (there z (inr in_rest))) (λ z in_rest. tail z in_rest (here z (inr in_rest)))) where
    above : (z : X) → Among z xs → key x < key z
    above z = all_at (λ y. key x < key y) xs z first.0

    above_other : (z : X) → Among z ys → key y < key z
    above_other z = all_at (λ z. key y < key z) ys z second.0

    head : (x ≡ y) ⊎ Among x ys → (y ≡ x) ⊎ Among y xs → x ≡ y
    head (inl is) other = is
    head (inr later) (inl is) = sym is
    head (inr later) (inr earlier) = let one = above_other x later in let two = above y earlier in absurd (omega (arith, one, two))

    heads : x ≡ y
    heads = head (there x (inl refl)) (here y (inl refl))

    rest : (z : X) → Among z xs → (z ≡ y) ⊎ Among z ys → Among z ys
    rest z in_rest (inl is) = let more = above z in_rest in let same = ap key (is ∙ sym heads) in absurd (omega (arith, more, same))
    rest z in_rest (inr so) = so

    tail : (z : X) → Among z ys → (z ≡ x) ⊎ Among z xs → Among z xs
    tail z in_rest (inl is) = let more = above_other z in_rest in let same = ap key (is ∙ heads) in absurd (omega (arith, more, same))
    tail z in_rest (inr so) = so

  module _ {Y : Type 0} (f : Y → List X) where
    -- the keys of the one's elements are below those of the other's
    abbrev pub Below : Y → Y → Type 0
    Below r s = (x y : X) → Among x (f r) → Among y (f s) → key x < key y

    -- the keys ascend along lists that are joined
    pub joined_ascend : (rs : List Y) → AllByRecursion (λ r. Ascends (f r)) rs → Pairs Below rs → Ascends (flat_map f rs)
    joined_ascend [] each across = tt
    joined_ascend (r ∷ rs) each across = pairs-append (λ x y. key x < key y) (f r) (flat_map f rs) each.0 (joined_ascend rs each.1 across.1) (λ x y here there.
        let later = joined_among f rs y there in
        all_at (λ s. Below r s) rs later.0 across.0 later.1 x y here later.2)

    pub each_ascends : (rs : List Y) → Ascends (flat_map f rs) → AllByRecursion (λ r. Ascends (f r)) rs
    each_ascends [] all = tt
    each_ascends (r ∷ rs) all = (pairs_front (λ x y. key x < key y) (f r) (flat_map f rs) all, each_ascends rs (pairs_back (λ x y. key x < key y) (f r) (flat_map f rs) all))

    pub across_ascend : (rs : List Y) → Ascends (flat_map f rs) → Pairs Below rs
    across_ascend [] all = tt
    across_ascend (r ∷ rs) all = (all_from (λ s. Below r s) rs (λ s later x y here there. pairs_across (λ x y. key x < key y) (f r) (flat_map f rs) x y all here (among_joined f rs s y later there)), across_ascend rs (pairs_back (λ x y. key x < key y) (f r) (flat_map f rs) all))
