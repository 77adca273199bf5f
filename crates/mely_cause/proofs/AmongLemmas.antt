-- What is among the elements of a list.
use Rattle.std.proofs.Common.{◌≡◌, ℕ, zero, suc, ◌+◌, ◌<◌, Bool, true, false, List, [], ◌∷◌, ◌++◌, ◌⊎◌, Some, cond, length, map, filter, take, drop, refl, sym, ap, subst, inl, inr, arith}
use Rattle.std.specs.Prelude.{flat_map}
use Rattle.std.specs.List.{AllByRecursion, slice_get}

module _ {X : Type 0} where
  -- it is one of the elements
  abbrev pub Among : X → List X → Type 0
  Among x [] = ⊥
  Among x (y ∷ ys) = (x ≡ y) ⊎ Among x ys

  pub all_at : (P : X → Type 0) (xs : List X) (x : X) → AllByRecursion P xs → Among x xs → P x
  all_at P [] x all there = elim there [ ]
  all_at P (y ∷ xs) x all (inl is) = subst P (sym is) all.0
  all_at P (y ∷ xs) x all (inr in_rest) = all_at P xs x all.1 in_rest

  pub all_from : (P : X → Type 0) (xs : List X) → ((x : X) → Among x xs → P x) → AllByRecursion P xs
  all_from P [] each = tt
  all_from P (x ∷ xs) each = (each x (inl refl), all_from P xs (λ y in_rest. each y (inr in_rest)))

  -- it is at some place
  pub place_of : (xs : List X) (x : X) → Among x xs → (j : ℕ) × (slice_get xs j ≡ Some x)
  place_of [] x there = elim there [ ]
  place_of (y ∷ xs) x (inl is) = (0, ap (λ z. Some z) (sym is))
  place_of (y ∷ xs) x (inr in_rest) = let rest = place_of xs x in_rest in (suc rest.0, rest.1)

  pub among_place : (xs : List X) (j : ℕ) (x : X) → slice_get xs j ≡ Some x → Among x xs
  among_place [] j x is = cc
  among_place (y ∷ xs) zero x is = inl (cc)
  among_place (y ∷ xs) (suc j) x is = inr (among_place xs j x is)

  -- the list can be cut there
  pub cut_at : (xs : List X) (x : X) → Among x xs → (before after : List X) × (xs ≡ before ++ x ∷ after)
  cut_at [] x there = elim there [ ]
  cut_at (y ∷ xs) x (inl is) = ([], xs, ap (λ z. z ∷ xs) (sym is))
  cut_at (y ∷ xs) x (inr in_rest) = let rest = cut_at xs x in_rest in (y ∷ rest.0, rest.1, ap (λ l. y ∷ l) rest.2)

  -- among two lists
  pub among_front : (xs ys : List X) (x : X) → Among x xs → Among x (xs ++ ys)
  among_front [] ys x there = elim there [ ]
  among_front (y ∷ xs) ys x (inl is) = inl is
  among_front (y ∷ xs) ys x (inr in_rest) = inr (among_front xs ys x in_rest)

  pub among_back : (xs ys : List X) (x : X) → Among x ys → Among x (xs ++ ys)
  among_back [] ys x there = there
  among_back (y ∷ xs) ys x there = inr (among_back xs ys x there)

  pub among_either : (xs ys : List X) (x : X) → Among x (xs ++ ys) → Among x xs ⊎ Among x ys
  among_either [] ys x there = inr there
  among_either (y ∷ xs) ys x (inl is) = inl (inl is)
  among_either (y ∷ xs) ys x (inr in_rest) = for (among_either xs ys x in_rest) where
    for : Among x xs ⊎ Among x ys → ((x ≡ y) ⊎ Among x xs) ⊎ Among x ys
    for (inl here) = inl (inr here)
    for (inr there) = inr there

  -- among those that pass a test
  pub among_passes : (p : X → Bool) (xs : List X) (x : X) → Among x xs → p x ≡ true → Among x (filter p xs)
  among_passes p [] x there passes = elim there [ ]
  among_passes p (y ∷ xs) x there passes = for (λ in_rest. among_passes p xs x in_rest passes) (p y) refl there where
    for : (Among x xs → Among x (filter p xs)) → (own : Bool) → p y ≡ own → (x ≡ y) ⊎ Among x xs → Among x (cond own (y ∷ filter p xs) (filter p xs))
    for more true own (inl is) = inl is
    for more true own (inr in_rest) = inr (more in_rest)
    for more false own (inl is) = let same = ap p is in absurd cc
    for more false own (inr in_rest) = more in_rest

  pub passes_among : (p : X → Bool) (xs : List X) (x : X) → Among x (filter p xs) → Among x xs × (p x ≡ true)
  passes_among p [] x there = elim there [ ]
  passes_among p (y ∷ xs) x there = for (λ in_rest. passes_among p xs x in_rest) (p y) refl there where
    for : (Among x (filter p xs) → Among x xs × (p x ≡ true)) → (own : Bool) → p y ≡ own → Among x (cond own (y ∷ filter p xs) (filter p xs)) → ((x ≡ y) ⊎ Among x xs) × (p x ≡ true)
    for more true own (inl is) = (inl is, let same = ap p is in cc)
    for more true own (inr in_rest) = let rest = more in_rest in (inr rest.0, rest.1)
    for more false own there = let rest = more there in (inr rest.0, rest.1)

  -- among the first ones, and those behind them
  pub among_take : (n : ℕ) (xs : List X) (x : X) → Among x (take n xs) → Among x xs
  among_take zero xs x there = elim there [ ]
  among_take (suc n) [] x there = elim there [ ]
  among_take (suc n) (y ∷ xs) x (inl is) = inl is
  among_take (suc n) (y ∷ xs) x (inr in_rest) = inr (among_take n xs x in_rest)

  pub among_drop : (n : ℕ) (xs : List X) (x : X) → Among x (drop n xs) → Among x xs
  among_drop zero xs x there = there
  among_drop (suc n) [] x there = elim there [ ]
  among_drop (suc n) (y ∷ xs) x there = inr (among_drop n xs x there)

  -- an element of two lists is at a place of the first, or at one of the second behind that
  pub get_either : (xs ys : List X) (j : ℕ) (x : X) → slice_get (xs ++ ys) j ≡ Some x → (slice_get xs j ≡ Some x) ⊎ ((k : ℕ) × (j ≡ length xs + k) × (slice_get ys k ≡ Some x))
  get_either [] ys j x is = inr (j, omega arith, is)
  get_either (y ∷ xs) ys zero x is = inl is
  get_either (y ∷ xs) ys (suc j) x is = for (get_either xs ys j x is) where
    for : (slice_get xs j ≡ Some x) ⊎ ((k : ℕ) × (j ≡ length xs + k) × (slice_get ys k ≡ Some x)) → (slice_get xs j ≡ Some x) ⊎ ((k : ℕ) × (suc j ≡ suc (length xs) + k) × (slice_get ys k ≡ Some x))
    for (inl here) = inl here
    for (inr there) = let is = there.1 in inr (there.0, omega (arith, is), there.2)

  -- at each place of the first there is one
  pub get_front : (xs ys : List X) (j : ℕ) → j < length xs → (x : X) × (slice_get (xs ++ ys) j ≡ Some x) × Among x xs
  get_front [] ys j low = absurd (omega (arith, low))
  get_front (x ∷ xs) ys zero low = (x, refl, inl refl)
  get_front (x ∷ xs) ys (suc j) low = let rest = get_front xs ys j (omega (arith, low)) in (rest.0, rest.1, inr rest.2)

module _ {X Y : Type 0} (f : X → Y) where
  -- what is at a place of a list that was mapped
  pub get_map : (xs : List X) (j : ℕ) (y : Y) → slice_get (map f xs) j ≡ Some y → (x : X) × (slice_get xs j ≡ Some x) × (f x ≡ y)
  get_map [] j y is = absurd (cc)
  get_map (x ∷ xs) zero y is = (x, refl, cc)
  get_map (x ∷ xs) (suc j) y is = get_map xs j y is

  -- among what was mapped
  pub among_map : (xs : List X) (x : X) → Among x xs → Among (f x) (map f xs)
  among_map [] x there = elim there [ ]
  among_map (y ∷ xs) x (inl is) = inl (ap f is)
  among_map (y ∷ xs) x (inr in_rest) = inr (among_map xs x in_rest)

  pub map_among : (xs : List X) (y : Y) → Among y (map f xs) → (x : X) × Among x xs × (y ≡ f x)
  map_among [] y there = elim there [ ]
  map_among (z ∷ xs) y (inl is) = (z, inl refl, is)
  map_among (z ∷ xs) y (inr in_rest) = let rest = map_among xs y in_rest in (rest.0, inr rest.1, rest.2)

module _ {X Y : Type 0} (f : X → List Y) where
  -- among lists that are joined
  pub among_joined : (xs : List X) (x : X) (y : Y) → Among x xs → Among y (f x) → Among y (flat_map f xs)
  among_joined [] x y there inside = elim there [ ]
  among_joined (z ∷ xs) x y (inl is) there = among_front (f z) (flat_map f xs) y (subst (λ w. Among y (f w)) is there)
  among_joined (z ∷ xs) x y (inr in_rest) there = among_back (f z) (flat_map f xs) y (among_joined xs x y in_rest there)

  pub joined_among : (xs : List X) (y : Y) → Among y (flat_map f xs) → (x : X) × Among x xs × Among y (f x)
  joined_among [] y there = elim there [ ]
  joined_among (z ∷ xs) y there = for (λ later. joined_among xs y later) (among_either (f z) (flat_map f xs) y there) where
    for : (Among y (flat_map f xs) → (x : X) × Among x xs × Among y (f x)) → Among y (f z) ⊎ Among y (flat_map f xs) → (x : X) × ((x ≡ z) ⊎ Among x xs) × Among y (f x)
    for more (inl here) = (z, inl refl, here)
    for more (inr later) = let rest = more later in (rest.0, inr rest.1, rest.2)

-- where there is for each element of a list something of which this holds, it is chosen for all
pub chosen : {X Y : Type 0} (Holds : X → Y → Type 0) (xs : List X) → ((x : X) → Among x xs → (y : Y) × Holds x y) → (ps : List (X × Y)) × (map (λ p. p.0) ps ≡ xs) × AllByRecursion (λ p. Holds p.0 p.1) ps
chosen Holds [] each = ([], refl, tt)
chosen Holds (x ∷ xs) each =
    let one = each x (inl refl) in
    let rest = chosen Holds xs (λ y in_rest. each y (inr in_rest)) in
    ((x, one.0) ∷ rest.0, ap (λ l. x ∷ l) rest.1, (one.1, rest.2))
