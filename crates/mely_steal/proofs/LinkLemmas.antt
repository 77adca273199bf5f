-- Laws of lists by links.
use Rattle.std.proofs.Common.{◌≡◌, ◌<◌, ◌≤◌, ◌+◌, ◌||◌, ℕ, zero, suc, true, false, not, cond, eqb, List, [], ◌∷◌, ◌++◌, length, slice_get, Some, ◌⊎◌, inl, inr, arith, refl, sym, ap, subst, ◌∙◌}
use Rattle.std.specs.List.{IsDistinct, AllByRecursion}
use Rattle.std.proofs.lemmas.Bool.{true≢false, cases_Bool, cases_eq, both_ways, eqb-true, eqb-false, eq-eqb, ne_eqb, or_left, or_right, or_cases, or_parts, or_from}
use Rattle.std.proofs.lemmas.Map.Steps.{length-le_from_distinct_below}
use Rattle.mely_steal.specs.Links.{places_from, is_in, without_place, AreDistinct, last_from, AreJoinedFrom, AreJoined}

-- the first place is in the list, and so is what is in the rest
pub in-here : (x : ℕ) (xs : List ℕ) → is_in (x ∷ xs) x ≡ true
in-here x xs = or_left (eqb x x) (is_in xs x) (eq-eqb x x refl)

pub in-later : (x y : ℕ) (xs : List ℕ) → is_in xs x ≡ true → is_in (y ∷ xs) x ≡ true
in-later x y xs h = or_right (eqb x y) (is_in xs x) h

-- what is in a list is its first place, or in the rest
in-cases : (x y : ℕ) (xs : List ℕ) → is_in (y ∷ xs) x ≡ true → (x ≡ y) ⊎ (is_in xs x ≡ true)
in-cases x y xs h = elim (or_cases (eqb x y) (is_in xs x) h) [ inl e ↦ inl (eqb-true x y e) | inr l ↦ inr l ]

pub in-other : (x y : ℕ) (xs : List ℕ) → (x ≡ y → ⊥) → is_in (y ∷ xs) x ≡ is_in xs x
in-other x y xs ne = ap (λ b. b || is_in xs x) (ne_eqb x y ne)

pub in-append : (x : ℕ) (xs : List ℕ) (y : ℕ) → is_in (xs ++ y ∷ []) x ≡ (is_in xs x || eqb x y)
in-append x [] y = elim (eqb x y) as (λ b. (b || false) ≡ b) [ true ↦ refl | false ↦ refl ]
in-append x (z ∷ zs) y = elim (eqb x z) as (λ b. (b || is_in (zs ++ y ∷ []) x) ≡ ((b || is_in zs x) || eqb x y)) [ true ↦ refl | false ↦ in-append x zs y ]

-- a place that isn't in a list isn't any that is
pub not-in : (x y : ℕ) (xs : List ℕ) → is_in xs x ≡ false → is_in xs y ≡ true → x ≡ y → ⊥
not-in x y xs off on e = both_ways (is_in xs x) off (ap (is_in xs) e ∙ on)

-- neighbours stay joined where the links of the list stay
frame-from : (a b c d : ℕ → ℕ) (x : ℕ) (xs : List ℕ) → c x ≡ a x → ((y : ℕ) → is_in xs y ≡ true → (c y ≡ a y) × (d y ≡ b y)) → AreJoinedFrom a b x xs → AreJoinedFrom c d x xs
frame-from a b c d x [] e same j = tt
frame-from a b c d x (y ∷ ys) e same j =
    let here = same y (in-here y ys) in
    (e ∙ j.0, here.1 ∙ j.1, frame-from a b c d y ys here.0 (λ z h. same z (in-later z y ys h)) j.2)

pub frame : (a b c d : ℕ → ℕ) (xs : List ℕ) → ((y : ℕ) → is_in xs y ≡ true → (c y ≡ a y) × (d y ≡ b y)) → AreJoined a b xs → AreJoined c d xs
frame a b c d [] same j = tt
frame a b c d (x ∷ xs) same j = frame-from a b c d x xs (same x (in-here x xs)).0 (λ z h. same z (in-later z x xs h)) j

-- a list whose neighbours are joined is the one that is followed
pub follow-from : (a b : ℕ → ℕ) (x : ℕ) (xs : List ℕ) → AreJoinedFrom a b x xs → places_from a (length xs) (a x) ≡ xs
follow-from a b x [] j = refl
follow-from a b x (y ∷ ys) j = ap (λ z. z ∷ places_from a (length ys) (a z)) j.0 ∙ ap (λ zs. y ∷ zs) (follow-from a b y ys j.2)

pub length-followed : (a : ℕ → ℕ) (n x : ℕ) → length (places_from a n x) ≡ n
length-followed a zero x = refl
length-followed a (suc n) x = ap suc (length-followed a n (a x))

-- the last place is in the list
pub last-in : (x : ℕ) (xs : List ℕ) → is_in (x ∷ xs) (last_from x xs) ≡ true
last-in x [] = in-here x []
last-in x (y ∷ ys) = in-later (last_from y ys) x (y ∷ ys) (last-in y ys)

-- the place before one that isn't the first is in the list, and so is the one
-- behind one that isn't the last
pub before-in : (a b : ℕ → ℕ) (c x : ℕ) (xs : List ℕ) → AreJoinedFrom a b x xs → is_in xs c ≡ true → is_in (x ∷ xs) (b c) ≡ true
before-in a b c x [] j h = absurd (true≢false (sym h))
before-in a b c x (y ∷ ys) j h = elim (in-cases c y ys h) [
  | inl e ↦ ap (is_in (x ∷ y ∷ ys)) (ap b e ∙ j.1) ∙ in-here x (y ∷ ys)
  | inr l ↦ in-later (b c) x (y ∷ ys) (before-in a b c y ys j.2 l)
]

pub after-in : (a b : ℕ → ℕ) (c x : ℕ) (xs : List ℕ) → AreJoinedFrom a b x xs → is_in (x ∷ xs) c ≡ true → (last_from x xs ≡ c → ⊥) → is_in xs (a c) ≡ true
after-in a b c x [] j h ne = elim (in-cases c x [] h) [ inl e ↦ absurd (ne (sym e)) | inr l ↦ absurd (true≢false (sym l)) ]
after-in a b c x (y ∷ ys) j h ne = elim (in-cases c x (y ∷ ys) h) [
  | inl e ↦ ap (is_in (y ∷ ys)) (ap a e ∙ j.0) ∙ in-here y ys
  | inr l ↦ in-later (a c) y ys (after-in a b c y ys j.2 l ne)
]

-- a place is joined to the back
pub join-from : (a b p q : ℕ → ℕ) (c x : ℕ) (xs : List ℕ) → AreJoinedFrom a b x xs → AreDistinct (x ∷ xs) → p (last_from x xs) ≡ c → q c ≡ last_from x xs
    → ((y : ℕ) → is_in (x ∷ xs) y ≡ true → (last_from x xs ≡ y → ⊥) → p y ≡ a y) → ((y : ℕ) → is_in (x ∷ xs) y ≡ true → q y ≡ b y) → AreJoinedFrom p q x (xs ++ c ∷ [])
join-from a b p q c x [] j apart to from stays back = (to, from, tt)
join-from a b p q c x (y ∷ ys) j apart to from stays back =
    let off : last_from y ys ≡ x → ⊥ = λ e. not-in x (last_from y ys) (y ∷ ys) apart.0 (last-in y ys) (sym e) in (
      stays x (in-here x (y ∷ ys)) off ∙ j.0,
      back y (in-later y x (y ∷ ys) (in-here y ys)) ∙ j.1,
      join-from a b p q c y ys j.2 apart.1 to from (λ z h ne. stays z (in-later z x (y ∷ ys) h) ne) (λ z h. back z (in-later z x (y ∷ ys) h)),
    )

pub last-append : (x : ℕ) (xs : List ℕ) (c : ℕ) → last_from x (xs ++ c ∷ []) ≡ c
last-append x [] c = refl
last-append x (y ∷ ys) c = last-append y ys c

-- at most one of each, after one more
pub distinct-append : (xs : List ℕ) (c : ℕ) → AreDistinct xs → is_in xs c ≡ false → AreDistinct (xs ++ c ∷ [])
distinct-append [] c apart off = (refl, tt)
distinct-append (x ∷ xs) c apart off =
    let parts = or_parts (eqb c x) (is_in xs c) off in
    let other : eqb x c ≡ false = ne_eqb x c (λ e. eqb-false c x parts.0 (sym e)) in
    (in-append x xs c ∙ or_from (is_in xs x) (eqb x c) apart.0 other, distinct-append xs c apart.1 parts.1)

-- what is in a list without a place
pub in-dropped : (c x : ℕ) (xs : List ℕ) → (c ≡ x → ⊥) → is_in (without_place c xs) x ≡ is_in xs x
in-dropped c x [] ne = refl
in-dropped c x (y ∷ ys) ne = elim (cases_Bool (eqb c y)) [
  | inl t ↦
      ap (λ b. is_in (cond (not b) (y ∷ without_place c ys) (without_place c ys)) x) t
      ∙ (in-dropped c x ys ne ∙ sym (in-other x y ys (λ e. ne (eqb-true c y t ∙ sym e))))
  | inr f ↦
      ap (λ b. is_in (cond (not b) (y ∷ without_place c ys) (without_place c ys)) x) f
      ∙ ap (λ b. eqb x y || b) (in-dropped c x ys ne)
]

pub gone-dropped : (c : ℕ) (xs : List ℕ) → is_in (without_place c xs) c ≡ false
gone-dropped c [] = refl
gone-dropped c (y ∷ ys) = elim (cases_Bool (eqb c y)) [
  | inl t ↦ ap (λ b. is_in (cond (not b) (y ∷ without_place c ys) (without_place c ys)) c) t ∙ gone-dropped c ys
  | inr f ↦ ap (λ b. is_in (cond (not b) (y ∷ without_place c ys) (without_place c ys)) c) f ∙ or_from (eqb c y) (is_in (without_place c ys) c) f (gone-dropped c ys)
]

pub dropped-none : (c : ℕ) (xs : List ℕ) → is_in xs c ≡ false → without_place c xs ≡ xs
dropped-none c [] off = refl
dropped-none c (y ∷ ys) off =
    let parts = or_parts (eqb c y) (is_in ys c) off in
    ap (λ b. cond (not b) (y ∷ without_place c ys) (without_place c ys)) parts.0 ∙ ap (λ zs. y ∷ zs) (dropped-none c ys parts.1)

-- the first place dropped, and another
pub dropped-first : (c : ℕ) (xs : List ℕ) → is_in xs c ≡ false → without_place c (c ∷ xs) ≡ xs
dropped-first c xs off = ap (λ b. cond (not b) (c ∷ without_place c xs) (without_place c xs)) (eq-eqb c c refl) ∙ dropped-none c xs off

pub dropped-later : (c y : ℕ) (xs : List ℕ) → (c ≡ y → ⊥) → without_place c (y ∷ xs) ≡ y ∷ without_place c xs
dropped-later c y xs ne = ap (λ b. cond (not b) (y ∷ without_place c xs) (without_place c xs)) (ne_eqb c y ne)

pub distinct-dropped : (c : ℕ) (xs : List ℕ) → AreDistinct xs → AreDistinct (without_place c xs)
distinct-dropped c [] apart = tt
distinct-dropped c (y ∷ ys) apart = elim (cases_eq c y) [
  | inl e ↦ subst AreDistinct (sym (ap (λ z. without_place z (y ∷ ys)) e ∙ (dropped-first y ys apart.0 ∙ sym (dropped-none c ys (ap (is_in ys) e ∙ apart.0))))) (distinct-dropped c ys apart.1)
  | inr ne ↦ subst AreDistinct (sym (dropped-later c y ys ne)) (in-dropped c y ys ne ∙ apart.0, distinct-dropped c ys apart.1)
]

pub length-dropped : (c : ℕ) (xs : List ℕ) → AreDistinct xs → is_in xs c ≡ true → length (without_place c xs) + 1 ≡ length xs
length-dropped c [] apart h = absurd (true≢false (sym h))
length-dropped c (y ∷ ys) apart h = elim (cases_eq c y) [
  | inl e ↦
      let less : without_place c (y ∷ ys) ≡ ys = ap (λ z. without_place z (y ∷ ys)) e ∙ dropped-first y ys apart.0 in
      rw less (omega arith)
  | inr ne ↦
      let more = dropped-later c y ys ne in
      let rest = length-dropped c ys apart.1 (sym (in-other c y ys ne) ∙ h) in
      rw more (omega arith)
]

-- the first of the list's rest is joined to the place before the one that is taken out
unlink-here : (a b p q : ℕ → ℕ) (c x : ℕ) (ys : List ℕ) → AreJoinedFrom a b c ys → AreDistinct (x ∷ c ∷ ys) → b c ≡ x → p (b c) ≡ a c
    → ((y : ℕ) → (b c ≡ y → ⊥) → p y ≡ a y) → ((last_from c ys ≡ c → ⊥) → q (a c) ≡ b c) → ((y : ℕ) → ((last_from c ys ≡ c) ⊎ (a c ≡ y → ⊥)) → q y ≡ b y) → AreJoinedFrom p q x ys
unlink-here a b p q c x [] j apart was front far back near = tt
unlink-here a b p q c x (n ∷ zs) j apart was front far back near =
    let more : last_from n zs ≡ c → ⊥ = λ e. not-in c (last_from n zs) (n ∷ zs) apart.1.0 (last-in n zs) (sym e) in
    let away : (y : ℕ) → is_in (c ∷ n ∷ zs) y ≡ true → b c ≡ y → ⊥ = λ y h e. not-in x y (c ∷ n ∷ zs) apart.0 h (sym was ∙ e) in
    let next : a c ≡ n = j.0 in (
      ap p (sym was) ∙ (front ∙ next),
      ap q (sym next) ∙ (back more ∙ was),
      frame-from a b p q n zs (far n (away n (in-later n c (n ∷ zs) (in-here n zs))))
          (λ z h. (far z (away z (in-later z c (n ∷ zs) (in-later z n zs h))), near z (inr (λ e. not-in n z zs apart.1.1.0 h (sym next ∙ e))))) j.2,
    )

-- a place is taken out from behind the first
pub unlink-from : (a b p q : ℕ → ℕ) (c x : ℕ) (xs : List ℕ) → AreJoinedFrom a b x xs → AreDistinct (x ∷ xs) → is_in xs c ≡ true → p (b c) ≡ a c
    → ((y : ℕ) → (b c ≡ y → ⊥) → p y ≡ a y) → ((last_from x xs ≡ c → ⊥) → q (a c) ≡ b c) → ((y : ℕ) → ((last_from x xs ≡ c) ⊎ (a c ≡ y → ⊥)) → q y ≡ b y) → AreJoinedFrom p q x (without_place c xs)
unlink-from a b p q c x [] j apart h front far back near = absurd (true≢false (sym h))
unlink-from a b p q c x (y ∷ ys) j apart h front far back near = elim (cases_eq c y) [
  | inl e ↦
      let From : ℕ → Type 0 = λ z. AreJoinedFrom a b z ys in
      let Apart : ℕ → Type 0 = λ z. AreDistinct (x ∷ z ∷ ys) in
      let Back : ℕ → Type 0 = λ z. (last_from z ys ≡ c → ⊥) → q (a c) ≡ b c in
      let Near : ℕ → Type 0 = λ z. (y : ℕ) → ((last_from z ys ≡ c) ⊎ (a c ≡ y → ⊥)) → q y ≡ b y in
      let less : without_place c (y ∷ ys) ≡ ys = ap (λ z. without_place z (y ∷ ys)) e ∙ dropped-first y ys apart.1.0 in
      let Joined : List ℕ → Type 0 = λ zs. AreJoinedFrom p q x zs in
      subst Joined (sym less)
      (unlink-here a b p q c x ys (subst From (sym e) j.2) (subst Apart (sym e) apart) (ap b e ∙ j.1) front far (subst Back (sym e) back) (subst Near (sym e) near))
  | inr ne ↦
      let l : is_in ys c ≡ true = sym (in-other c y ys ne) ∙ h in
      let Joined : List ℕ → Type 0 = λ zs. AreJoinedFrom p q x zs in
      let here : p x ≡ a x = far x (λ e. not-in x (b c) (y ∷ ys) apart.0 (before-in a b c y ys j.2 l) (sym e)) in
      let close : q y ≡ b y = elim (cases_eq (last_from y ys) c) [
        | inl last ↦ near y (inl last)
        | inr more ↦ near y (inr (λ e. not-in y (a c) ys apart.1.0 (after-in a b c y ys j.2 (in-later c y ys l) more) (sym e)))
      ] in
      subst Joined (sym (dropped-later c y ys ne)) (here ∙ j.0, close ∙ j.1, unlink-from a b p q c y ys j.2 apart.1 l front far back near)
]

-- the first is taken out
pub unlink-first : (a b p q : ℕ → ℕ) (c : ℕ) (xs : List ℕ) → AreJoinedFrom a b c xs → AreDistinct xs
    → ((y : ℕ) → p y ≡ a y) → ((y : ℕ) → ((last_from c xs ≡ c) ⊎ (a c ≡ y → ⊥)) → q y ≡ b y) → AreJoined p q xs
unlink-first a b p q c [] j apart far near = tt
unlink-first a b p q c (n ∷ zs) j apart far near =
    frame-from a b p q n zs (far n) (λ z h. (far z, near z (inr (λ e. not-in n z zs apart.0 h (sym j.0 ∙ e))))) j.2

-- the last place without one that is the last, and without another
pub last-dropped_last : (a b : ℕ → ℕ) (c x : ℕ) (xs : List ℕ) → AreJoinedFrom a b x xs → AreDistinct (x ∷ xs) → is_in xs c ≡ true → last_from x xs ≡ c → last_from x (without_place c xs) ≡ b c
last-dropped_last a b c x [] j apart h last = absurd (true≢false (sym h))
last-dropped_last a b c x (y ∷ []) j apart h last =
    let e : c ≡ y = sym last in
    ap (λ z. last_from x (without_place z (y ∷ []))) e ∙ (ap (last_from x) (dropped-first y [] refl) ∙ sym (ap b e ∙ j.1))
last-dropped_last a b c x (y ∷ z ∷ zs) j apart h last =
    let ne : c ≡ y → ⊥ = λ e. not-in y (last_from z zs) (z ∷ zs) apart.1.0 (last-in z zs) (sym e ∙ sym last) in
    ap (last_from x) (dropped-later c y (z ∷ zs) ne)
    ∙ last-dropped_last a b c y (z ∷ zs) j.2 apart.1 (sym (in-other c y (z ∷ zs) ne) ∙ h) last

pub last-dropped_other : (c x : ℕ) (xs : List ℕ) → AreDistinct xs → (last_from x xs ≡ c → ⊥) → last_from x (without_place c xs) ≡ last_from x xs
last-dropped_other c x [] apart ne = refl
last-dropped_other c x (y ∷ []) apart ne = ap (last_from x) (dropped-later c y [] (λ e. ne (sym e)))
last-dropped_other c x (y ∷ z ∷ zs) apart ne = elim (cases_eq c y) [
  | inl e ↦ ap (last_from x) (ap (λ w. without_place w (y ∷ z ∷ zs)) e ∙ dropped-first y (z ∷ zs) apart.0)
  | inr other ↦ ap (last_from x) (dropped-later c y (z ∷ zs) other) ∙ last-dropped_other c y (z ∷ zs) apart.1 ne
]

-- places that follow one another where the links of the list stay
pub follow-frame : (a c : ℕ → ℕ) (n x : ℕ) → ((y : ℕ) → is_in (places_from a n x) y ≡ true → c y ≡ a y) → places_from c n x ≡ places_from a n x
follow-frame a c zero x same = refl
follow-frame a c (suc n) x same =
    ap (λ z. x ∷ places_from c n z) (same x (in-here x (places_from a n (a x))))
    ∙ ap (λ zs. x ∷ zs) (follow-frame a c n (a x) (λ y h. same y (in-later y x (places_from a n (a x)) h)))

-- a list of places that are below a number, each once, isn't longer
each-differs : (x : ℕ) (xs : List ℕ) → is_in xs x ≡ false → AllByRecursion (λ y. eqb x y ≡ false) xs
each-differs x [] off = tt
each-differs x (y ∷ ys) off = let parts = or_parts (eqb x y) (is_in ys x) off in (parts.0, each-differs x ys parts.1)

distinct-is : (xs : List ℕ) → AreDistinct xs → IsDistinct eqb xs
unfolding IsDistinct
distinct-is [] apart = tt
distinct-is (x ∷ xs) apart = (each-differs x xs apart.0, distinct-is xs apart.1)

pub length-distinct : (xs : List ℕ) (n : ℕ) → AreDistinct xs → ((x : ℕ) → is_in xs x ≡ true → x < n) → length xs ≤ n
length-distinct xs n apart below = length-le_from_distinct_below xs n (distinct-is xs apart) below

-- so many steps behind a place
abbrev pub walked : (ℕ → ℕ) → ℕ → ℕ → ℕ
walked a zero x = x
walked a (suc i) x = walked a i (a x)

pub walked-more : (a : ℕ → ℕ) (i x : ℕ) → a (walked a i x) ≡ walked a (suc i) x
walked-more a zero x = refl
walked-more a (suc i) x = walked-more a i (a x)

pub walked-at : (a : ℕ → ℕ) (n i x : ℕ) → i < n → slice_get (places_from a n x) i ≡ Some (walked a i x)
walked-at a zero i x lt = absurd (omega arith)
walked-at a (suc n) zero x lt = refl
walked-at a (suc n) (suc i) x lt = walked-at a n i (a x) (omega arith)

pub walked-in : (a : ℕ → ℕ) (n i x : ℕ) → i < n → is_in (places_from a n x) (walked a i x) ≡ true
walked-in a zero i x lt = absurd (omega arith)
walked-in a (suc n) zero x lt = in-here x (places_from a n (a x))
walked-in a (suc n) (suc i) x lt = in-later (walked a i (a x)) x (places_from a n (a x)) (walked-in a n i (a x) (omega arith))
