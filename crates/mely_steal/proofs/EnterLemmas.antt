-- Laws of the one list by the numbers of entering.
use Rattle.std.proofs.Common.{◌≡◌, ◌<◌, ◌==◌, ◌+◌, ◌||◌, ℕ, Bool, true, false, not, eqb, ltb, List, [], ◌∷◌, ◌++◌, None, Some, find, filter, slice_get, ◌⊎◌, inl, inr, arith, refl, sym, ap, subst, ◌∙◌, append_assoc}
use Rattle.std.proofs.lemmas.Bool.{cases_Bool, cases_eq, both_ways, eqb-true, eq-eqb, ne_eqb, le-ltb, lt-ltb, cond-true, cond-false, cond_both, or_left, or_right, or_cases, not_from_true, not_from_false}
use Rattle.std.proofs.lemmas.List.Elements.{filter-append}
use Rattle.std.proofs.lemmas.Option.{none-some, same_Some}
use Rattle.mely_steal.specs.Links.{is_in, without_place}
use Rattle.mely_steal.specs.Entering.{Ranked, of_class, entries_without, has_entry, ranks_of, insert_by_number, by_number, merge_classes, IsLeast, IsAscending, AreClassed, AreBelow, IsMerged}

-- an entry with the least number goes first
placed-least : (n : ℕ → ℕ) (x : Ranked) (xs : List Ranked) → IsLeast n x xs → insert_by_number n x xs ≡ x ∷ xs
placed-least n x [] least = refl
placed-least n x (y ∷ ys) least = cond-true (ltb (n x.colour) (n y.colour)) (x ∷ y ∷ ys) (y ∷ insert_by_number n x ys) (lt-ltb (n x.colour) (n y.colour) least.0)

least-placed : (n : ℕ → ℕ) (x y : Ranked) (ys : List Ranked) → n x.colour < n y.colour → IsLeast n x ys → IsLeast n x (insert_by_number n y ys)
least-placed n x y [] lt least = (lt, tt)
least-placed n x y (z ∷ zs) lt least = cond_both (ltb (n y.colour) (n z.colour)) (y ∷ z ∷ zs) (z ∷ insert_by_number n y zs) (IsLeast n x)
    (λ t. (lt, least))
    (λ f. (least.0, least-placed n x y zs lt least.1))

least-by_number : (n : ℕ → ℕ) (x : Ranked) (xs : List Ranked) → IsLeast n x xs → IsLeast n x (by_number n xs)
least-by_number n x [] least = tt
least-by_number n x (y ∷ ys) least = least-placed n x y (by_number n ys) least.0 (least-by_number n x ys least.1)

-- and is found first, wherever it stands
through : (n : ℕ → ℕ) (x : Ranked) (xs ys : List Ranked) → IsLeast n x xs → IsLeast n x ys → by_number n (xs ++ x ∷ ys) ≡ x ∷ by_number n (xs ++ ys)
through n x [] ys before behind = placed-least n x (by_number n ys) (least-by_number n x ys behind)
through n x (z ∷ zs) ys before behind =
    ap (insert_by_number n z) (through n x zs ys before.1 behind)
    ∙ cond-false (ltb (n z.colour) (n x.colour)) (z ∷ x ∷ by_number n (zs ++ ys)) (x ∷ insert_by_number n z (by_number n (zs ++ ys))) (le-ltb (n z.colour) (n x.colour) (let lt : n x.colour < n z.colour = before.0 in omega arith))

least-filter : (n : ℕ → ℕ) (p : Ranked → Bool) (x : Ranked) (xs : List Ranked) → IsLeast n x xs → IsLeast n x (filter p xs)
least-filter n p x [] least = tt
least-filter n p x (y ∷ ys) least = cond_both (p y) (y ∷ filter p ys) (filter p ys) (IsLeast n x) (λ t. (least.0, least-filter n p x ys least.1)) (λ f. least-filter n p x ys least.1)

least-append : (n : ℕ → ℕ) (x : Ranked) (xs ys : List Ranked) → IsLeast n x xs → IsLeast n x ys → IsLeast n x (xs ++ ys)
least-append n x [] ys h k = k
least-append n x (z ∷ zs) ys h k = (h.0, least-append n x zs ys h.1 k)

-- the entries of a class begin with the first entry where it is of the class
pub class-here : (k : ℕ) (x : Ranked) (xs : List Ranked) → x.class ≡ k → of_class k (x ∷ xs) ≡ x ∷ of_class k xs
class-here k x xs is = cond-true (eqb x.class k) (x ∷ of_class k xs) (of_class k xs) (eq-eqb x.class k is)

pub class-later : (k : ℕ) (x : Ranked) (xs : List Ranked) → (x.class ≡ k → ⊥) → of_class k (x ∷ xs) ≡ of_class k xs
class-later k x xs ne = cond-false (eqb x.class k) (x ∷ of_class k xs) (of_class k xs) (ne_eqb x.class k ne)

-- entries by their numbers are what their classes give
abbrev three-of : (ℕ → ℕ) → List Ranked → List Ranked → List Ranked → List Ranked
three-of n xs ys zs = by_number n (xs ++ (ys ++ zs))

by-classes : (n : ℕ → ℕ) (g : List Ranked) → IsAscending n g → AreClassed g → three-of n (of_class 1 g) (of_class 2 g) (of_class 3 g) ≡ g
by-classes n [] up classed = refl
by-classes n (x ∷ g) up classed =
    let rest = by-classes n g up.1 classed.1 in
    let a : List Ranked = of_class 1 g in
    let b : List Ranked = of_class 2 g in
    let c : List Ranked = of_class 3 g in
    let A : IsLeast n x a = least-filter n (λ e. e.class == 1) x g up.0 in
    let B : IsLeast n x b = least-filter n (λ e. e.class == 2) x g up.0 in
    let C : IsLeast n x c = least-filter n (λ e. e.class == 3) x g up.0 in
    elim classed.0 [
      | inl one ↦
          rw (class-here 1 x g one, class-later 2 x g (λ e. let f : x.class ≡ 2 = e in absurd (omega arith)), class-later 3 x g (λ e. let f : x.class ≡ 3 = e in absurd (omega arith)))
          (through n x [] (a ++ (b ++ c)) tt (least-append n x a (b ++ c) A (least-append n x b c B C)) ∙ ap (λ ys. x ∷ ys) rest)
      | inr more ↦ elim more [
        | inl two ↦
            rw (class-later 1 x g (λ e. let f : x.class ≡ 1 = e in absurd (omega arith)), class-here 2 x g two, class-later 3 x g (λ e. let f : x.class ≡ 3 = e in absurd (omega arith)))
            (through n x a (b ++ c) A (least-append n x b c B C) ∙ ap (λ ys. x ∷ ys) rest)
        | inr three ↦
            rw (class-later 1 x g (λ e. let f : x.class ≡ 1 = e in absurd (omega arith)), class-later 2 x g (λ e. let f : x.class ≡ 2 = e in absurd (omega arith)), class-here 3 x g three)
            (ap (by_number n) (sym (append_assoc a b (x ∷ c)))
            ∙ (through n x (a ++ b) c (least-append n x a b A B) C
            ∙ ap (λ ys. x ∷ ys) (ap (by_number n) (append_assoc a b c) ∙ rest)))
      ]
    ]

pub merged-is : (n : ℕ → ℕ) (g : List Ranked) (one two three : List ℕ) → IsMerged n g one two three → merge_classes n one two three ≡ g
merged-is n g one two three m =
    ap (λ xs. by_number n (xs ++ (ranks_of 2 two ++ ranks_of 3 three))) (sym m.ones)
    ∙ (ap (λ ys. by_number n (of_class 1 g ++ (ys ++ ranks_of 3 three))) (sym m.twos)
    ∙ (ap (λ zs. by_number n (of_class 1 g ++ (of_class 2 g ++ zs))) (sym m.threes)
    ∙ by-classes n g m.ascending m.classed))

-- one more entry
pub class-push : (k : ℕ) (g : List Ranked) (r : Ranked) → of_class k (g ++ r ∷ []) ≡ of_class k g ++ of_class k (r ∷ [])
class-push k g r = filter-append (λ e. e.class == k) g (r ∷ [])

least-push : (n m : ℕ → ℕ) (x : Ranked) (g : List Ranked) (r : Ranked) → m x.colour ≡ n x.colour → IsLeast n x g → ((y : ℕ) → has_entry y g ≡ true → m y ≡ n y) → n x.colour < m r.colour → IsLeast m x (g ++ r ∷ [])
least-push n m x [] r here least same lt = (rw here lt, tt)
least-push n m x (y ∷ g) r here least same lt =
    let there = same y.colour (or_left (eqb y.colour y.colour) (has_entry y.colour g) (eq-eqb y.colour y.colour refl)) in
    (rw (here, there) least.0, least-push n m x g r here least.1 (λ z h. same z (or_right (eqb y.colour z) (has_entry z g) h)) lt)

pub ascending-push : (n m : ℕ → ℕ) (g : List Ranked) (r : Ranked) → IsAscending n g → ((x : ℕ) → has_entry x g ≡ true → m x ≡ n x) → AreBelow n (m r.colour) g → IsAscending m (g ++ r ∷ [])
ascending-push n m [] r up same below = (tt, tt)
ascending-push n m (x ∷ g) r up same below = (
  least-push n m x g r (same x.colour (or_left (eqb x.colour x.colour) (has_entry x.colour g) (eq-eqb x.colour x.colour refl))) up.0 (λ y h. same y (or_right (eqb x.colour y) (has_entry y g) h)) below.0,
  ascending-push n m g r up.1 (λ y h. same y (or_right (eqb x.colour y) (has_entry y g) h)) below.1,
)

pub classed-push : (g : List Ranked) (r : Ranked) → AreClassed g → (r.class ≡ 1) ⊎ ((r.class ≡ 2) ⊎ (r.class ≡ 3)) → AreClassed (g ++ r ∷ [])
classed-push [] r classed is = (is, tt)
classed-push (x ∷ g) r classed is = (classed.0, classed-push g r classed.1 is)

pub below-push : (n m : ℕ → ℕ) (next : ℕ) (g : List Ranked) (r : Ranked) → AreBelow n next g → ((x : ℕ) → has_entry x g ≡ true → m x ≡ n x) → m r.colour ≡ next → AreBelow m (next + 1) (g ++ r ∷ [])
below-push n m next [] r below same is = (omega arith, tt)
below-push n m next (x ∷ g) r below same is =
    let here = same x.colour (or_left (eqb x.colour x.colour) (has_entry x.colour g) (eq-eqb x.colour x.colour refl)) in
    let lt : n x.colour < next = below.0 in
    (omega arith, below-push n m next g r below.1 (λ y h. same y (or_right (eqb x.colour y) (has_entry y g) h)) is)

-- entries without some
pub ascending-filter : (n : ℕ → ℕ) (p : Ranked → Bool) (g : List Ranked) → IsAscending n g → IsAscending n (filter p g)
ascending-filter n p [] up = tt
ascending-filter n p (x ∷ g) up = cond_both (p x) (x ∷ filter p g) (filter p g) (IsAscending n) (λ t. (least-filter n p x g up.0, ascending-filter n p g up.1)) (λ f. ascending-filter n p g up.1)

pub classed-filter : (p : Ranked → Bool) (g : List Ranked) → AreClassed g → AreClassed (filter p g)
classed-filter p [] classed = tt
classed-filter p (x ∷ g) classed = cond_both (p x) (x ∷ filter p g) (filter p g) AreClassed (λ t. (classed.0, classed-filter p g classed.1)) (λ f. classed-filter p g classed.1)

pub below-filter : (n : ℕ → ℕ) (next : ℕ) (p : Ranked → Bool) (g : List Ranked) → AreBelow n next g → AreBelow n next (filter p g)
below-filter n next p [] below = tt
below-filter n next p (x ∷ g) below = cond_both (p x) (x ∷ filter p g) (filter p g) (AreBelow n next) (λ t. (below.0, below-filter n next p g below.1)) (λ f. below-filter n next p g below.1)

pub filter-swap : (p q : Ranked → Bool) (g : List Ranked) → filter p (filter q g) ≡ filter q (filter p g)
filter-swap p q [] = refl
filter-swap p q (x ∷ g) = elim (cases_Bool (p x)) [
  | inl t ↦ elim (cases_Bool (q x)) [
    | inl u ↦
        ap (filter p) (cond-true (q x) (x ∷ filter q g) (filter q g) u)
        ∙ (cond-true (p x) (x ∷ filter p (filter q g)) (filter p (filter q g)) t
        ∙ (ap (λ ys. x ∷ ys) (filter-swap p q g)
        ∙ sym (ap (filter q) (cond-true (p x) (x ∷ filter p g) (filter p g) t) ∙ cond-true (q x) (x ∷ filter q (filter p g)) (filter q (filter p g)) u)))
    | inr v ↦
        ap (filter p) (cond-false (q x) (x ∷ filter q g) (filter q g) v)
        ∙ (filter-swap p q g
        ∙ sym (ap (filter q) (cond-true (p x) (x ∷ filter p g) (filter p g) t) ∙ cond-false (q x) (x ∷ filter q (filter p g)) (filter q (filter p g)) v))
  ]
  | inr f ↦
      let less : filter q (filter p (x ∷ g)) ≡ filter q (filter p g) = ap (filter q) (cond-false (p x) (x ∷ filter p g) (filter p g) f) in
      elim (cases_Bool (q x)) [
        | inl u ↦
            ap (filter p) (cond-true (q x) (x ∷ filter q g) (filter q g) u)
            ∙ (cond-false (p x) (x ∷ filter p (filter q g)) (filter p (filter q g)) f ∙ (filter-swap p q g ∙ sym less))
        | inr v ↦ ap (filter p) (cond-false (q x) (x ∷ filter q g) (filter q g) v) ∙ (filter-swap p q g ∙ sym less)
      ]
]

pub eqb-swap : (x y : ℕ) → eqb x y ≡ eqb y x
eqb-swap x y = elim (cases_eq x y) [
  | inl e ↦ eq-eqb x y e ∙ sym (eq-eqb y x (sym e))
  | inr ne ↦ ne_eqb x y ne ∙ sym (ne_eqb y x (λ e. ne (sym e)))
]

-- the entries of one class
pub entries_without-ranks : (c k : ℕ) (xs : List ℕ) → entries_without c (ranks_of k xs) ≡ ranks_of k (without_place c xs)
entries_without-ranks c k [] = refl
entries_without-ranks c k (x ∷ xs) = elim (cases_eq c x) [
  | inl e ↦
      cond-false (not (eqb x c)) (record { colour = x; class = k } ∷ entries_without c (ranks_of k xs)) (entries_without c (ranks_of k xs)) (not_from_true (eqb x c) (eq-eqb x c (sym e)))
      ∙ (entries_without-ranks c k xs ∙ sym (ap (ranks_of k) (cond-false (not (eqb c x)) (x ∷ without_place c xs) (without_place c xs) (not_from_true (eqb c x) (eq-eqb c x e)))))
  | inr ne ↦
      cond-true (not (eqb x c)) (record { colour = x; class = k } ∷ entries_without c (ranks_of k xs)) (entries_without c (ranks_of k xs)) (not_from_false (eqb x c) (ne_eqb x c (λ e. ne (sym e))))
      ∙ (ap (λ ys. record { colour = x; class = k } ∷ ys) (entries_without-ranks c k xs)
      ∙ sym (ap (ranks_of k) (cond-true (not (eqb c x)) (x ∷ without_place c xs) (without_place c xs) (not_from_false (eqb c x) (ne_eqb c x ne)))))
]

pub has-ranked : (c k : ℕ) (xs : List ℕ) → has_entry c (ranks_of k xs) ≡ is_in xs c
has-ranked c k [] = refl
has-ranked c k (x ∷ xs) = ap (λ b. b || has_entry c (ranks_of k xs)) (eqb-swap x c) ∙ ap (λ b. eqb c x || b) (has-ranked c k xs)

-- where a colour has an entry, it has one in some class
pub has-class : (c k : ℕ) (g : List Ranked) → has_entry c (of_class k g) ≡ true → has_entry c g ≡ true
has-class c k [] h = h
has-class c k (x ∷ g) h = elim (cases_Bool (eqb x.class k)) [
  | inl t ↦ elim (or_cases (eqb x.colour c) (has_entry c (of_class k g)) (sym (ap (has_entry c) (cond-true (eqb x.class k) (x ∷ of_class k g) (of_class k g) t)) ∙ h)) [
    | inl e ↦ or_left (eqb x.colour c) (has_entry c g) e
    | inr l ↦ or_right (eqb x.colour c) (has_entry c g) (has-class c k g l)
  ]
  | inr f ↦ or_right (eqb x.colour c) (has_entry c g) (has-class c k g (sym (ap (has_entry c) (cond-false (eqb x.class k) (x ∷ of_class k g) (of_class k g) f)) ∙ h))
]

pub find-class : (c : ℕ) (g : List Ranked) (r : Ranked) → AreClassed g → find (λ e. e.colour == c) g ≡ Some r
    → (r.colour ≡ c) × (has_entry c (of_class r.class g) ≡ true) × ((r.class ≡ 1) ⊎ ((r.class ≡ 2) ⊎ (r.class ≡ 3)))
find-class c [] r classed h = absurd (none-some r h)
find-class c (x ∷ g) r classed h = elim (cases_Bool (eqb x.colour c)) [
  | inl t ↦
      let is : x ≡ r = same_Some x r (sym (cond-true (eqb x.colour c) (Some x) (find (λ e. e.colour == c) g) t) ∙ h) in
      let Holds : Ranked → Type 0 = λ z. (z.colour ≡ c) × (has_entry c (of_class z.class (x ∷ g)) ≡ true) × ((z.class ≡ 1) ⊎ ((z.class ≡ 2) ⊎ (z.class ≡ 3))) in
      subst Holds is (
        eqb-true x.colour c t,
        ap (has_entry c) (class-here x.class x g refl) ∙ or_left (eqb x.colour c) (has_entry c (of_class x.class g)) t,
        classed.0,
      )
  | inr f ↦
      let rest = find-class c g r classed.1 (sym (cond-false (eqb x.colour c) (Some x) (find (λ e. e.colour == c) g) f) ∙ h) in (
        rest.0,
        cond_both (eqb x.class r.class) (x ∷ of_class r.class g) (of_class r.class g) (λ ys. has_entry c ys ≡ true) (λ t. or_right (eqb x.colour c) (has_entry c (of_class r.class g)) rest.1) (λ f'. rest.1),
        rest.2,
      )
]

pub find-none : (c : ℕ) (g : List Ranked) → find (λ e. e.colour == c) g ≡ None → has_entry c g ≡ false
find-none c [] h = refl
find-none c (x ∷ g) h = elim (cases_Bool (eqb x.colour c)) [
  | inl t ↦ absurd (none-some x (sym h ∙ cond-true (eqb x.colour c) (Some x) (find (λ e. e.colour == c) g) t))
  | inr f ↦ ap (λ b. b || has_entry c g) f ∙ find-none c g (sym (cond-false (eqb x.colour c) (Some x) (find (λ e. e.colour == c) g) f) ∙ h)
]

pub has-find : (c : ℕ) (g : List Ranked) → has_entry c g ≡ true → find (λ e. e.colour == c) g ≡ None → ⊥
has-find c g h none = both_ways (has_entry c g) (find-none c g none) h

-- the first entry of a class
pub find-of_class : (k : ℕ) (g : List Ranked) → find (λ e. e.class == k) g ≡ slice_get (of_class k g) 0
find-of_class k [] = refl
find-of_class k (x ∷ g) = elim (cases_Bool (eqb x.class k)) [
  | inl t ↦ cond-true (eqb x.class k) (Some x) (find (λ e. e.class == k) g) t ∙ sym (ap (λ ys. slice_get ys 0) (cond-true (eqb x.class k) (x ∷ of_class k g) (of_class k g) t))
  | inr f ↦ cond-false (eqb x.class k) (Some x) (find (λ e. e.class == k) g) f ∙ (find-of_class k g ∙ sym (ap (λ ys. slice_get ys 0) (cond-false (eqb x.class k) (x ∷ of_class k g) (of_class k g) f)))
]
