-- Laws of lists.
use Rattle.std.proofs.Common.{◌≡◌, ◌<◌, ℕ, zero, suc, Bool, true, false, ◌&&◌, ◌||◌, cond, List, [], ◌∷◌, ◌++◌, None, Some, length, map, take, replicate, arith, refl, sym, ap, subst, ◌∙◌, inl, inr, ◌⊎◌}
use Rattle.std.specs.Prelude.{slice_get, slice_set, unwrap_or}
use Rattle.std.specs.List.{AllByRecursion, filter, find, list_any, list_all}
use Rattle.std.proofs.lemmas.Bool.{cases_Bool, cond-true, cond-false}
use Rattle.std.proofs.lemmas.Option.{none-some, same_Some}

-- ---- what each has

pub all_weaker : {X : Type 0} (P Q : X → Type 0) (xs : List X) → ((x : X) → P x → Q x) → AllByRecursion P xs → AllByRecursion Q xs
all_weaker P Q [] to all = tt
all_weaker P Q (x ∷ xs) to all = (to x all.0, all_weaker P Q xs to all.1)

pub all_push : {X : Type 0} (P : X → Type 0) (xs : List X) (y : X) → AllByRecursion P xs → P y → AllByRecursion P (xs ++ y ∷ [])
all_push P [] y all is = (is, tt)
all_push P (x ∷ xs) y all is = (all.0, all_push P xs y all.1 is)

pub all_both : {X : Type 0} (P Q : X → Type 0) (xs : List X) → AllByRecursion P xs → AllByRecursion Q xs → AllByRecursion (λ x. P x × Q x) xs
all_both P Q [] p q = tt
all_both P Q (x ∷ xs) p q = ((p.0, q.0), all_both P Q xs p.1 q.1)

-- ---- finding

pub find_passes : {X : Type 0} (p : X → Bool) (xs : List X) (x : X) → find p xs ≡ Some x → p x ≡ true
find_passes p [] x h = absurd (none-some x h)
find_passes p (y ∷ xs) x h = elim (cases_Bool (p y)) [
  | inl t ↦ subst (λ z. p z ≡ true) (same_Some y x (sym (cond-true (p y) (Some y) (find p xs) t) ∙ h)) t
  | inr f ↦ find_passes p xs x (sym (cond-false (p y) (Some y) (find p xs) f) ∙ h)
]

pub find_has : {X : Type 0} (P : X → Type 0) (p : X → Bool) (xs : List X) (x : X) → AllByRecursion P xs → find p xs ≡ Some x → P x
find_has P p [] x all h = absurd (none-some x h)
find_has P p (y ∷ xs) x all h = elim (cases_Bool (p y)) [
  | inl t ↦ subst P (same_Some y x (sym (cond-true (p y) (Some y) (find p xs) t) ∙ h)) all.0
  | inr f ↦ find_has P p xs x all.1 (sym (cond-false (p y) (Some y) (find p xs) f) ∙ h)
]

pub find_place : {X : Type 0} (p : X → Bool) (xs : List X) (x : X) → find p xs ≡ Some x → (i : ℕ) × (slice_get xs i ≡ Some x)
find_place p [] x h = absurd (none-some x h)
find_place p (y ∷ xs) x h = elim (cases_Bool (p y)) [
  | inl t ↦ (0, sym (cond-true (p y) (Some y) (find p xs) t) ∙ h)
  | inr f ↦ let at = find_place p xs x (sym (cond-false (p y) (Some y) (find p xs) f) ∙ h) in (suc at.0, at.1)
]

pub find_none : {X : Type 0} (p : X → Bool) (xs : List X) → find p xs ≡ None → AllByRecursion (λ x. p x ≡ false) xs
find_none p [] h = tt
find_none p (y ∷ xs) h = elim (cases_Bool (p y)) [
  | inl t ↦ absurd (none-some y (sym h ∙ cond-true (p y) (Some y) (find p xs) t))
  | inr f ↦ (f, find_none p xs (sym (cond-false (p y) (Some y) (find p xs) f) ∙ h))
]

pub find_only : {X : Type 0} (p : X → Bool) (xs : List X) (x : X) (i : ℕ) → slice_get xs i ≡ Some x → p x ≡ true → AllByRecursion (λ y. (y ≡ x) ⊎ (p y ≡ false)) xs → find p xs ≡ Some x
find_only p [] x i at t all = absurd (none-some x at)
find_only p (y ∷ xs) x zero at t all =
    let is : y ≡ x = same_Some y x at in
    cond-true (p y) (Some y) (find p xs) (subst (λ z. p z ≡ true) (sym is) t) ∙ at
find_only p (y ∷ xs) x (suc i) at t all = elim (cases_Bool (p y)) [
  | inl met ↦ cond-true (p y) (Some y) (find p xs) met ∙ elim all.0 [ inl is ↦ ap (λ z. Some z) is | inr un ↦ cc ]
  | inr un ↦ cond-false (p y) (Some y) (find p xs) un ∙ find_only p xs x i at t all.1
]

pub filter_place : {X : Type 0} (p : X → Bool) (xs : List X) (x : X) (i : ℕ) → slice_get xs i ≡ Some x → p x ≡ true → (j : ℕ) × (slice_get (filter p xs) j ≡ Some x)
filter_place p [] x i at t = absurd (none-some x at)
filter_place p (y ∷ xs) x zero at t =
    (0, ap (λ b. slice_get (cond b (y ∷ filter p xs) (filter p xs)) 0) (subst (λ z. p z ≡ true) (sym (same_Some y x at)) t) ∙ at)
filter_place p (y ∷ xs) x (suc i) at t =
    let rest = filter_place p xs x i at t in
    elim (cases_Bool (p y)) [
      | inl met ↦ (suc rest.0, ap (λ b. slice_get (cond b (y ∷ filter p xs) (filter p xs)) (suc rest.0)) met ∙ rest.1)
      | inr un ↦ (rest.0, ap (λ b. slice_get (cond b (y ∷ filter p xs) (filter p xs)) rest.0) un ∙ rest.1)
    ]

pub none_any : {X : Type 0} (p : X → Bool) (xs : List X) → AllByRecursion (λ x. p x ≡ false) xs → list_any p xs ≡ false
none_any p [] all = refl
none_any p (x ∷ xs) all = ap (λ b. b || list_any p xs) all.0 ∙ none_any p xs all.1

pub none_is : {X : Type 0} (P : X → Type 0) (xs : List X) → ((x : X) → P x → ⊥) → AllByRecursion P xs → xs ≡ []
none_is P [] never all = refl
none_is P (x ∷ xs) never all = absurd (never x all.0)

-- ---- places

-- what stands at a place
pub got : {A : Type 0} (xs : List A) (i : ℕ) (x d : A) → slice_get xs i ≡ Some x → unwrap_or (slice_get xs i) d ≡ x
got xs i x d h = ap (λ o. unwrap_or o d) h

-- what stands at a place, put there again
pub set_there : {A : Type 0} (xs : List A) (i : ℕ) (x : A) → slice_get xs i ≡ Some x → slice_set xs i x ≡ xs
set_there [] i x h = refl
set_there (y ∷ xs) zero x h = ap (λ z. z ∷ xs) (sym (same_Some y x h))
set_there (y ∷ xs) (suc i) x h = ap (λ ys. y ∷ ys) (set_there xs i x h)

pub map_take : {A B : Type 0} (f : A → B) (n : ℕ) (xs : List A) → map f (take n xs) ≡ take n (map f xs)
map_take f zero xs = refl
map_take f (suc n) [] = refl
map_take f (suc n) (x ∷ xs) = ap (λ ys. f x ∷ ys) (map_take f n xs)

pub all_from : {X : Type 0} (p : X → Bool) (xs : List X) → ((i : ℕ) (x : X) → slice_get xs i ≡ Some x → p x ≡ true) → list_all p xs ≡ true
all_from p [] each = refl
all_from p (x ∷ xs) each = ap (λ b. b && list_all p xs) (each 0 x refl) ∙ all_from p xs (λ i. each (suc i))

pub and_true : (a b : Bool) → (a && b) ≡ true → (a ≡ true) × (b ≡ true)
and_true true b h = (refl, h)
and_true false b h = cc

pub all_at : {X : Type 0} (p : X → Bool) (xs : List X) → list_all p xs ≡ true → (i : ℕ) (x : X) → slice_get xs i ≡ Some x → p x ≡ true
all_at p [] h i x there = absurd (none-some x there)
all_at p (y ∷ xs) h zero x there = ap p (sym (same_Some y x there)) ∙ (and_true (p y) (list_all p xs) h).0
all_at p (y ∷ xs) h (suc i) x there = all_at p xs (and_true (p y) (list_all p xs) h).1 i x there

pub map_nothing : {A B : Type 0} (f : A → B) (xs : List A) → map f xs ≡ [] → xs ≡ []
map_nothing f [] h = refl
map_nothing f (x ∷ xs) h = cc

pub get_map_back : {A B : Type 0} (f : A → B) (xs : List A) (i : ℕ) (y : B) → slice_get (map f xs) i ≡ Some y → (x : A) × (slice_get xs i ≡ Some x) × (f x ≡ y)
get_map_back f [] i y h = absurd (none-some y h)
get_map_back f (x ∷ xs) zero y h = (x, refl, same_Some (f x) y h)
get_map_back f (x ∷ xs) (suc i) y h = get_map_back f xs i y h

pub there_of : {A : Type 0} (xs : List A) (i : ℕ) → i < length xs → (x : A) × (slice_get xs i ≡ Some x)
there_of [] i low = absurd (omega (arith, low))
there_of (x ∷ xs) zero low = (x, refl)
there_of (x ∷ xs) (suc i) low = there_of xs i (omega (arith, low))

pub all_one : {A B : Type 0} (f : A → B) (d : B) (xs : List A) → ((i : ℕ) (x : A) → slice_get xs i ≡ Some x → f x ≡ d) → map f xs ≡ replicate (length xs) d
all_one f d [] each = refl
all_one f d (x ∷ xs) each = λ i. each 0 x refl i ∷ all_one f d xs (λ k. each (suc k)) i

pub of_one : {A : Type 0} (n : ℕ) (d : A) (i : ℕ) (x : A) → slice_get (replicate n d) i ≡ Some x → x ≡ d
of_one zero d i x h = absurd (none-some x h)
of_one (suc n) d zero x h = sym (same_Some d x h)
of_one (suc n) d (suc i) x h = of_one n d i x h
