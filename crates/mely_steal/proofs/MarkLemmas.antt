-- Laws of lists of marks with at most one a colour.
use Rattle.std.proofs.Common.{◌≡◌, ◌<◌, ℕ, true, false, not, cond, eqb, List, [], ◌∷◌, ◌++◌, None, Some, refl, sym, ap, ◌∙◌, inl, inr}
use Rattle.std.specs.Option.{option_or}
use Rattle.std.proofs.lemmas.Bool.{cases_Bool, cases_eq, cond_both, eqb-true, eqb-false, eq-eqb, ne_eqb, cond-true, cond-false}
use Rattle.std.proofs.lemmas.Option.{none-some, same_Some}
use Rattle.std.proofs.lemmas.List.Elements.{All-push, All-filter, All-map, All-weaker}
use Rattle.mely_event.specs.declared.colour.Colour.{Colour}
use Rattle.mely_event.specs.declared.mark.Mark.{Mark}
use Rattle.mely_steal.specs.Marks.{is_of, mark_of, without, after_replacement, IsOneEach, AreApart}

-- where the first mark isn't of the colour, and none behind it is
pub none-parts : (c : Colour) (x : Mark) (xs : List Mark) → mark_of c (x ∷ xs) ≡ None → (is_of c x ≡ false) × (mark_of c xs ≡ None)
none-parts c x xs h = elim (cases_Bool (is_of c x)) [
  | inl t ↦ absurd (none-some x (sym h ∙ ap (λ b. cond b (Some x) (mark_of c xs)) t))
  | inr f ↦ (f, sym (ap (λ b. cond b (Some x) (mark_of c xs)) f) ∙ h)
]

-- two colours of one number have the same mark
pub mark_of-same : (c d : Colour) (xs : List Mark) → c.0 ≡ d.0 → mark_of c xs ≡ mark_of d xs
mark_of-same c d xs e = ap (λ n. mark_of (record { 0 = n }) xs) e

-- the mark of a colour is of the colour
pub mark_of-colour : (c : Colour) (xs : List Mark) (m : Mark) → mark_of c xs ≡ Some m → m.colour.0 ≡ c.0
mark_of-colour c [] m h = absurd (none-some m h)
mark_of-colour c (x ∷ xs) m h = elim (cases_Bool (is_of c x)) [
  | inl t ↦ let is : x ≡ m = same_Some x m (sym (cond-true (is_of c x) (Some x) (mark_of c xs) t) ∙ h) in sym (ap (λ k. k.colour.0) is) ∙ eqb-true x.colour.0 c.0 t
  | inr f ↦ mark_of-colour c xs m (sym (cond-false (is_of c x) (Some x) (mark_of c xs) f) ∙ h)
]

pub mark_of-append : (c : Colour) (xs ys : List Mark) → mark_of c (xs ++ ys) ≡ option_or (mark_of c xs) (mark_of c ys)
mark_of-append c [] ys = refl
mark_of-append c (x ∷ xs) ys = elim (is_of c x) as (λ b. cond b (Some x) (mark_of c (xs ++ ys)) ≡ option_or (cond b (Some x) (mark_of c xs)) (mark_of c ys)) [
  | true ↦ refl
  | false ↦ mark_of-append c xs ys
]

-- what a list without a colour has of that colour
pub mark_of-without_same : (c d : Colour) (xs : List Mark) → c.0 ≡ d.0 → mark_of c (without d xs) ≡ None
mark_of-without_same c d [] e = refl
mark_of-without_same c d (x ∷ xs) e = elim (cases_Bool (is_of d x)) [
  | inl t ↦ ap (λ b. mark_of c (cond (not b) (x ∷ without d xs) (without d xs))) t ∙ mark_of-without_same c d xs e
  | inr f ↦ ap (λ b. mark_of c (cond (not b) (x ∷ without d xs) (without d xs))) f
      ∙ (ap (λ n. cond (eqb x.colour.0 n) (Some x) (mark_of c (without d xs))) e
      ∙ (ap (λ b. cond b (Some x) (mark_of c (without d xs))) f
      ∙ mark_of-without_same c d xs e))
]

-- what it has of another colour
pub mark_of-without_other : (c d : Colour) (xs : List Mark) → (c.0 ≡ d.0 → ⊥) → mark_of c (without d xs) ≡ mark_of c xs
mark_of-without_other c d [] ne = refl
mark_of-without_other c d (x ∷ xs) ne = elim (cases_Bool (is_of d x)) [
  | inl t ↦ ap (λ b. mark_of c (cond (not b) (x ∷ without d xs) (without d xs))) t
      ∙ (mark_of-without_other c d xs ne
      ∙ sym (ap (λ b. cond b (Some x) (mark_of c xs)) (ne_eqb x.colour.0 c.0 (λ e. ne (sym e ∙ eqb-true x.colour.0 d.0 t)))))
  | inr f ↦ ap (λ b. mark_of c (cond (not b) (x ∷ without d xs) (without d xs))) f
      ∙ ap (λ o. cond (is_of c x) (Some x) o) (mark_of-without_other c d xs ne)
]

-- a colour that has no mark has none in a part of the list
none-without : (c d : Colour) (xs : List Mark) → mark_of c xs ≡ None → mark_of c (without d xs) ≡ None
none-without c d xs h = elim (cases_eq c.0 d.0) [
  | inl e ↦ mark_of-without_same c d xs e
  | inr ne ↦ mark_of-without_other c d xs ne ∙ h
]

-- a list without a colour that has no mark is the list
pub without-none : (c : Colour) (xs : List Mark) → mark_of c xs ≡ None → without c xs ≡ xs
without-none c [] h = refl
without-none c (x ∷ xs) h =
    let parts = none-parts c x xs h in
    ap (λ b. cond (not b) (x ∷ without c xs) (without c xs)) parts.0 ∙ ap (λ ys. x ∷ ys) (without-none c xs parts.1)

-- a mark that replaces another is of its colour
pub replaced-colour : (new x : Mark) → (cond (is_of new.colour x) new x).colour.0 ≡ x.colour.0
replaced-colour new x = cond_both (is_of new.colour x) new x (λ m. m.colour.0 ≡ x.colour.0) (λ t. sym (eqb-true x.colour.0 new.colour.0 t)) (λ f. refl)

-- a colour that has no mark has none after a replacement
none-replaced : (new : Mark) (c : Colour) (xs : List Mark) → mark_of c xs ≡ None → mark_of c (after_replacement new xs) ≡ None
none-replaced new c [] h = refl
none-replaced new c (x ∷ xs) h =
    let parts = none-parts c x xs h in
    let here : is_of c (cond (is_of new.colour x) new x) ≡ false = ap (λ n. eqb n c.0) (replaced-colour new x) ∙ parts.0 in
    ap (λ b. cond b (Some (cond (is_of new.colour x) new x)) (mark_of c (after_replacement new xs))) here ∙ none-replaced new c xs parts.1

-- what a list has of another colour than that of the replaced mark
pub mark_of-replaced_other : (new : Mark) (c : Colour) (xs : List Mark) → (c.0 ≡ new.colour.0 → ⊥) → mark_of c (after_replacement new xs) ≡ mark_of c xs
mark_of-replaced_other new c [] ne = refl
mark_of-replaced_other new c (x ∷ xs) ne = elim (cases_Bool (is_of new.colour x)) [
  | inl t ↦
      let off : is_of c x ≡ false = ne_eqb x.colour.0 c.0 (λ e. ne (sym e ∙ eqb-true x.colour.0 new.colour.0 t)) in
      let out : is_of c new ≡ false = ne_eqb new.colour.0 c.0 (λ e. ne (sym e)) in
      ap (λ b. mark_of c (cond b new x ∷ after_replacement new xs)) t
      ∙ (ap (λ b. cond b (Some new) (mark_of c (after_replacement new xs))) out
      ∙ (mark_of-replaced_other new c xs ne
      ∙ sym (ap (λ b. cond b (Some x) (mark_of c xs)) off)))
  | inr f ↦ ap (λ b. mark_of c (cond b new x ∷ after_replacement new xs)) f ∙ ap (λ o. cond (is_of c x) (Some x) o) (mark_of-replaced_other new c xs ne)
]

-- what it has of that colour, where a mark of the colour was there
pub mark_of-replaced_same : (new old : Mark) (c : Colour) (xs : List Mark) → c.0 ≡ new.colour.0 → mark_of c xs ≡ Some old → mark_of c (after_replacement new xs) ≡ Some new
mark_of-replaced_same new old c [] e h = absurd (none-some old h)
mark_of-replaced_same new old c (x ∷ xs) e h = elim (cases_Bool (is_of new.colour x)) [
  | inl t ↦
      ap (λ b. mark_of c (cond b new x ∷ after_replacement new xs)) t
      ∙ ap (λ b. cond b (Some new) (mark_of c (after_replacement new xs))) (eq-eqb new.colour.0 c.0 (sym e))
  | inr f ↦
      let off : is_of c x ≡ false = ap (λ n. eqb x.colour.0 n) e ∙ f in
      ap (λ b. mark_of c (cond b new x ∷ after_replacement new xs)) f
      ∙ (ap (λ b. cond b (Some x) (mark_of c (after_replacement new xs))) off
      ∙ mark_of-replaced_same new old c xs e (sym (ap (λ b. cond b (Some x) (mark_of c xs)) off) ∙ h))
]

-- at most one mark a colour, after a mark of a new colour
IsOneEach-push : (xs : List Mark) (m : Mark) → IsOneEach xs → mark_of m.colour xs ≡ None → IsOneEach (xs ++ m ∷ [])
IsOneEach-push [] m one h = (refl, tt)
IsOneEach-push (x ∷ xs) m one h =
    let parts = none-parts m.colour x xs h in
    let apart : is_of x.colour m ≡ false = ne_eqb m.colour.0 x.colour.0 (λ e. eqb-false x.colour.0 m.colour.0 parts.0 (sym e)) in (
      mark_of-append x.colour xs (m ∷ []) ∙ (ap (λ o. option_or o (mark_of x.colour (m ∷ []))) one.0 ∙ ap (λ b. cond b (Some m) None) apart),
      IsOneEach-push xs m one.1 parts.1,
    )

-- and in a part of the list
IsOneEach-without : (c : Colour) (xs : List Mark) → IsOneEach xs → IsOneEach (without c xs)
IsOneEach-without c [] one = tt
IsOneEach-without c (x ∷ xs) one = cond_both (not (is_of c x)) (x ∷ without c xs) (without c xs) IsOneEach
    (λ t. (none-without x.colour c xs one.0, IsOneEach-without c xs one.1))
    (λ f. IsOneEach-without c xs one.1)

-- and after a replacement
IsOneEach-replaced : (new : Mark) (xs : List Mark) → IsOneEach xs → IsOneEach (after_replacement new xs)
IsOneEach-replaced new [] one = tt
IsOneEach-replaced new (x ∷ xs) one =
    let r : Mark = cond (is_of new.colour x) new x in
    (none-replaced new r.colour xs (mark_of-same r.colour x.colour xs (replaced-colour new x) ∙ one.0), IsOneEach-replaced new xs one.1)

-- the list with a mark more, one less, and one replaced is as it should be
pub AreApart-push : (xs : List Mark) (n : ℕ) (m : Mark) → AreApart (record { marks = xs; colours = n }) → m.colour.0 < n → mark_of m.colour xs ≡ None → AreApart (record { marks = xs ++ m ∷ []; colours = n })
AreApart-push xs n m kept lt none = record { below = All-push (λ x. x.colour.0 < n) xs m kept.below lt; apart = IsOneEach-push xs m kept.apart none }

pub AreApart-without : (c : Colour) (xs : List Mark) (n : ℕ) → AreApart (record { marks = xs; colours = n }) → AreApart (record { marks = without c xs; colours = n })
AreApart-without c xs n kept = record { below = All-filter (λ m. not (is_of c m)) (λ x. x.colour.0 < n) xs kept.below; apart = IsOneEach-without c xs kept.apart }

pub AreApart-replaced : (new : Mark) (xs : List Mark) (n : ℕ) → AreApart (record { marks = xs; colours = n }) → AreApart (record { marks = after_replacement new xs; colours = n })
AreApart-replaced new xs n kept =
    let P : Mark → Type 0 = λ m. m.colour.0 < n in
    record {
      below = All-map P (λ m. cond (is_of new.colour m) new m) xs (All-weaker P (λ m. P (cond (is_of new.colour m) new m)) (λ m lt. rw (replaced-colour new m) lt) xs kept.below);
      apart = IsOneEach-replaced new xs kept.apart;
    }
