-- One field more.
use Rattle.std.proofs.Common.{◌≡◌, ℕ, ◌+◌, zero, suc, Bool, true, false, List, [], ◌∷◌, drop, map, filter, Option, Some, None, Bor, slice_get, refl, sym, ap, ◌∙◌, add-one}
use Rattle.std.proofs.Math.Bool.{cond}
use Rattle.std.specs.Prelude.{is_some}
use Rattle.std.specs.Option.{option_copied}
use Rattle.std.specs.List.{list_any, cons_option}
use Rattle.sws_answer.specs.Fields.{Field, is_named, values_of}
use Rattle.sws_answer.specs.Conditions.{one_of}

drop_at : {A : Type 0} (xs : List A) (i : ℕ) (x : A) → slice_get xs i ≡ Some x → drop i xs ≡ x ∷ drop (suc i) xs
drop_at [] i x e = absurd (cc)
drop_at (y ∷ ys) zero x e = (let same : y ≡ x = cc in ap (λ z. z ∷ ys) same)
drop_at (y ∷ ys) (suc i) x e = drop_at ys i x e

-- from the i-th on
pub drop_from : {A : Type 0} (xs : List A) (i : ℕ) (x : A) → slice_get xs i ≡ Some x → drop i xs ≡ x ∷ drop (i + 1) xs
drop_from xs i x e = drop_at xs i x e ∙ ap (λ n. x ∷ drop n xs) (sym (add-one i))

pub list_any-true : (p : Field → Bool) (x : Field) (xs all : List Field) → all ≡ x ∷ xs → p x ≡ true → list_any p all ≡ true
list_any-true p x xs all e t = ap (list_any p) e ∙ simp t

pub list_any-false : (p : Field → Bool) (x : Field) (xs all : List Field) → all ≡ x ∷ xs → p x ≡ false → list_any p all ≡ list_any p xs
list_any-false p x xs all e t = ap (list_any p) e ∙ simp t

pub values_of-named : (name : List ℕ) (x : Field) (xs all : List Field) → all ≡ x ∷ xs → is_named name x ≡ true → values_of name all ≡ x.1 ∷ values_of name xs
values_of-named name x xs all e t =
    ap (values_of name) e ∙ ap (λ b. map (λ field. field.1) (cond b (x ∷ filter (is_named name) xs) (filter (is_named name) xs))) t

pub values_of-other : (name : List ℕ) (x : Field) (xs all : List Field) → all ≡ x ∷ xs → is_named name x ≡ false → values_of name all ≡ values_of name xs
values_of-other name x xs all e t =
    ap (values_of name) e ∙ ap (λ b. map (λ field. field.1) (cond b (x ∷ filter (is_named name) xs) (filter (is_named name) xs))) t

-- a second value of the name
pub one_of-second : (name : List ℕ) (found : Option (List ℕ)) (x : Field) (xs all : List Field) → all ≡ x ∷ xs → is_named name x ≡ true → is_some found ≡ true
    → one_of (cons_option found (values_of name all)) ≡ None
one_of-second name None x xs all e t some = absurd (cc)
one_of-second name (Some value) x xs all e t some = ap (λ vs. one_of (value ∷ vs)) (values_of-named name x xs all e t)

-- a first one
pub one_of-first : (name : List ℕ) (found : Option (List ℕ)) (x : Field) (xs all : List Field) → all ≡ x ∷ xs → is_named name x ≡ true → is_some found ≡ false
    → one_of (cons_option found (values_of name all)) ≡ one_of (cons_option (Some x.1) (values_of name xs))
one_of-first name None x xs all e t none = ap one_of (values_of-named name x xs all e t)
one_of-first name (Some value) x xs all e t none = absurd (cc)

-- a field of another name
pub one_of-other : (name : List ℕ) (found : Option (List ℕ)) (x : Field) (xs all : List Field) → all ≡ x ∷ xs → is_named name x ≡ false
    → one_of (cons_option found (values_of name all)) ≡ one_of (cons_option found (values_of name xs))
one_of-other name found x xs all e t = ap (λ vs. one_of (cons_option found vs)) (values_of-other name x xs all e t)

pub is_some-copied : (found : Option (Bor (List ℕ))) → is_some (option_copied found) ≡ is_some found
is_some-copied None = refl
is_some-copied (Some value) = refl
