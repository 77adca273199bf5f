-- Locks and their columns of passes, by place.
use Rattle.std.proofs.Common.{◌≡◌, ℕ, zero, suc, ◌+◌, ◌<◌, List, [], ◌∷◌, ◌++◌, Some, length, map, get_or, drop, refl, sym, ◌∙◌, ap, subst, arith, append-nil}
use Rattle.std.specs.Prelude.{slice_get}
use Rattle.mely_weave.proofs.Wholes.DealLemmas.{both_push}
use Rattle.mely_weave.proofs.Wholes.GatherLemmas.{get_there}
use Rattle.std.proofs.lemmas.List.{nil_from_length}
use Rattle.std.proofs.lemmas.Option.{slice_get-get_or}
use Rattle.mely_fleet.specs.Closed.{IsColumn, AreFilled}

-- the first of the rest of a list stands at the place where the rest begins
pub head_of_rest : {A : Type 0} (xs : List A) (n : ℕ) (x : A) (rest : List A) → x ∷ rest ≡ drop n xs → (slice_get xs n ≡ Some x) × (rest ≡ drop (suc n) xs)
head_of_rest [] zero x rest is = cc
head_of_rest [] (suc n) x rest is = cc
head_of_rest (y ∷ ys) zero x rest is = let same : x ≡ y = cc in let behind : rest ≡ ys = cc in (ap (λ z. Some z) (sym same), behind)
head_of_rest (y ∷ ys) (suc n) x rest is = head_of_rest ys n x rest is

-- what stands behind some elements
pub at_seam : {A : Type 0} (xs : List A) (x : A) (ys : List A) → slice_get (xs ++ x ∷ ys) (length xs) ≡ Some x
at_seam [] x ys = refl
at_seam (y ∷ xs) x ys = at_seam xs x ys

-- once nothing is left, all were yielded
pub all_yielded : {A : Type 0} (yielded rest all : List A) (left : ℕ) → yielded ++ rest ≡ all → left ≡ length rest → left ≡ 0 → yielded ≡ all
all_yielded yielded rest all left split is none = sym (append-nil yielded) ∙ ap (λ xs. yielded ++ xs) (sym (nil_from_length rest (sym is ∙ none))) ∙ split

-- what some elements give, before anything else, each gives at its place
pub map_front : {A B : Type 0} (f : A → B) (xs : List A) (rest : List B) (n : ℕ) (x : A) (y : B) → slice_get xs n ≡ Some x → slice_get (map f xs ++ rest) n ≡ Some y → f x ≡ y
map_front f [] rest zero x y at there = cc
map_front f [] rest (suc n) x y at there = cc
map_front f (z ∷ xs) rest zero x y at there = let same : z ≡ x = cc in let is : f z ≡ y = cc in ap f (sym same) ∙ is
map_front f (z ∷ xs) rest (suc n) x y at there = map_front f xs rest n x y at there

-- one element more
pub one_longer : {A : Type 0} (xs : List A) (x : A) → length (xs ++ x ∷ []) ≡ suc (length xs)
one_longer [] x = refl
one_longer (y ∷ xs) x = ap suc (one_longer xs x)

-- a column with what one more row has at its place
column_grow : {A : Type 0} (rows : List (List A)) (k : ℕ) (column : List A) (row : List A) (x : A) → IsColumn rows k column → slice_get row k ≡ Some x → IsColumn (rows ++ row ∷ []) k (column ++ x ∷ [])
column_grow rows k column row x is at = record {
  many = one_longer column x ∙ ap suc is.many ∙ sym (one_longer rows row);
  each = both_push (λ _ r y. slice_get r k ≡ Some y) rows column row x (length rows) refl is.many is.each at;
}

module _ {A C : Type 0} (items : C → List A) (len room : C → ℕ) (rows : List (List A)) (left : ℕ) (old new : List C) (row : List A) where
  -- columns with one more row handed in
  pub filled_more : AreFilled items len room rows (suc left) old → length old ≡ length row → length new ≡ length old
      → ((k : ℕ) (d : C) (p : A) → k < length old → items (get_or new k d) ≡ items (get_or old k d) ++ get_or row k p ∷ [])
      → ((k : ℕ) (d : C) → k < length old → len (get_or new k d) ≡ len (get_or old k d) + 1)
      → ((k : ℕ) (d : C) → k < length old → room (get_or new k d) ≡ room (get_or old k d))
      → AreFilled items len room (rows ++ row ∷ []) left new
  filled_more was as_many many each longer same = record {
    are = λ k d low.
        let low_old : k < length old = omega (arith, low, many) in
        let low_row : k < length row = omega (arith, low_old, as_many) in
        let x = (get_there row k low_row).0 in
        subst (IsColumn (rows ++ row ∷ []) k) (sym (each k d x low_old)) (column_grow rows k (items (get_or old k d)) row (get_or row k x) (was.are k d low_old) (slice_get-get_or row k x low_row));
    room_left = λ k d low.
        let low_old : k < length old = omega (arith, low, many) in
        let before = was.room_left k d low_old in
        let len_is = longer k d low_old in
        let room_is = same k d low_old in
        omega (arith, before, len_is, room_is);
  }
