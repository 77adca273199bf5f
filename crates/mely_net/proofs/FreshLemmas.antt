-- Lists that grow at their end, and the cells among the parts of a run.
use Rattle.std.proofs.Common.{◌≡◌, ◌<◌, ◌≤◌, ℕ, zero, suc, List, [], ◌∷◌, ◌++◌, None, Some, length, refl, sym, ◌∙◌, ap, subst, arith, inl, inr}
use Rattle.std.proofs.lemmas.Bool.{cases_eq}
use Rattle.std.proofs.lemmas.List.{append-nil}
use Rattle.std.proofs.lemmas.Option.{same_Some}
use Rattle.std.specs.List.{cons_option}
use Rattle.std.specs.Prelude.{slice_get}
use Rattle.sws_link.specs.declared.Link.{Ghosts as LinkWords}
use Rattle.mely_net.specs.declared.part.Part.{Part}
use Rattle.mely_net.specs.declared.part.Part.TheVariants as part
use Rattle.mely_net.specs.Runs.{cell_in, cells_in}

push_other : {A : Type 0} (xs : List A) (x : A) (k : ℕ) → (k ≡ length xs → ⊥) → slice_get (xs ++ x ∷ []) k ≡ slice_get xs k
push_other [] x zero n = absurd (n refl)
push_other [] x (suc k) n = refl
push_other (y ∷ ys) x zero n = refl
push_other (y ∷ ys) x (suc k) n = push_other ys x k (λ e. n (ap suc e))

push_at : {A : Type 0} (xs : List A) (x : A) → slice_get (xs ++ x ∷ []) (length xs) ≡ Some x
push_at [] x = refl
push_at (y ∷ ys) x = push_at ys x

-- what each element has, each has after one that has it was pushed
pub each_push : {A : Type 0} (Has : ℕ → A → Type 0) (xs : List A) (y : A) (n : ℕ) → length xs ≡ n → ((k : ℕ) (x : A) → slice_get xs k ≡ Some x → Has k x) → Has n y → (k : ℕ) (x : A) → slice_get (xs ++ y ∷ []) k ≡ Some x → Has k x
each_push Has xs y n many all is k x at = elim (cases_eq k n) [
  | inl here ↦ subst (λ m. Has m x) (sym here) (subst (Has n) (same_Some y x (sym (push_at xs y) ∙ ap (slice_get (xs ++ y ∷ [])) (many ∙ sym here) ∙ at)) is)
  | inr apart ↦ all k x (sym (push_other xs y k (λ e. apart (e ∙ many))) ∙ at)
]

-- what stands between others
pub middle_at : {A : Type 0} (xs ys : List A) (x : A) → slice_get (xs ++ x ∷ ys) (length xs) ≡ Some x
middle_at [] ys x = refl
middle_at (y ∷ xs) ys x = middle_at xs ys x

pub middle_of : {A : Type 0} (xs ys all : List A) (x : A) (n : ℕ) → xs ++ x ∷ ys ≡ all → n ≡ length xs → slice_get all n ≡ Some x
middle_of xs ys all x n split place = ap (slice_get all) place ∙ ap (λ l. slice_get l (length xs)) (sym split) ∙ middle_at xs ys x

none_left : {A : Type 0} (xs : List A) → length xs ≡ 0 → xs ≡ []
none_left [] none = refl
none_left (x ∷ xs) none = absurd (omega (arith, none))

-- in the end all was handed out
pub all_yielded : {A : Type 0} (yielded rest all : List A) (left : ℕ) → yielded ++ rest ≡ all → left ≡ length rest → left ≡ 0 → yielded ≡ all
all_yielded yielded rest all left split is none = sym (append-nil yielded) ∙ ap (λ xs. yielded ++ xs) (sym (none_left rest (sym is ∙ none))) ∙ split

-- ---- the cells among parts

module _ {C W L Q P : Type 0} {l : LinkWords L} where
  none_in : (parts : List (Part C W L Q P l)) → ((k : ℕ) (one : Part C W L Q P l) → slice_get parts k ≡ Some one → cell_in one ≡ None) → cells_in parts ≡ []
  none_in [] none = refl
  none_in (one ∷ parts) none = ap (λ o. cons_option o (cells_in parts)) (none 0 one refl) ∙ none_in parts (λ k other at. none (suc k) other at)

  -- cells that stand in front, and no others behind them
  pub record InFront (parts : List (Part C W L Q P l)) (count : ℕ) : Type 0 where
    pub many : length (cells_in parts) ≡ count
    pub each : (k : ℕ) (value : C) → k < count → slice_get parts k ≡ Some (part.Cell value) → slice_get (cells_in parts) k ≡ Some value

  is_cell_value : (one : Part C W L Q P l) (value : C) → Some one ≡ Some (part.Cell value) → cell_in one ≡ Some value
  is_cell_value (part.Desk desk) value is = absurd (let never : ⊥ = cc is in never)
  is_cell_value (part.Cell other) value is = let same : other ≡ value = cc is in ap Some same
  is_cell_value (part.Client client) value is = absurd (let never : ⊥ = cc is in never)

  pub in_front : (parts : List (Part C W L Q P l)) (count : ℕ) → ((k : ℕ) → k < count → (value : C) × (slice_get parts k ≡ Some (part.Cell value))) → ((k : ℕ) (one : Part C W L Q P l) → count ≤ k → slice_get parts k ≡ Some one → cell_in one ≡ None) → InFront parts count
  in_front parts zero cells others = record {
    many = ap length (none_in parts (λ k one at. others k one (omega arith) at));
    each = λ k value low at. absurd (omega (arith, low));
  }
  in_front [] (suc count) cells others = absurd (let first = (cells 0 (omega arith)).1 in cc first)
  in_front (one ∷ parts) (suc count) cells others =
      let first = cells 0 (omega arith) in
      let value_is = is_cell_value one first.0 first.1 in
      let rest = in_front parts count (λ k low. cells (suc k) (omega (arith, low))) (λ k other high at. others (suc k) other (omega (arith, high)) at) in
      let all : cells_in (one ∷ parts) ≡ first.0 ∷ cells_in parts = ap (λ o. cons_option o (cells_in parts)) value_is in
      record {
        many = ap length all ∙ ap suc rest.many;
        each = each_of first.0 value_is rest all;
      }
    where
      each_of : (value : C) → cell_in one ≡ Some value → InFront parts count → cells_in (one ∷ parts) ≡ value ∷ cells_in parts → (k : ℕ) (other : C) → k < suc count → slice_get (one ∷ parts) k ≡ Some (part.Cell other) → slice_get (cells_in (one ∷ parts)) k ≡ Some other
      each_of value is rest all zero other low at = ap (λ l. slice_get l 0) all ∙ sym is ∙ is_cell_value one other at
      each_of value is rest all (suc k) other low at = ap (λ l. slice_get l (suc k)) all ∙ rest.each k other (omega (arith, low)) at
