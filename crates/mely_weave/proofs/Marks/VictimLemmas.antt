-- Whom a worker steals from.
use Rattle.std.proofs.Common.{◌≡◌, ◌≢◌, ℕ, zero, suc, ◌+◌, ◌-◌, ◌≤◌, ◌<◌, Bool, not, List, [], ◌∷◌, ◌++◌, Some, sym, subst, arith, inl, inr}
use Rattle.std.proofs.lemmas.Bool.{cases_Bool, cond-true, cond-false}
use Rattle.std.proofs.lemmas.Option.{same_Some}
use Rattle.std.specs.Prelude.{filter, slice_get}
use Rattle.std.specs.List.{AllByRecursion, range_with_len}
use Rattle.mely_steal.specs.Victims.{victims_of, others_from, in_one_group}

module _ {A : Type 0} (P : A → Type 0) where
  pub all_at : (xs : List A) (i : ℕ) (x : A) → AllByRecursion P xs → slice_get xs i ≡ Some x → P x
  all_at [] i x all is = cc
  all_at (y ∷ ys) zero x all is = subst P (same_Some y x is) all.0
  all_at (y ∷ ys) (suc i) x all is = all_at ys i x all.1 is

  pub all_append : (xs ys : List A) → AllByRecursion P xs → AllByRecursion P ys → AllByRecursion P (xs ++ ys)
  all_append [] ys all more = more
  all_append (x ∷ xs) ys all more = (all.0, all_append xs ys all.1 more)

  all_filter : (p : A → Bool) (xs : List A) → AllByRecursion P xs → AllByRecursion P (filter p xs)
  all_filter p [] all = tt
  all_filter p (x ∷ xs) all = elim (cases_Bool (p x)) [
    | inl hit ↦ subst (AllByRecursion P) (sym (cond-true (p x) (x ∷ filter p xs) (filter p xs) hit)) (all.0, all_filter p xs all.1)
    | inr miss ↦ subst (AllByRecursion P) (sym (cond-false (p x) (x ∷ filter p xs) (filter p xs) miss)) (all_filter p xs all.1)
  ]

-- the numbers from one on are between
all_range : (P : ℕ → Type 0) (from many : ℕ) → ((n : ℕ) → from ≤ n → n < from + many → P n) → AllByRecursion P (range_with_len from many)
all_range P from zero h = tt
all_range P from (suc many) h = (h from (omega arith) (omega arith), all_range P (from + 1) many (λ n low high. h n (omega (arith, low)) (omega (arith, high))))

-- a victim is another core
abbrev pub IsOther : ℕ → ℕ → ℕ → Type 0
IsOther core cores other = (other ≢ core) × (other < cores)

others : (core cores : ℕ) → core < cores → AllByRecursion (IsOther core cores) (others_from core cores)
others core cores low = all_append (IsOther core cores) (range_with_len (core + 1) (cores - (core + 1))) (range_with_len 0 core)
    (all_range (IsOther core cores) (core + 1) (cores - (core + 1)) (λ n from to. (λ e. omega (arith, e, from), omega (arith, from, to))))
    (all_range (IsOther core cores) 0 core (λ n from to. (λ e. omega (arith, e, to), omega (arith, to, low))))

pub victims_are_others : (core cores group : ℕ) → core < cores → AllByRecursion (IsOther core cores) (victims_of core cores group)
victims_are_others core cores group low =
    all_append (IsOther core cores) (filter (λ other. in_one_group group core other) (others_from core cores)) (filter (λ other. not (in_one_group group core other)) (others_from core cores))
    (all_filter (IsOther core cores) (λ other. in_one_group group core other) (others_from core cores) (others core cores low))
    (all_filter (IsOther core cores) (λ other. not (in_one_group group core other)) (others_from core cores) (others core cores low))
