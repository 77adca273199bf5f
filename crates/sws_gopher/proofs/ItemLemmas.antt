-- The items of a menu ascend, and are those of the files.
use Rattle.std.proofs.Common.{◌≡◌, ◌⊎◌, inl, inr, ℕ, zero, suc, List, [], ◌∷◌, fold, refl, sym, ap, ◌∙◌, subst, Option, Some, None, arith}
use Rattle.std.specs.List.{AllByRecursion, Any, Contains, filter_map, cons_option}
use Rattle.std.specs.List.Sorted.{IsStrictlySortedBy}
use Rattle.std.specs.Cmp.{IsTotalOrder}
use Rattle.std.specs.Cmp.Lexicographic.{slice_cmp}
use Rattle.std.specs.declared.cmp.Ordering.{Ordering}
use Rattle.std.specs.declared.cmp.Ordering.TheVariants.{Less, Equal, Greater}
use Rattle.std.specs.Ordering.{is_eq, match_ordering, nat_cmp, ordering_reverse, ordering_then}
use Rattle.std.specs.BTreeSet.{insert_key}
use Rattle.std.proofs.lemmas.Cmp.{nat_cmp_total, nat_list_cmp_total, on_total, then_total}
use Rattle.std.proofs.lemmas.Map.Text.{is_eq-slice_cmp}
use Rattle.std.proofs.lemmas.Slice.Eq.{bytes_eq-Decides}
use Rattle.sws_site.specs.Files.{File}
use Rattle.sws_gopher.specs.declared.kind.Kind.{Kind}
use Rattle.sws_gopher.specs.declared.kind.Kind.TheVariants.{Text, Binary, Folder}
use Rattle.sws_gopher.specs.Menus.{Item, item_cmp, item_in, items_of, rank}

-- ---- elements of lists

in_front : {X : Type 0} (x : X) (xs : List X) (q : X) → x ≡ q → Contains (x ∷ xs) q
in_front x xs q is = (0, omega arith, is)

behind : {X : Type 0} (x : X) (xs : List X) (q : X) → Contains xs q → Contains (x ∷ xs) q
behind x xs q there = let low = there.1 in (suc there.0, omega arith, there.2)

-- an element is the first one or stands behind it
split : {X : Type 0} (x : X) (xs : List X) (q : X) → Contains (x ∷ xs) q → (x ≡ q) ⊎ Contains xs q
split x xs q (zero, low, is) = inl is
split x xs q (suc k, low, is) = inr (k, omega arith, is)

nowhere : {X : Type 0} (q : X) → Contains [] q → ⊥
nowhere q there = let low = there.1 in omega arith

-- ---- keys that are put in their places

module _ {K : Type 0} (cmp : K → K → Ordering) (total : IsTotalOrder cmp) (same : (a b : K) → cmp a b ≡ Equal → a ≡ b) where
  all_insert : (P : K → Type 0) (keys : List K) (key : K) → AllByRecursion P keys → P key → AllByRecursion P (insert_key cmp keys key)
  all_insert P [] key all is = (is, tt)
  all_insert P (k ∷ keys) key all is = by_order (cmp key k) (all_insert P keys key all.1 is)
    where
      by_order : (o : Ordering) → AllByRecursion P (insert_key cmp keys key) → AllByRecursion P (match_ordering o (key ∷ k ∷ keys) (k ∷ keys) (k ∷ insert_key cmp keys key))
      by_order Less rest = (is, all)
      by_order Equal rest = all
      by_order Greater rest = (all.0, rest)

  below_all : (key k : K) (keys : List K) → cmp key k ≡ Less → AllByRecursion (λ y. cmp k y ≡ Less) keys → AllByRecursion (λ y. cmp key y ≡ Less) keys
  below_all key k [] less all = tt
  below_all key k (y ∷ keys) less all = (total.trans key k y less all.0, below_all key k keys less all.1)

  sorted-nil : IsStrictlySortedBy cmp []
  unfolding IsStrictlySortedBy
  sorted-nil = tt

  sorted-insert_key : (keys : List K) (key : K) → IsStrictlySortedBy cmp keys → IsStrictlySortedBy cmp (insert_key cmp keys key)
  unfolding IsStrictlySortedBy
  sorted-insert_key [] key sorted = (tt, tt)
  sorted-insert_key (k ∷ keys) key sorted = by_order (cmp key k) refl (sorted-insert_key keys key sorted.1)
    where
      by_order : (o : Ordering) → cmp key k ≡ o → IsStrictlySortedBy cmp (insert_key cmp keys key)
          → IsStrictlySortedBy cmp (match_ordering o (key ∷ k ∷ keys) (k ∷ keys) (k ∷ insert_key cmp keys key))
      by_order Less is rest = ((is, below_all key k keys is sorted.0), sorted)
      by_order Equal is rest = sorted
      by_order Greater is rest = (all_insert (λ y. cmp k y ≡ Less) keys key sorted.0 (total.antisymm k key ∙ ap ordering_reverse is), rest)

  sorted-fold : (keys found : List K) → IsStrictlySortedBy cmp keys → IsStrictlySortedBy cmp (fold (insert_key cmp) keys found)
  sorted-fold keys [] sorted = sorted
  sorted-fold keys (key ∷ found) sorted = sorted-fold (insert_key cmp keys key) found (sorted-insert_key keys key sorted)

  in_insert : (keys : List K) (key q : K) → Contains (insert_key cmp keys key) q → (key ≡ q) ⊎ Contains keys q
  in_insert [] key q there = split key [] q there
  in_insert (k ∷ keys) key q there = by_order (cmp key k) (λ rest. in_insert keys key q rest) there
    where
      by_order : (o : Ordering) → (Contains (insert_key cmp keys key) q → (key ≡ q) ⊎ Contains keys q)
          → Contains (match_ordering o (key ∷ k ∷ keys) (k ∷ keys) (k ∷ insert_key cmp keys key)) q → (key ≡ q) ⊎ Contains (k ∷ keys) q
      by_order Less rest there = split key (k ∷ keys) q there
      by_order Equal rest there = inr there
      by_order Greater rest there = elim (split k (insert_key cmp keys key) q there) [
        | inl is ↦ inr (in_front k keys q is)
        | inr more ↦ elim (rest more) [ inl new ↦ inl new | inr old ↦ inr (behind k keys q old) ]
      ]

  insert_in : (keys : List K) (key q : K) → (key ≡ q) ⊎ Contains keys q → Contains (insert_key cmp keys key) q
  insert_in [] key q (inl new) = in_front key [] q new
  insert_in [] key q (inr old) = absurd (nowhere q old)
  insert_in (k ∷ keys) key q either = by_order (cmp key k) refl (λ e. insert_in keys key q e) either
    where
      by_order : (o : Ordering) → cmp key k ≡ o → ((key ≡ q) ⊎ Contains keys q → Contains (insert_key cmp keys key) q) → (key ≡ q) ⊎ Contains (k ∷ keys) q
          → Contains (match_ordering o (key ∷ k ∷ keys) (k ∷ keys) (k ∷ insert_key cmp keys key)) q
      by_order Less is rest (inl new) = in_front key (k ∷ keys) q new
      by_order Less is rest (inr old) = behind key (k ∷ keys) q old
      by_order Equal is rest (inl new) = in_front k keys q (sym (same key k is) ∙ new)
      by_order Equal is rest (inr old) = old
      by_order Greater is rest (inl new) = behind k (insert_key cmp keys key) q (rest (inl new))
      by_order Greater is rest (inr old) = elim (split k keys q old) [
        | inl first ↦ in_front k (insert_key cmp keys key) q first
        | inr later ↦ behind k (insert_key cmp keys key) q (rest (inr later))
      ]

  in_fold : (keys found : List K) (q : K) → Contains (fold (insert_key cmp) keys found) q → Contains keys q ⊎ Contains found q
  in_fold keys [] q there = inl there
  in_fold keys (key ∷ found) q there = elim (in_fold (insert_key cmp keys key) found q there) [
    | inl early ↦ elim (in_insert keys key q early) [ inl new ↦ inr (in_front key found q new) | inr old ↦ inl old ]
    | inr late ↦ inr (behind key found q late)
  ]

  fold_in : (keys found : List K) (q : K) → Contains keys q ⊎ Contains found q → Contains (fold (insert_key cmp) keys found) q
  fold_in keys [] q (inl old) = old
  fold_in keys [] q (inr none) = absurd (nowhere q none)
  fold_in keys (key ∷ found) q (inl old) = fold_in (insert_key cmp keys key) found q (inl (insert_in keys key q (inr old)))
  fold_in keys (key ∷ found) q (inr there) = elim (split key found q there) [
    | inl new ↦ fold_in (insert_key cmp keys key) found q (inl (insert_in keys key q (inl new)))
    | inr late ↦ fold_in (insert_key cmp keys key) found q (inr late)
  ]

-- ---- what a function gives of a list

module _ {A B : Type 0} (f : A → Option B) where
  any_front : (a : A) (xs : List A) (q : B) → f a ≡ Some q → Any (λ x. f x ≡ Some q) (a ∷ xs)
  any_front a xs q is = (0, a, omega arith, refl, is)

  any_behind : (a : A) (xs : List A) (q : B) → Any (λ x. f x ≡ Some q) xs → Any (λ x. f x ≡ Some q) (a ∷ xs)
  any_behind a xs q any = let low = any.2 in (suc any.0, any.1, omega arith, any.3, any.4)

  in_found : (xs : List A) (q : B) → Contains (filter_map f xs) q → Any (λ x. f x ≡ Some q) xs
  in_found [] q there = absurd (nowhere q there)
  in_found (a ∷ xs) q there = by_one (f a) refl (λ rest. in_found xs q rest) there
    where
      by_one : (o : Option B) → f a ≡ o → (Contains (filter_map f xs) q → Any (λ x. f x ≡ Some q) xs) → Contains (cons_option o (filter_map f xs)) q → Any (λ x. f x ≡ Some q) (a ∷ xs)
      by_one None is rest there = any_behind a xs q (rest there)
      by_one (Some b) is rest there = elim (split b (filter_map f xs) q there) [
        | inl first ↦ any_front a xs q (is ∙ ap Some first)
        | inr late ↦ any_behind a xs q (rest late)
      ]

  found_front : (a : A) (xs : List A) (q : B) → f a ≡ Some q → Contains (filter_map f (a ∷ xs)) q
  found_front a xs q is = subst (λ o. Contains (cons_option o (filter_map f xs)) q) (sym is) (in_front q (filter_map f xs) q refl)

  found_behind : (o : Option B) (xs : List A) (q : B) → Contains (filter_map f xs) q → Contains (cons_option o (filter_map f xs)) q
  found_behind None xs q there = there
  found_behind (Some b) xs q there = behind b (filter_map f xs) q there

  found_in : (xs : List A) (q : B) → Any (λ x. f x ≡ Some q) xs → Contains (filter_map f xs) q
  found_in [] q (k, a, low, at, is) = absurd (omega arith)
  found_in (x ∷ xs) q (zero, a, low, at, is) = found_front x xs q (ap f at ∙ is)
  found_in (x ∷ xs) q (suc k, a, low, at, is) = found_behind (f x) xs q (found_in xs q (k, a, omega arith, at, is))

-- ---- items

item_total : IsTotalOrder item_cmp
item_total = then_total (on_total (λ (item : Item). item.0) nat_list_cmp_total) (on_total (λ (item : Item). rank item.1) nat_cmp_total)

then_equal : (p q : Ordering) → ordering_then p q ≡ Equal → (p ≡ Equal) × (q ≡ Equal)
then_equal Less q is = cc
then_equal Equal q is = (refl, is)
then_equal Greater q is = cc

same_name : (one other : List ℕ) → slice_cmp nat_cmp one other ≡ Equal → one ≡ other
same_name one other is = (bytes_eq-Decides one other).0 (sym (is_eq-slice_cmp one other) ∙ ap is_eq is)

same_kind : (one other : Kind) → nat_cmp (rank one) (rank other) ≡ Equal → one ≡ other
same_kind Text Text is = refl
same_kind Text Binary is = cc
same_kind Text Folder is = cc
same_kind Binary Text is = cc
same_kind Binary Binary is = refl
same_kind Binary Folder is = cc
same_kind Folder Text is = cc
same_kind Folder Binary is = cc
same_kind Folder Folder is = refl

same_item : (one other : Item) → item_cmp one other ≡ Equal → one ≡ other
same_item one other is =
    let parts = then_equal (slice_cmp nat_cmp one.0 other.0) (nat_cmp (rank one.1) (rank other.1)) is in
    let name = same_name one.0 other.0 parts.0 in
    let kind = same_kind one.1 other.1 parts.1 in
    λ i. (name i, kind i)

abbrev found : List File → List ℕ → List Item
found files folder = filter_map (λ (file : File). item_in folder file.0) files

pub items_ascend : (files : List File) (folder : List ℕ) → IsStrictlySortedBy item_cmp (items_of files folder)
items_ascend files folder = sorted-fold item_cmp item_total same_item [] (found files folder) (sorted-nil item_cmp item_total same_item)

pub items_are_of_files : (files : List File) (folder : List ℕ) (item : Item) → Contains (items_of files folder) item → Any (λ (file : File). item_in folder file.0 ≡ Some item) files
items_are_of_files files folder item there = elim (in_fold item_cmp item_total same_item [] (found files folder) item there) [
  | inl none ↦ absurd (nowhere item none)
  | inr of_file ↦ in_found (λ (file : File). item_in folder file.0) files item of_file
]

pub files_have_items : (files : List File) (folder : List ℕ) (item : Item) → Any (λ (file : File). item_in folder file.0 ≡ Some item) files → Contains (items_of files folder) item
files_have_items files folder item any = fold_in item_cmp item_total same_item [] (found files folder) item (inr (found_in (λ (file : File). item_in folder file.0) files item any))
