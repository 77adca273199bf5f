-- Maps by names: what a name finds after an insert.
use Rattle.std.proofs.Common.{◌≡◌, ℕ, Bool, true, false, List, [], ◌∷◌, refl, sym, ap, ◌∙◌, Some, Vec}
use Rattle.std.proofs.Math.Bool.{cond}
use Rattle.std.specs.declared.alloc.Global.{Global}
use Rattle.std.specs.declared.cmp.Ordering.{Ordering}
use Rattle.std.specs.declared.cmp.Ordering.TheVariants.{Less, Equal, Greater}
use Rattle.std.specs.Str.{bytes_eq}
use Rattle.std.specs.Ordering.{nat_cmp, is_eq, match_ordering}
use Rattle.std.specs.Cmp.Lexicographic.{slice_cmp}
use Rattle.std.specs.Map.{lookup}
use Rattle.std.specs.BTreeMap.{insert_entry}
use Rattle.std.proofs.lemmas.Map.Text.{is_eq-slice_cmp}
use Rattle.std.proofs.lemmas.Slice.Eq.{bytes_eq-Decides}
use Rattle.std.proofs.lemmas.Bool.Decides.{same_from_decides, Decides-like}

abbrev pub compare_keys : Vec ℕ Global → Vec ℕ Global → Ordering
compare_keys x y = slice_cmp nat_cmp x.items y.items

abbrev pub has_name : List ℕ → Vec ℕ Global → Bool
has_name name key = is_eq (slice_cmp nat_cmp name key.items)

pub equal_names : (a b : List ℕ) → is_eq (slice_cmp nat_cmp a b) ≡ true → a ≡ b
equal_names a b h = (bytes_eq-Decides a b).0 (sym (is_eq-slice_cmp a b) ∙ h)

pub has_name-bytes : (name : List ℕ) (key : Vec ℕ Global) → has_name name key ≡ bytes_eq key.items name
has_name-bytes name key = is_eq-slice_cmp name key.items
    ∙ same_from_decides (bytes_eq name key.items) (bytes_eq key.items name) (bytes_eq-Decides name key.items)
    (Decides-like (bytes_eq key.items name) (λ e. sym e) (λ e. sym e) (bytes_eq-Decides key.items name))

-- keys that compare equal have the same names
same_names : (key other : Vec ℕ Global) (name : List ℕ) → compare_keys key other ≡ Equal → has_name name key ≡ has_name name other
same_names key other name e = ap (λ items. is_eq (slice_cmp nat_cmp name items)) (equal_names key.items other.items (ap is_eq e))

-- other keys have no name in common
other_names : (key other : Vec ℕ Global) (name : List ℕ) → compare_keys key other ≡ Greater → has_name name key ≡ true → has_name name other ≡ false
other_names key other name e is = by_test (has_name name other) refl
  where
    by_test : (t : Bool) → has_name name other ≡ t → has_name name other ≡ false
    by_test false h = h
    by_test true h =
        let same : key.items ≡ other.items = sym (equal_names name key.items is) ∙ equal_names name other.items h in
        let equal : is_eq (compare_keys key other) ≡ true = is_eq-slice_cmp key.items other.items ∙ (bytes_eq-Decides key.items other.items).1 same in
        let never : false ≡ true = sym (ap is_eq e) ∙ equal in
        absurd (cc)

-- after an insert the name of the key finds the value, and another name finds what it found
pub lookup-insert_entry : {X : Type 0} (name : List ℕ) (entries : List (Vec ℕ Global × X)) (key : Vec ℕ Global) (value : X)
    → lookup (has_name name) (insert_entry compare_keys entries key value) ≡ cond (has_name name key) (Some value) (lookup (has_name name) entries)
lookup-insert_entry name [] key value = refl
lookup-insert_entry name (entry ∷ entries) key value = by_order (compare_keys key entry.0) refl (lookup-insert_entry name entries key value)
  where
    by_order : (order : Ordering) → compare_keys key entry.0 ≡ order
        → lookup (has_name name) (insert_entry compare_keys entries key value) ≡ cond (has_name name key) (Some value) (lookup (has_name name) entries)
        → lookup (has_name name) (match_ordering order ((key, value) ∷ entry ∷ entries) ((entry.0, value) ∷ entries) (entry ∷ insert_entry compare_keys entries key value))
        ≡ cond (has_name name key) (Some value) (cond (has_name name entry.0) (Some entry.1) (lookup (has_name name) entries))
    by_order Less e rest = refl
    by_order Equal e rest = equal (has_name name key) (has_name name entry.0) (same_names key entry.0 name e)
      where
        equal : (a b : Bool) → a ≡ b → cond b (Some value) (lookup (has_name name) entries) ≡ cond a (Some value) (cond b (Some entry.1) (lookup (has_name name) entries))
        equal true true h = refl
        equal true false h = absurd (cc)
        equal false true h = absurd (cc)
        equal false false h = refl
    by_order Greater e rest = greater (has_name name key) (has_name name entry.0) refl refl rest
      where
        greater : (a b : Bool) → has_name name key ≡ a → has_name name entry.0 ≡ b
            → lookup (has_name name) (insert_entry compare_keys entries key value) ≡ cond a (Some value) (lookup (has_name name) entries)
            → cond b (Some entry.1) (lookup (has_name name) (insert_entry compare_keys entries key value)) ≡ cond a (Some value) (cond b (Some entry.1) (lookup (has_name name) entries))
        greater true true h k r = (let never : true ≡ false = sym k ∙ other_names key entry.0 name e h in absurd (cc))
        greater true false h k r = r
        greater false true h k r = refl
        greater false false h k r = r
