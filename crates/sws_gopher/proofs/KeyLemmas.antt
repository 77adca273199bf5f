-- Which menus are kept after one more, and after the folders of one more name.
use Rattle.std.proofs.Common.{◌≡◌, ℕ, zero, suc, ◌<◌, ◌&&◌, ◌||◌, Bool, true, false, cond, eqb, List, [], ◌∷◌, ◌++◌, length, take, get_or, refl, sym, ap, subst, ◌∙◌, Some, None, Vec, true-eqb, arith}
use Rattle.std.specs.Prelude.{nat_eq, IfSome, option_map, slice_get}
use Rattle.std.specs.List.{starts_with, list_any}
use Rattle.std.specs.declared.alloc.Global.{Global}
use Rattle.std.specs.Str.{bytes_eq}
use Rattle.std.specs.BTreeMap.{insert_entry}
use Rattle.std.proofs.Math.Seq.{take-suc}
use Rattle.std.proofs.lemmas.Slice.Eq.{bytes_eq-Decides}
use Rattle.std.proofs.lemmas.Bool.Decides.{same_from_decides, Decides-like}
use Rattle.std.proofs.lemmas.List.{length-take}
use Rattle.sws_site.proofs.NameLemmas.{compare_keys}
use Rattle.sws_site.specs.Files.{File}
use Rattle.sws_gopher.specs.Menus.{Place}
use Rattle.sws_gopher.specs.Halls.{Prepared, kept, menu_at, lies_in, has_menu, AreMenus, AddsMenus, KeepsMenusOf}
use Rattle.sws_gopher.proofs.HallLemmas.{kept-insert}

or_assoc : (a b c : Bool) → (a || (b || c)) ≡ ((a || b) || c)
or_assoc true b c = refl
or_assoc false b c = refl

some_same : {X : Type 0} {x y : X} → Some x ≡ Some y → x ≡ y
some_same e = cc

-- the menu of a key is put
pub menu-added : (place : Place) (old new : Prepared) (key value : Vec ℕ Global) → value.items ≡ menu_at place key.items
    → new.entries ≡ insert_entry compare_keys old.entries key value → AddsMenus place (bytes_eq key.items) old new
menu-added place old new key value is inserted other =
    kept-insert old new key value other inserted ∙ by_test (bytes_eq key.items other) refl
  where
    by_test : (b : Bool) → bytes_eq key.items other ≡ b → cond b (Some value.items) (kept old other) ≡ cond b (Some (menu_at place other)) (kept old other)
    by_test true e = ap (λ v. Some v) (is ∙ ap (menu_at place) ((bytes_eq-Decides key.items other).0 e))
    by_test false e = refl

and-true : (b : Bool) → (b && true) ≡ b
and-true true = refl
and-true false = refl

and-false : (b : Bool) → (b && false) ≡ false
and-false true = refl
and-false false = refl

or-false : (b : Bool) → (b || false) ≡ b
or-false true = refl
or-false false = refl

-- a test before either of two
spread : (a b c d : Bool) → (a && (b || (c && d))) ≡ ((a && b) || ((a && c) && d))
spread true b c d = refl
spread false b c d = refl

-- nothing begins with some bytes
begins-nothing : (key : List ℕ) → starts_with nat_eq [] (key ++ 47 ∷ []) ≡ false
begins-nothing [] = refl
begins-nothing (k ∷ key) = refl

-- equal lists of bytes, in either order
same_bytes : (a b : List ℕ) → bytes_eq a b ≡ bytes_eq b a
same_bytes a b = same_from_decides (bytes_eq a b) (bytes_eq b a) (bytes_eq-Decides a b) (Decides-like (bytes_eq b a) (λ e. sym e) (λ e. sym e) (bytes_eq-Decides b a))

-- a test of the names of one file more
any-more : (test : List ℕ → Bool) (files : List File) (i : ℕ) (name : List ℕ) → option_map (λ (file : File). file.0) (slice_get files i) ≡ Some name
    → list_any (λ (file : File). test file.0) (take (suc i) files) ≡ (list_any (λ (file : File). test file.0) (take i files) || test name)
any-more test [] i name at = absurd (cc)
any-more test (file ∷ files) zero name at = or-false (test file.0) ∙ ap test (some_same at)
any-more test (file ∷ files) (suc i) name at = ap (λ b. test file.0 || b) (any-more test files i name at) ∙ or_assoc (test file.0) (list_any (λ (f : File). test f.0) (take i files)) (test name)

-- one more byte of a name: what begins it then began it before, or is all of it
begins-more : (name key : List ℕ) (byte : ℕ)
    → starts_with nat_eq (name ++ byte ∷ []) (key ++ 47 ∷ []) ≡ (starts_with nat_eq name (key ++ 47 ∷ []) || (bytes_eq key name && eqb 47 byte))
begins-more [] [] byte = and-true (eqb 47 byte)
begins-more [] (k ∷ key) byte = ap (λ b. eqb k byte && b) (begins-nothing key) ∙ and-false (eqb k byte)
begins-more (b ∷ name) [] byte = sym (or-false (eqb 47 b && true))
begins-more (b ∷ name) (k ∷ key) byte = ap (λ more. eqb k b && more) (begins-more name key byte) ∙ spread (eqb k b) (starts_with nat_eq name (key ++ 47 ∷ [])) (bytes_eq key name) (eqb 47 byte)

-- a file lies in a folder by one byte more of its name where it did before, or where that byte is
-- the slash that ends the folder's path
lies-more : (name key : List ℕ) (byte : ℕ) → 0 < length name
    → lies_in key (name ++ byte ∷ []) ≡ (lies_in key name || (bytes_eq key name && eqb 47 byte))
lies-more [] key byte some = absurd (omega arith)
lies-more (b ∷ name) [] byte some = refl
lies-more (b ∷ name) (k ∷ key) byte some = begins-more (b ∷ name) (k ∷ key) byte

-- the folders that end behind a slash are added
pub along-slash : (place : Place) (first old new : Prepared) (name : List ℕ) (end after byte : ℕ) → 0 < end → end < length name → after ≡ suc end
    → get_or name end byte ≡ 47
    → AddsMenus place (λ key. lies_in key (take end name)) first old → AddsMenus place (bytes_eq (take end name)) old new
    → AddsMenus place (λ key. lies_in key (take after name)) first new
along-slash place first old new name end after byte some within next is before added key =
    added key ∙ ap (cond (bytes_eq (take end name) key) (Some (menu_at place key))) (before key)
    ∙ by_tests (bytes_eq (take end name) key) (lies_in key (take end name))
    ∙ ap (λ b. cond (lies_in key (take end name) || b) (Some (menu_at place key)) (kept first key)) (same_bytes (take end name) key ∙ sym (and-true (bytes_eq key (take end name))) ∙ ap (λ b. bytes_eq key (take end name) && eqb 47 b) (sym is))
    ∙ sym (ap (λ b. cond b (Some (menu_at place key)) (kept first key)) (taken ∙ lies-more (take end name) key (get_or name end byte) long))
  where
    by_tests : (s l : Bool) → cond s (Some (menu_at place key)) (cond l (Some (menu_at place key)) (kept first key)) ≡ cond (l || s) (Some (menu_at place key)) (kept first key)
    by_tests true true = refl
    by_tests true false = refl
    by_tests false true = refl
    by_tests false false = refl

    taken : lies_in key (take after name) ≡ lies_in key (take end name ++ get_or name end byte ∷ [])
    taken = ap (λ n. lies_in key (take n name)) next ∙ ap (lies_in key) (take-suc name end byte within)

    long : 0 < length (take end name)
    long = let l = length-take end name in omega arith

-- another byte ends no folder's path
pub along-other : (place : Place) (first old : Prepared) (name : List ℕ) (end after byte : ℕ) → 0 < end → end < length name → after ≡ suc end
    → (get_or name end byte ≡ 47 → ⊥)
    → AddsMenus place (λ key. lies_in key (take end name)) first old → AddsMenus place (λ key. lies_in key (take after name)) first old
along-other place first old name end after byte some within next other before key =
    before key
    ∙ ap (λ b. cond b (Some (menu_at place key)) (kept first key)) (sym (or-false (lies_in key (take end name))) ∙ ap (λ b. lies_in key (take end name) || b) (sym (and-false (bytes_eq key (take end name))) ∙ ap (λ b. bytes_eq key (take end name) && b) (sym (not_slash (eqb 47 (get_or name end byte)) refl))))
    ∙ sym (ap (λ b. cond b (Some (menu_at place key)) (kept first key)) (taken ∙ lies-more (take end name) key (get_or name end byte) long))
  where
    not_slash : (b : Bool) → b ≡ eqb 47 (get_or name end byte) → eqb 47 (get_or name end byte) ≡ false
    not_slash true e = absurd (other (sym (true-eqb 47 (get_or name end byte) e)))
    not_slash false e = sym e

    taken : lies_in key (take after name) ≡ lies_in key (take end name ++ get_or name end byte ∷ [])
    taken = ap (λ n. lies_in key (take n name)) next ∙ ap (lies_in key) (take-suc name end byte within)

    long : 0 < length (take end name)
    long = let l = length-take end name in omega arith

-- ---- whatever is kept stays a menu

pub are-menus-more : (place : Place) (test : List ℕ → Bool) (old new : Prepared) → AreMenus place old → AddsMenus place test old new → AreMenus place new
are-menus-more place test old new were added key = by_test (test key) (added key)
  where
    by_test : (b : Bool) → kept new key ≡ cond b (Some (menu_at place key)) (kept old key) → IfSome (kept new key) (λ menu. menu ≡ menu_at place key)
    by_test true e = subst (λ o. IfSome o (λ menu. menu ≡ menu_at place key)) (sym e) refl
    by_test false e = subst (λ o. IfSome o (λ menu. menu ≡ menu_at place key)) (sym e) (were key)

-- what is kept of some files are menus
pub kept-are-menus : (place : Place) (files : List File) (menus : Prepared) → KeepsMenusOf place files menus → AreMenus place menus
kept-are-menus place files menus are key = by_test (has_menu files key) (are key)
  where
    by_test : (b : Bool) → kept menus key ≡ cond b (Some (menu_at place key)) None → IfSome (kept menus key) (λ menu. menu ≡ menu_at place key)
    by_test true e = subst (λ o. IfSome o (λ menu. menu ≡ menu_at place key)) (sym e) refl
    by_test false e = subst (λ o. IfSome o (λ menu. menu ≡ menu_at place key)) (sym e) tt

-- the folders of one file more
pub files-more : (place : Place) (files : List File) (i after : ℕ) (name : List ℕ) (old new : Prepared)
    → option_map (λ (file : File). file.0) (slice_get files i) ≡ Some name → after ≡ suc i
    → KeepsMenusOf place (take i files) old → AddsMenus place (λ key. lies_in key name) old new → KeepsMenusOf place (take after files) new
files-more place files i after name old new at next were added key =
    added key ∙ ap (cond (lies_in key name) (Some (menu_at place key))) (were key) ∙ by_key key ∙ ap (λ n. cond (has_menu (take n files) key) (Some (menu_at place key)) None) (sym next)
  where
    more : (k : ℕ) (key : List ℕ) → list_any (λ (file : File). lies_in (k ∷ key) file.0) (take (suc i) files) ≡ (list_any (λ (file : File). lies_in (k ∷ key) file.0) (take i files) || lies_in (k ∷ key) name)
    more k key = any-more (λ n. lies_in (k ∷ key) n) files i name at

    by_tests : (key : List ℕ) (l s : Bool) → cond l (Some (menu_at place key)) (cond s (Some (menu_at place key)) None) ≡ cond (s || l) (Some (menu_at place key)) None
    by_tests key true true = refl
    by_tests key true false = refl
    by_tests key false true = refl
    by_tests key false false = refl

    by_key : (key : List ℕ) → cond (lies_in key name) (Some (menu_at place key)) (cond (has_menu (take i files) key) (Some (menu_at place key)) None)
        ≡ cond (has_menu (take (suc i) files) key) (Some (menu_at place key)) None
    by_key [] = refl
    by_key (k ∷ key) = by_tests (k ∷ key) (lies_in (k ∷ key) name) (has_menu (take i files) (k ∷ key)) ∙ ap (λ b. cond b (Some (menu_at place (k ∷ key))) None) (sym (more k key))
