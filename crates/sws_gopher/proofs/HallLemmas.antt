-- What is kept by names, after an insert, and the texts of files from an index on.
use Rattle.std.proofs.Common.{◌≡◌, ℕ, zero, suc, ◌<◌, ◌&&◌, Bool, true, false, cond, List, [], ◌∷◌, length, drop, refl, sym, ap, subst, ◌∙◌, Some, None, Vec, arith}
use Rattle.std.specs.Prelude.{option_map, slice_get, IfSome}
use Rattle.std.specs.declared.alloc.Global.{Global}
use Rattle.std.specs.Str.{bytes_eq}
use Rattle.std.specs.Map.{lookup}
use Rattle.std.specs.BTreeMap.{insert_entry}
use Rattle.std.proofs.lemmas.Slice.Eq.{bytes_eq-Decides}
use Rattle.sws_site.proofs.NameLemmas.{compare_keys, has_name, has_name-bytes, lookup-insert_entry}
use Rattle.sws_site.specs.Files.{File, file_named}
use Rattle.sws_gopher.specs.Texts.{text_of}
use Rattle.sws_gopher.specs.Menus.{is_text}
use Rattle.sws_gopher.specs.Halls.{Prepared, kept, KeepsTexts, AddsText}

some_same : {X : Type 0} {x y : X} → Some x ≡ Some y → x ≡ y
some_same e = cc

abbrev items_of : Vec ℕ Global → List ℕ
items_of bytes = bytes.items

-- after an insert the key finds what was put, and another name finds what it found
pub kept-insert : (old new : Prepared) (key value : Vec ℕ Global) (name : List ℕ)
    → new.entries ≡ insert_entry compare_keys old.entries key value
    → kept new name ≡ cond (bytes_eq key.items name) (Some value.items) (kept old name)
kept-insert old new key value name inserted =
    ap (λ entries. option_map items_of (lookup (has_name name) entries)) inserted
    ∙ ap (option_map items_of) (lookup-insert_entry name old.entries key value)
    ∙ by_test (has_name name key)
    ∙ ap (λ b. cond b (Some value.items) (kept old name)) (has_name-bytes name key)
  where
    by_test : (b : Bool) → option_map items_of (cond b (Some value) (lookup (has_name name) old.entries)) ≡ cond b (Some value.items) (kept old name)
    by_test true = refl
    by_test false = refl

-- the text of a file is put
pub text-added : (file : File) (old new : Prepared) (key value : Vec ℕ Global) → key.items ≡ file.0 → value.items ≡ text_of file.1 → is_text file.0 ≡ true
    → new.entries ≡ insert_entry compare_keys old.entries key value → AddsText file old new
text-added file old new key value named contents text inserted name =
    kept-insert old new key value name inserted
    ∙ ap (λ k. cond (bytes_eq k name) (Some value.items) (kept old name)) named
    ∙ ap (λ v. cond (bytes_eq file.0 name) (Some v) (kept old name)) contents
    ∙ by_test (bytes_eq file.0 name) refl (is_text name) refl
  where
    by_test : (b : Bool) → bytes_eq file.0 name ≡ b → (t : Bool) → is_text name ≡ t
        → cond b (Some (text_of file.1)) (kept old name) ≡ cond (t && b) (Some (text_of file.1)) (kept old name)
    by_test true is true texts = refl
    by_test true is false texts = (let never : false ≡ true = sym texts ∙ ap is_text (sym ((bytes_eq-Decides file.0 name).0 is)) ∙ text in absurd (cc))
    by_test false is true texts = refl
    by_test false is false texts = refl

-- the name isn't that of a text
pub text-passed : (file : File) (old : Prepared) → is_text file.0 ≡ false → AddsText file old old
text-passed file old other name = by_test (bytes_eq file.0 name) refl (is_text name) refl
  where
    by_test : (b : Bool) → bytes_eq file.0 name ≡ b → (t : Bool) → is_text name ≡ t
        → kept old name ≡ cond (t && b) (Some (text_of file.1)) (kept old name)
    by_test true is true texts = (let never : true ≡ false = sym texts ∙ ap is_text (sym ((bytes_eq-Decides file.0 name).0 is)) ∙ other in absurd (cc))
    by_test true is false texts = refl
    by_test false is true texts = refl
    by_test false is false texts = refl

-- texts of one file more, at the front
texts-more : (file : File) (rest : List File) (old new : Prepared) → KeepsTexts rest old → AddsText file old new → KeepsTexts (file ∷ rest) new
texts-more file rest old new were added name =
    added name ∙ ap (λ k. cond (is_text name && bytes_eq file.0 name) (Some (text_of file.1)) k) (were name)
    ∙ by_test (is_text name) (bytes_eq file.0 name)
  where
    by_test : (t b : Bool) → cond (t && b) (Some (text_of file.1)) (cond t (option_map (λ (f : File). text_of f.1) (file_named name rest)) None)
        ≡ cond t (option_map (λ (f : File). text_of f.1) (cond b (Some file) (file_named name rest))) None
    by_test true true = refl
    by_test true false = refl
    by_test false true = refl
    by_test false false = refl

-- the file at an index is the first of those from there on
pub drop-at : (files : List File) (i : ℕ) → i < length files → (file : File) × (slice_get files i ≡ Some file) × (drop i files ≡ file ∷ drop (suc i) files)
drop-at [] i within = absurd (omega arith)
drop-at (file ∷ files) zero within = (file, refl, refl)
drop-at (file ∷ files) (suc i) within = drop-at files i (omega arith)

pub texts-at : (files : List File) (i start : ℕ) (old new : Prepared) → i < length files → start ≡ suc i → KeepsTexts (drop start files) old
    → IfSome (slice_get files i) (λ file. AddsText file old new) → KeepsTexts (drop i files) new
texts-at files i start old new within next were added =
    let at = drop-at files i within in
    subst (λ all. KeepsTexts all new) (sym at.2)
    (texts-more at.0 (drop (suc i) files) old new (subst (λ n. KeepsTexts (drop n files) old) next were) (subst (λ o. IfSome o (λ file. AddsText file old new)) at.1 added))

-- the name of the file at an index
pub name-at : (files : List File) (i : ℕ) (name : List ℕ) (file : File) → option_map (λ (f : File). f.0) (slice_get files i) ≡ Some name → slice_get files i ≡ Some file → name ≡ file.0
name-at files i name file named is = some_same (sym named ∙ ap (option_map (λ (f : File). f.0)) is)
