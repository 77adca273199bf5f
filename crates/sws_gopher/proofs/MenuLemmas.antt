-- Items as they are kept and as contracts see them.
use Rattle.std.proofs.Common.{◌≡◌, ℕ, zero, suc, List, [], ◌∷◌, map, drop, fold, refl, sym, ap, ◌∙◌, Some, None}
use Rattle.std.specs.Prelude.{option_map, slice_get}
use Rattle.std.specs.List.{filter_map, cons_option}
use Rattle.std.specs.declared.cmp.Ordering.{Ordering}
use Rattle.std.specs.declared.cmp.Ordering.TheVariants.{Less, Equal, Greater}
use Rattle.std.specs.Ordering.{match_ordering}
use Rattle.std.specs.BTreeSet.{insert_key}
use Rattle.sws_site.specs.Files.{File}
use Rattle.sws_gopher.specs.Menus.{Item, item_in, item_cmp, items_of}

-- a view that keeps the order goes through an insert
pub map-insert_key : {K X : Type 0} (view : K → X) (kept : K → K → Ordering) (seen : X → X → Ordering)
    → ((a b : K) → kept a b ≡ seen (view a) (view b)) → (keys : List K) (key : K)
    → map view (insert_key kept keys key) ≡ insert_key seen (map view keys) (view key)
map-insert_key view kept seen same [] key = refl
map-insert_key view kept seen same (k ∷ keys) key =
    by_order (kept key k) (map-insert_key view kept seen same keys key)
    ∙ ap (λ o. match_ordering o (view key ∷ view k ∷ map view keys) (view k ∷ map view keys) (view k ∷ insert_key seen (map view keys) (view key))) (same key k)
  where
    by_order : (o : Ordering) → map view (insert_key kept keys key) ≡ insert_key seen (map view keys) (view key)
        → map view (match_ordering o (key ∷ k ∷ keys) (k ∷ keys) (k ∷ insert_key kept keys key))
        ≡ match_ordering o (view key ∷ view k ∷ map view keys) (view k ∷ map view keys) (view k ∷ insert_key seen (map view keys) (view key))
    by_order Less rest = refl
    by_order Equal rest = refl
    by_order Greater rest = ap (λ keys. view k ∷ keys) rest

-- ---- the items of the files from an index on

abbrev found : List ℕ → List File → List Item
found folder files = filter_map (λ (file : File). item_in folder file.0) files

-- the items that were found, and those of the files from an index on, are all
abbrev pub Goes : List ℕ → List File → ℕ → List Item → Type 0
Goes folder files i items = fold (insert_key item_cmp) items (found folder (drop i files)) ≡ items_of files folder

found-next : (folder : List ℕ) (files : List File) (i : ℕ) (name : List ℕ) → option_map (λ (file : File). file.0) (slice_get files i) ≡ Some name
    → found folder (drop i files) ≡ cons_option (item_in folder name) (found folder (drop (suc i) files))
found-next folder [] i name is = absurd (cc)
found-next folder (file ∷ files) zero name is = ap (λ n. cons_option (item_in folder n) (found folder files)) (some_same is)
  where
    some_same : {X : Type 0} {x y : X} → Some x ≡ Some y → x ≡ y
    some_same e = cc
found-next folder (file ∷ files) (suc i) name is = found-next folder files i name is

pub with_item : (folder : List ℕ) (files : List File) (i after : ℕ) (name : List ℕ) (item : Item) (old new : List Item)
    → option_map (λ (file : File). file.0) (slice_get files i) ≡ Some name → Some item ≡ item_in folder name
    → new ≡ insert_key item_cmp old item → after ≡ suc i → Goes folder files i old → Goes folder files after new
with_item folder files i after name item old new at is added next goes =
    ap (λ n. fold (insert_key item_cmp) new (found folder (drop n files))) next
    ∙ ap (λ items. fold (insert_key item_cmp) items (found folder (drop (suc i) files))) added
    ∙ sym (ap (fold (insert_key item_cmp) old) (found-next folder files i name at ∙ ap (λ o. cons_option o (found folder (drop (suc i) files))) (sym is)))
    ∙ goes

pub without_item : (folder : List ℕ) (files : List File) (i after : ℕ) (name : List ℕ) (items : List Item)
    → option_map (λ (file : File). file.0) (slice_get files i) ≡ Some name → None ≡ item_in folder name
    → after ≡ suc i → Goes folder files i items → Goes folder files after items
without_item folder files i after name items at is next goes =
    ap (λ n. fold (insert_key item_cmp) items (found folder (drop n files))) next
    ∙ sym (ap (fold (insert_key item_cmp) items) (found-next folder files i name at ∙ ap (λ o. cons_option o (found folder (drop (suc i) files))) (sym is)))
    ∙ goes
