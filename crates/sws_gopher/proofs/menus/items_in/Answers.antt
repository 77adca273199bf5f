use Rattle.std.proofs.Common.{◌≡◌, List, ℕ, map, refl, sym, ap, subst, ◌∙◌, Bor, BTreeSet, ◌+◌, arith}
use Rattle.std.specs.Prelude.{option_map}
use Rattle.std.specs.Ordering.{nat_cmp, ordering_then}
use Rattle.std.specs.Cmp.Lexicographic.{slice_cmp}
use Rattle.sws_gopher.specs.Menus.{Item, rank, item_cmp}
use Rattle.sws_gopher.specs.declared.kind.Kind.{Kind}
use Rattle.sws_gopher.specs.declared.kind.Kind.TheVariants.{Text, Binary, Folder}
use Rattle.sws_gopher.specs.contracts.kind.KindOrd.TheImpl.{ghosts}
use Rattle.sws_gopher.proofs.MenuLemmas.{map-insert_key, with_item, without_item, Goes}
use Rattle.sws_gopher.proofs.menus.items_in.Goals as goal
use Rattle.sws_gopher.proofs.menus.items_in.Goals.{in-Some+in_ok-insert, in_default}

abbrev view : Bor (List ℕ) × Kind → Item
view item = (item.0.now, item.1)

-- kinds stand in the order in which they are declared
ranked : (one other : Kind) → ghosts.cmp one other ≡ nat_cmp (rank one) (rank other)
ranked Text Text = refl
ranked Text Binary = refl
ranked Text Folder = refl
ranked Binary Text = refl
ranked Binary Binary = refl
ranked Binary Folder = refl
ranked Folder Text = refl
ranked Folder Binary = refl
ranked Folder Folder = refl

pub files-preserved : goal.files-preserved
files-preserved c =
    elim c.match-item_in.branch [
      | in-Some+in_ok-insert w ↦ with_item c.args.folder.now c.args.site.now.files c.files.i (c.files.i + 1) c.name_at.result.now (view w.in-Some.item) (map view c.files.items.keys) (map view c.match-item_in.items.keys)
          c.name_at.ensures (sym (ap (option_map view) w.in-Some.is) ∙ c.item_in.ensures)
          (ap (λ items. map view (BTreeSet.keys items)) w.items-is ∙ ap (map view) w.in_ok-insert.ensures.keys ∙ map-insert_key view _ item_cmp (λ a b. ap (ordering_then (slice_cmp nat_cmp a.0.now b.0.now)) (ranked a.1 b.1)) c.files.items.keys w.in-Some.item) (omega arith) c.files.invariant
      | in_default w ↦ without_item c.args.folder.now c.args.site.now.files c.files.i (c.files.i + 1) c.name_at.result.now (map view c.match-item_in.items.keys) c.name_at.ensures
          (sym (ap (option_map view) w.in_default.is) ∙ c.item_in.ensures) (omega arith) (subst (λ items. Goes c.args.folder.now c.args.site.now.files c.files.i (map view (BTreeSet.keys items))) (sym w.items-is) c.files.invariant)
    ]
