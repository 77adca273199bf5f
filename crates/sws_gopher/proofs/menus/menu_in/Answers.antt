use Rattle.std.proofs.Common.{rules, ◌≡◌, ◌++◌, List, ℕ, map, ap, ◌∙◌, Bor}
use Rattle.std.specs.List.{flat_map}
use Rattle.std.specs.Map.Iter.{deref}
use Rattle.std.proofs.lemmas.Map.Iter.{iter_end}
use Rattle.sws_gopher.specs.Texts.{last_line}
use Rattle.sws_gopher.specs.Menus.{Item, Place, menu_line, menu_of, items_of}
use Rattle.sws_gopher.specs.declared.kind.Kind.{Kind}
use Rattle.sws_gopher.proofs.menus.menu_in.Goals as goal

abbrev view : Bor (List ℕ) × Kind → Item
view item = (item.0.now, item.1)

-- all items were written
written : (place : Place) (folder : List ℕ) (keys yielded : List (Bor (List ℕ) × Kind)) (menu new : List ℕ)
    → map view keys ≡ items_of place.files folder → yielded ≡ keys
    → menu ≡ flat_map (menu_line place folder) (map view yielded) → new ≡ menu ++ last_line → new ≡ menu_of place folder
unfolding menu_of
written place folder keys yielded menu new are all so_far is =
    is ∙ ap (λ m. m ++ last_line) (so_far ∙ ap (λ k. flat_map (menu_line place folder) (map view k)) all ∙ ap (flat_map (menu_line place folder)) are)

pub returns : goal.returns
returns c =
    let all : map deref c.items.yielded ≡ c.in_ok-items.items.keys = search (rules, iter_end) in
    written c.args.at.now c.args.folder.now c.in_ok-items.items.keys (map deref c.items.yielded) c.items.menu.items c.extend_from_slice.new.self.items
    (c.in_ok-items.ensures ∙ ap (λ (p : Place). items_of p.files c.args.folder.now) c.at.view_is) all c.items.invariant c.in_ok-extend_from_slice.ensures.items
