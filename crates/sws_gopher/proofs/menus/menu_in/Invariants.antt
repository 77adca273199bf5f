use Rattle.std.proofs.Common.{◌≡◌, map}
use Rattle.std.specs.List.{flat_map}
use Rattle.std.specs.Map.Iter.{deref}
use Rattle.sws_gopher.specs.Menus.{menu_line}
use Rattle.sws_gopher.proofs.menus.menu_in.Given as goal

abbrev pub invariant-items : goal.invariant-items
invariant-items l = l.menu.items ≡ flat_map (menu_line l.at l.folder) (map (λ item. (item.0.now, item.1)) (map deref l.yielded))
