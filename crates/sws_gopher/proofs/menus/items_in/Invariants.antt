use Rattle.std.proofs.Common.{map}
use Rattle.sws_gopher.proofs.MenuLemmas.{Goes}
use Rattle.sws_gopher.proofs.menus.items_in.Given as goal

abbrev pub invariant-files : goal.invariant-files
invariant-files l = Goes l.folder l.site.files l.i (map (λ item. (item.0.now, item.1)) l.items.keys)
