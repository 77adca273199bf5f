use Rattle.std.proofs.Common.{take}
use Rattle.sws_gopher.specs.Halls.{AddsMenus, lies_in}
use Rattle.sws_gopher.proofs.preparing.add_menus_along.Given as goal

abbrev pub invariant-slashes : goal.invariant-slashes
invariant-slashes l = AddsMenus l.at (λ key. lies_in key (take l.end l.name)) l.fn.menus l.menus
