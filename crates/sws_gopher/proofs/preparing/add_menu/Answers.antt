use Rattle.std.proofs.Common.{sym, ap, subst, ◌∙◌}
use Rattle.std.specs.Str.{bytes_eq}
use Rattle.sws_gopher.specs.Halls.{menu_at, AddsMenus}
use Rattle.sws_gopher.specs.Menus.{menu_of}
use Rattle.sws_gopher.proofs.KeyLemmas.{menu-added}
use Rattle.sws_gopher.proofs.preparing.add_menu.Goals as goal

pub returns : goal.returns
returns c = subst (λ key. AddsMenus c.args.at.now (bytes_eq key) c.args.menus.now c.insert.new.self) c.in_ok-from_slice.ensures.items
    (menu-added c.args.at.now c.args.menus.now c.insert.new.self c.in_ok-from_slice.field-0 c.in_ok-menu.menu
    (c.in_ok-menu.ensures ∙ ap (menu_of c.args.at.now) c.requires.path ∙ ap (menu_at c.args.at.now) (sym c.in_ok-from_slice.ensures.items)) c.in_ok-insert.ensures.entries)
