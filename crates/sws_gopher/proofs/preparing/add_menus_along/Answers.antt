use Rattle.std.proofs.Common.{◌+◌, sym, subst, take, arith, rules}
use Rattle.sws_gopher.specs.Halls.{AddsMenus, lies_in}
use Rattle.sws_gopher.proofs.KeyLemmas.{along-slash, along-other}
use Rattle.sws_gopher.proofs.preparing.add_menus_along.Goals as goal
use Rattle.sws_gopher.proofs.preparing.add_menus_along.Goals.{then-name-end-eq47+in_ok-add_menu, else-name-end-eq47}

pub slashes-preserved : goal.slashes-preserved
slashes-preserved c =
    elim c.if-name-end-eq47.branch [
      | then-name-end-eq47+in_ok-add_menu w ↦ subst (λ m. AddsMenus c.args.at.now (λ key. lies_in key (take (c.slashes.end + 1) c.args.name.now)) c.args.menus.now m) (sym w.menus-is)
          (along-slash c.args.at.now c.args.menus.now c.slashes.menus w.add_menu.new.menus c.args.name.now c.slashes.end (c.slashes.end + 1) 0 (search (rules)) (search (rules)) (omega arith) w.if-name-end-eq47.true c.slashes.invariant w.in_ok-add_menu.ensures)
      | else-name-end-eq47 w ↦ subst (λ m. AddsMenus c.args.at.now (λ key. lies_in key (take (c.slashes.end + 1) c.args.name.now)) c.args.menus.now m) (sym w.menus-is)
          (along-other c.args.at.now c.args.menus.now c.slashes.menus c.args.name.now c.slashes.end (c.slashes.end + 1) 0 (search (rules)) (search (rules)) (omega arith) w.if-name-end-eq47.false c.slashes.invariant)
    ]
