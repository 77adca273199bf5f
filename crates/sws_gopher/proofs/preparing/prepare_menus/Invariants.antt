use Rattle.std.proofs.Common.{take}
use Rattle.sws_gopher.specs.Halls.{KeepsMenusOf}
use Rattle.sws_gopher.proofs.preparing.prepare_menus.Given as goal

abbrev pub invariant-files : goal.invariant-files
invariant-files l = KeepsMenusOf l.at (take l.i l.at.files) l.menus
