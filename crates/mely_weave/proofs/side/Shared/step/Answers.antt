use Rattle.std.proofs.Common.{rules, ◌<◌, subst, sym}
use Rattle.mely_history.specs.Setup.{shape_of}
use Rattle.mely_weave.specs.SideStands.{SideStands}
use Rattle.mely_weave.specs.Sides.{side_state}
use Rattle.mely_weave.proofs.Entries.SideLemmas.{side_stands_by}
use Rattle.mely_weave.proofs.side.Shared.step.Goals as goal

pub returns-clause-stands : goal.returns-clause-stands
returns-clause-stands g c =
    let may = c.step.ensures.may in
    let low : c.step.new.self.core < (shape_of (side_state c.step.new.self).setup).cores = subst (λ n. n < (shape_of (side_state c.step.new.self).setup).cores) (sym may.own_core) may.core in
    let parts = c.step.ensures.kept.stand (rw (← c.self.view_is) c.self.invariant) in
    let stands : SideStands g.S.Trail g.S.Fits.fits_under (side_state c.step.new.self) = side_stands_by g.S.Trail g.S.Fits.fits_under (side_state c.step.new.self) parts low in
    search (rules, stands)
