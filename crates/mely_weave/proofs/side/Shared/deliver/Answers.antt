use Rattle.std.proofs.Common.{rules, ◌≤◌, ◌<◌, arith, subst, sym}
use Rattle.mely_history.specs.Setup.{shape_of}
use Rattle.mely_weave.specs.SideStands.{SideStands}
use Rattle.mely_weave.specs.Sides.{side_state}
use Rattle.mely_weave.proofs.Entries.SideLemmas.{side_stands_by}
use Rattle.mely_weave.proofs.side.Shared.deliver.Goals as goal

pub returns-clause-stands : goal.returns-clause-stands
returns-clause-stands g c =
    let some : 1 ≤ (shape_of (side_state c.deliver.new.self).setup).cores = (side_state c.deliver.new.self).setup.cores_in.0 in
    let first : 0 < (shape_of (side_state c.deliver.new.self).setup).cores = omega (arith, some) in
    let low : c.deliver.new.self.core < (shape_of (side_state c.deliver.new.self).setup).cores = subst (λ n. n < (shape_of (side_state c.deliver.new.self).setup).cores) (sym c.deliver.ensures.core) first in
    let parts = c.deliver.ensures.kept.stand (rw (← c.self.view_is) c.self.invariant) in
    let stands : SideStands g.S.Trail g.S.Fits.fits_under (side_state c.deliver.new.self) = side_stands_by g.S.Trail g.S.Fits.fits_under (side_state c.deliver.new.self) parts low in
    search (rules, stands)
