use Rattle.std.proofs.Common.{◌≡◌, ◌+◌, subst, suc, ℕ, arith}
use Rattle.mely_history.specs.Setup.{shape_of}
use Rattle.mely_weave.specs.Drains.{AreDriven}
use Rattle.mely_weave.proofs.Runs.RunLemmas.{low_on, serves_on}
use Rattle.mely_weave.proofs.Runs.DrainLemmas.{driven_none, driven_more, driven_same}
use Rattle.mely_weave.proofs.weave.Weave.drive_all.Goals as goal

pub loop-core-init : goal.loop-core-init
loop-core-init g c = record { driven = driven_none g.S.Trail g.S.Fits.fits_under g.R.App c.args.app.now c.args.self.now; stands = rw (← c.self.view_is) c.self.invariant.0 }

pub drive-requires-clause-core : goal.drive-requires-clause-core
drive-requires-clause-core g c =
    let cores : c.cores-core-end.result ≡ (shape_of c.args.self.now.setup).cores = rw (← c.self.view_is) (rw (← c.self-inside.view_is) c.cores-core-end.ensures.value) in
    let low = c.loop-core-test.true in
    low_on c.args.self.now c.loop-core.self c.loop-core.core (driven_same g.S.Trail g.S.Fits.fits_under g.R.App c.args.app.now c.loop-core.core c.args.self.now c.loop-core.self c.loop-core.invariant.driven) (omega (arith, cores, low))

pub drive-requires-clause-served : goal.drive-requires-clause-served
drive-requires-clause-served g c = serves_on g.S.Trail.frame_of g.R.App c.args.app.now c.args.self.now c.loop-core.self (driven_same g.S.Trail g.S.Fits.fits_under g.R.App c.args.app.now c.loop-core.core c.args.self.now c.loop-core.self c.loop-core.invariant.driven) c.requires.served

pub loop-core-preserved : goal.loop-core-preserved
loop-core-preserved g c =
    let next : suc c.loop-core.core ≡ c.loop-core.core + 1 = omega arith in record {
      driven = subst (λ (n : ℕ). AreDriven g.S.Trail g.S.Fits.fits_under g.R.App c.args.app.now n c.args.self.now c.drive.new.self) next (driven_more g.S.Trail g.S.Fits.fits_under g.R.App c.args.app.now c.loop-core.core c.args.self.now c.loop-core.self c.drive.new.self c.loop-core.invariant.driven c.drive.ensures.driven);
      stands = c.drive.ensures.stands;
    }

pub returns-clause-driven : goal.returns-clause-driven
returns-clause-driven g c =
    let cores : c.cores-core-end.result ≡ (shape_of c.args.self.now.setup).cores = rw (← c.self.view_is) (rw (← c.self-inside.view_is) c.cores-core-end.ensures.value) in
    let low = c.loop-core.auto.core-end in
    let high = c.loop-core-test.false in
    let all : c.loop-core.core ≡ (shape_of c.args.self.now.setup).cores = omega (arith, cores, low, high) in
    subst (λ (n : ℕ). AreDriven g.S.Trail g.S.Fits.fits_under g.R.App c.args.app.now n c.args.self.now c.loop-core.self) all c.loop-core.invariant.driven

pub returns-clause-stands : goal.returns-clause-stands
returns-clause-stands g c = c.loop-core.invariant.stands
