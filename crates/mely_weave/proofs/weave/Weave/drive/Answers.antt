use Rattle.std.proofs.Common.{◌≡◌, ◌<◌, ◌∙◌, ap, sym, suc, Some, true, false, length, refl, arith}
use Rattle.std.proofs.lemmas.Option.{slice_get-get_or}
use Rattle.std.specs.Prelude.{slice_get}
use Rattle.mely_history.specs.Setup.{shape_of}
use Rattle.mely_weave.specs.Drains.{IsFreeAt}
use Rattle.mely_weave.proofs.Runs.RunLemmas.{low_on, serves_on}
use Rattle.mely_weave.proofs.Runs.DrainLemmas.{drives_none, drives_more, drives_same, isnt_true}
use Rattle.mely_weave.proofs.weave.Weave.drive.Goals as goal
use Rattle.mely_weave.proofs.weave.Weave.drive.Goals.{After-index}

pub loop-init : goal.loop-init
loop-init g c = record { drives = (0, drives_none g.S.Trail g.S.Fits.fits_under g.R.App c.args.app.now c.args.core c.args.self.now); stands = rw (← c.self.view_is) c.self.invariant.0 }

pub index-requires : goal.index-requires
index-requires g c =
    let low : c.args.core < (shape_of c.self-in-loop.inside.shared.setup).cores = rw (← c.self-in-loop.view_is) at (low_on c.args.self.now c.loop.self c.args.core (drives_same g.S.Trail g.S.Fits.fits_under g.R.App c.args.app.now c.args.core c.loop.invariant.drives.0 c.args.self.now c.loop.self c.loop.invariant.drives.1) c.requires.core) in
    let many : length c.self-in-loop.inside.workers.items ≡ (shape_of c.self-in-loop.inside.shared.setup).cores = c.self-in-loop.invariant.0.workers in
    omega (arith, low, many)

pub step-requires-clause-core : goal.step-requires-clause-core
step-requires-clause-core g c = low_on c.args.self.now c.loop.self c.args.core (drives_same g.S.Trail g.S.Fits.fits_under g.R.App c.args.app.now c.args.core c.loop.invariant.drives.0 c.args.self.now c.loop.self c.loop.invariant.drives.1) c.requires.core

pub step-requires-clause-served : goal.step-requires-clause-served
step-requires-clause-served g c = serves_on g.S.Trail.frame_of g.R.App c.args.app.now c.args.self.now c.loop.self (drives_same g.S.Trail g.S.Fits.fits_under g.R.App c.args.app.now c.args.core c.loop.invariant.drives.0 c.args.self.now c.loop.self c.loop.invariant.drives.1) c.requires.served

-- the worker of the core
there : (g : _) (c : After-index g) → slice_get c.self-in-loop.inside.workers.items c.args.core ≡ Some c.index.result.now
there g c =
    let low : c.args.core < (shape_of c.self-in-loop.inside.shared.setup).cores = rw (← c.self-in-loop.view_is) at (low_on c.args.self.now c.loop.self c.args.core (drives_same g.S.Trail g.S.Fits.fits_under g.R.App c.args.app.now c.args.core c.loop.invariant.drives.0 c.args.self.now c.loop.self c.loop.invariant.drives.1) c.requires.core) in
    let many : length c.self-in-loop.inside.workers.items ≡ (shape_of c.self-in-loop.inside.shared.setup).cores = c.self-in-loop.invariant.0.workers in
    slice_get-get_or c.self-in-loop.inside.workers.items c.args.core c.index.result.now (omega (arith, low, many)) ∙ ap (λ v. Some v) (sym c.index.ensures)

pub loop-preserved : goal.loop-preserved
loop-preserved g c =
    let busy : IsFreeAt c.loop.self c.args.core false = rw (← c.self-in-loop.view_is) (record { worker = c.index.result.now; there = there g (goal.at.loop-preserved g c).After-index; is = isnt_true _ c.if-is_free.ensures.1 }) in
    record {
      drives = (suc c.loop.invariant.drives.0, drives_more g.S.Trail g.S.Fits.fits_under g.R.App c.args.app.now c.args.core c.loop.invariant.drives.0 c.args.self.now c.loop.self c.step.new.self c.step.result c.loop.invariant.drives.1 busy (record { call = c.step.ensures.call; accepted = c.step.ensures.accepted; stands = c.step.ensures.stands }));
      stands = c.step.ensures.stands;
    }

pub returns-then-is_free-clause-driven : goal.returns-then-is_free-clause-driven
returns-then-is_free-clause-driven g c =
    let free : IsFreeAt c.loop.self c.args.core true = rw (← c.self-in-loop.view_is) (record { worker = c.index.result.now; there = there g (goal.at.returns-then-is_free-clause-driven g c).After-index; is = c.if-is_free.ensures.0 refl }) in
    record { count = c.loop.invariant.drives.0; drives = c.loop.invariant.drives.1; free = free }

pub returns-then-is_free-clause-stands : goal.returns-then-is_free-clause-stands
returns-then-is_free-clause-stands g c = c.loop.invariant.stands
