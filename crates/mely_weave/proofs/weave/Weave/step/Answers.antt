use Rattle.std.proofs.Common.{◌≡◌, ◌<◌, ap, sym, ◌∙◌, refl, arith, length, Some}
use Rattle.std.proofs.lemmas.Option.{slice_get-get_or}
use Rattle.std.specs.Prelude.{slice_get, slice_set}
use Rattle.mely_history.specs.Setup.{shape_of}
use Rattle.mely_weave.specs.Side.{side_at}
use Rattle.mely_weave.specs.SideStands.{SideStands}
use Rattle.mely_weave.specs.StandsWell.{StandsWell}
use Rattle.mely_weave.specs.Steps.{with_workers}
use Rattle.mely_weave.proofs.Lines.WholeStepLemmas.{step_keeps, step_stands, step_enters}
use Rattle.mely_weave.proofs.Runs.RunLemmas.{StepStays, step_stays}
use Rattle.mely_weave.proofs.weave.Weave.step.Goals as goal

pub step-requires-clause-may : goal.step-requires-clause-may
step-requires-clause-may g c =
    let low : c.args.core < (shape_of c.self.inside.shared.setup).cores = rw (← c.self.view_is) at c.requires.core in
    let many : length c.self.inside.workers.items ≡ (shape_of c.self.inside.shared.setup).cores = c.self.invariant.0.workers in
    let there : slice_get c.self.inside.workers.items c.args.core ≡ Some c.index_mut-worker.result.now = slice_get-get_or c.self.inside.workers.items c.args.core c.index_mut-worker.result.now (omega (arith, low, many)) ∙ ap (λ v. Some v) (sym c.index_mut-worker.ensures.value) in
    (c.self.invariant.0.worker c.args.core c.index_mut-worker.result.now there).may

-- the core is one of the weave
low : (g : _) (c : goal.After-self-1 g) → c.args.core < (shape_of c.self.inside.shared.setup).cores
low g c = rw (← c.self.view_is) at c.requires.core

-- the worker that made the step is its worker
there : (g : _) (c : goal.After-self-1 g) → slice_get c.self.inside.workers.items c.args.core ≡ Some c.index_mut-worker.result.now
there g c =
    let small = low g c in
    let many : length c.self.inside.workers.items ≡ (shape_of c.self.inside.shared.setup).cores = c.self.invariant.0.workers in
    slice_get-get_or c.self.inside.workers.items c.args.core c.index_mut-worker.result.now (omega (arith, small, many)) ∙ ap (λ v. Some v) (sym c.index_mut-worker.ensures.value)

-- what the step leaves as it was
stays : (g : _) (c : goal.After-self-1 g) → StepStays (side_at c.self.inside.shared c.args.core) (side_at c.step.new.self c.args.core) c.index_mut-worker.result.now c.step.new.worker
stays g c = step_stays g.S.Trail (SideStands g.S.Trail g.S.Fits.fits_under) g.R.App c.args.app.now (side_at c.self.inside.shared c.args.core) (side_at c.step.new.self c.args.core) c.index_mut-worker.result.now c.step.new.worker c.step.result c.step.ensures.steps

-- so all stands well after the step
stands : (g : _) (c : goal.After-self-1 g) → StandsWell g.S.Trail g.S.Fits.fits_under (with_workers (side_at c.step.new.self c.args.core) (slice_set c.self.inside.workers.items c.args.core c.step.new.worker))
stands g c = step_stands g.S.Trail g.S.Fits.fits_under (with_workers (side_at c.self.inside.shared 0) c.self.inside.workers.items) c.self.invariant.0 c.args.core c.index_mut-worker.result.now (there g c) (low g c) (SideStands g.S.Trail g.S.Fits.fits_under) g.R.App c.args.app.now c.step.result (side_at c.step.new.self c.args.core) c.step.new.worker c.step.ensures.steps c.step.ensures.stands c.step.ensures.may

pub invariant_of-self : goal.invariant_of-self
invariant_of-self g c =
    (stands g c, c.self.invariant.1 ∙ sym (stays g c).setup)

pub returns-clause-stands : goal.returns-clause-stands
returns-clause-stands g c = stands g c

pub returns-clause-accepted : goal.returns-clause-accepted
returns-clause-accepted g c =
    (step_keeps g.S.Trail g.S.Fits.fits_under (with_workers (side_at c.self.inside.shared 0) c.self.inside.workers.items) c.self.invariant.0 c.args.core c.index_mut-worker.result.now (there g c) (low g c) (SideStands g.S.Trail g.S.Fits.fits_under) g.R.App c.args.app.now c.step.result (side_at c.step.new.self c.args.core) c.step.new.worker c.step.ensures.steps).never

pub returns-clause-call : goal.returns-clause-call
returns-clause-call g c = rw (← c.self.view_is) (record {
  there = low g c;
  steps = record {
    worker = c.index_mut-worker.result.now;
    was = there g c;
    side = side_at c.step.new.self c.args.core;
    becomes = c.step.new.worker;
    steps = step_enters g.S.Trail g.S.Fits.fits_under (with_workers (side_at c.self.inside.shared 0) c.self.inside.workers.items) c.self.invariant.0 c.args.core c.index_mut-worker.result.now (there g c) (low g c) (SideStands g.S.Trail g.S.Fits.fits_under) g.R.App c.args.app.now c.step.result (side_at c.step.new.self c.args.core) c.step.new.worker c.step.ensures.steps;
    leaves = refl;
  };
  parts = c.step.ensures.stands;
  may = c.step.ensures.may;
})

pub returns-clause-same : goal.returns-clause-same
returns-clause-same g c =
    rw (← c.self.view_is) (record { setup = (stays g c).setup; given = (stays g c).given })
