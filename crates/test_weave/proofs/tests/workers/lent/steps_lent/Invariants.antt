use Rattle.mely_worker.specs.Access.{Stays}
use Rattle.mely_worker.specs.Conditions.{MayStepAt, AppServesAt}
use Rattle.test_weave.proofs.tests.workers.lent.steps_lent.Given as goal

abbrev pub invariant-loop-step : goal.invariant-loop-step
invariant-loop-step g l = record {
  may : MayStepAt g.S.Trail g.S.Fits.fits_under g.A.Access l.access l.worker;
  served : AppServesAt g.A.Access g.R.App l.access l.fn.app;
  same : Stays g.A.Access.setup_of g.A.Access.core_of g.A.Access.frame_of l.fn.access l.access;
}
