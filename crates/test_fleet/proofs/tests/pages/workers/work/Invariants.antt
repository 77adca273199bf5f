use Rattle.std.proofs.Common.{◌≡◌}
use Rattle.mely_worker.specs.Conditions.{MayStepAt, AppServesAt}
use Rattle.test_fleet.proofs.tests.pages.workers.work.Given as goal

abbrev pub invariant-loop : goal.invariant-loop
invariant-loop g l = record {
  may : MayStepAt g.S.Trail g.S.Fits.fits_under g.A.Access l.access l.worker;
  served : AppServesAt g.A.Access g.R.App l.access l.app;
  core : l.worker.core ≡ l.fn.core;
}
