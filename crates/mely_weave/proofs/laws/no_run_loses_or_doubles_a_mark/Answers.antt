use Rattle.mely_weave.proofs.Runs.WeaveRunLemmas.{run_stands, step_call_accepted, run_grows, run_there}
use Rattle.mely_weave.proofs.laws.no_run_loses_or_doubles_a_mark.Goals as goal

pub returns-clause-stands : goal.returns-clause-stands
returns-clause-stands g c = λ n a b well run. run_stands g.S.Trail g.S.Fits.fits_under g.R.App n a b well run

pub returns-clause-accepted : goal.returns-clause-accepted
returns-clause-accepted g c = λ n a b d well run app core step call. step_call_accepted g.S.Trail g.S.Fits.fits_under g.R.App app core step b d (run_stands g.S.Trail g.S.Fits.fits_under g.R.App n a b well run) call

pub returns-clause-grow : goal.returns-clause-grow
returns-clause-grow g c = λ n a b run. run_grows g.S.Trail g.S.Fits.fits_under g.R.App n a b run

pub returns-clause-there : goal.returns-clause-there
returns-clause-there g c = λ n a b well run. run_there g.S.Trail g.S.Fits.fits_under g.R.App b (run_stands g.S.Trail g.S.Fits.fits_under g.R.App n a b well run)
