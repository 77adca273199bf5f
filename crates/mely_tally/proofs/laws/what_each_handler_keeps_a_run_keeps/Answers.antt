use Rattle.mely_tally.proofs.ConservedLemmas.{step_keeps, run_keeps, drain_keeps}
use Rattle.mely_tally.proofs.laws.what_each_handler_keeps_a_run_keeps.Goals as goal

pub returns-clause-step : goal.returns-clause-step
returns-clause-step g c = λ app had brought keep core step before after well call. step_keeps g.S.Trail g.S.Fits.fits_under g.R.App app had brought keep before after core step well call

pub returns-clause-run : goal.returns-clause-run
returns-clause-run g c = λ app had brought keep cores went before after well runs. run_keeps g.S.Trail g.S.Fits.fits_under g.R.App app had brought keep before after cores went well runs

pub returns-clause-drain : goal.returns-clause-drain
returns-clause-drain g c = λ app had brought keep drained before after well drains. drain_keeps g.S.Trail g.S.Fits.fits_under g.R.App app had brought keep before after drained well drains
