use Rattle.mely_chain.proofs.WeaveFirstLemmas.{told_initially}
use Rattle.mely_chain.proofs.WeavePostLemmas.{told_post_of}
use Rattle.mely_chain.proofs.WeaveToldLemmas.{told_step_of, told_run_of, told_drain_of}
use Rattle.mely_chain.proofs.laws.notes_tell_what_the_workers_ran.Goals as goal

pub returns-clause-first : goal.returns-clause-first
returns-clause-first g c = λ app setup states weave from is well. told_initially g.S.Trail g.S.Fits.fits_under g.R.App app setup states weave from is well

pub returns-clause-post : goal.returns-clause-post
returns-clause-post g c = λ app given posted colour event load answer before after well call told. told_post_of g.S.Trail g.S.Fits.fits_under g.R.App app given posted before after colour event load answer well call told

pub returns-clause-step : goal.returns-clause-step
returns-clause-step g c = λ app given posted core step before after well is told. told_step_of g.S.Trail g.S.Fits.fits_under g.R.App app given posted before after core step well is told

pub returns-clause-run : goal.returns-clause-run
returns-clause-run g c = λ app given posted cores went before after well runs told. told_run_of g.S.Trail g.S.Fits.fits_under g.R.App app given posted before after cores went well runs told

pub returns-clause-drain : goal.returns-clause-drain
returns-clause-drain g c = λ app given posted drained before after well drains told. told_drain_of g.S.Trail g.S.Fits.fits_under g.R.App app given posted before after drained well drains told
