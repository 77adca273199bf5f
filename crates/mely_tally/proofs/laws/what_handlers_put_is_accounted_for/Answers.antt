use Rattle.mely_tally.proofs.AccountLemmas.{account_first, account_step, account_run, account_drain}
use Rattle.mely_tally.proofs.PostAccountLemmas.{account_post}
use Rattle.mely_tally.proofs.laws.what_handlers_put_is_accounted_for.Goals as goal

pub returns-clause-post : goal.returns-clause-post
returns-clause-post g c = λ app posted colour event load answer before after well is. account_post g.S.Trail g.S.Fits.fits_under g.R.App app posted before after well colour event load answer is.posts

pub returns-clause-step : goal.returns-clause-step
returns-clause-step g c = λ app posted core step before after well is. account_step g.S.Trail g.S.Fits.fits_under g.R.App app posted before after core step well is

pub returns-clause-run : goal.returns-clause-run
returns-clause-run g c = λ app posted cores went before after well runs. account_run g.S.Trail g.S.Fits.fits_under g.R.App app posted before after cores went well runs

pub returns-clause-drain : goal.returns-clause-drain
returns-clause-drain g c = λ app posted drained before after well drains. account_drain g.S.Trail g.S.Fits.fits_under g.R.App app posted before after drained well drains

pub returns-clause-first : goal.returns-clause-first
returns-clause-first g c = λ app setup states weave is. account_first g.S.Trail g.S.Fits.fits_under g.R.App app setup states weave is
