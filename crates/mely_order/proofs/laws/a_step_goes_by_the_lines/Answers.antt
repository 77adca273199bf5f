use Rattle.mely_order.proofs.StepLemmas.{step_seen}
use Rattle.mely_order.proofs.laws.a_step_goes_by_the_lines.Goals as goal

pub returns : goal.returns
returns g c = λ app core step before after well call. step_seen g.S.Trail g.S.Fits.fits_under g.R.App app before after core step well call.steps
