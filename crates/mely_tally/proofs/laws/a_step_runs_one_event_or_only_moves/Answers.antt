use Rattle.mely_tally.proofs.TallyLemmas.{step_tells}
use Rattle.mely_tally.proofs.laws.a_step_runs_one_event_or_only_moves.Goals as goal

pub returns : goal.returns
returns g c = λ app core step before after well call. step_tells g.S.Trail g.S.Fits.fits_under g.R.App app before after core step well call.steps
