use Rattle.mely_cause.proofs.EndedLemmas.{ran_with_causes}
use Rattle.mely_cause.proofs.laws.what_a_drained_weave_ran_has_causes.Goals as goal

pub returns : goal.returns
returns g c = λ app begin given left weave well told free drained none_lost all are. ran_with_causes g.S.Trail g.S.Fits.fits_under g.R.App app given begin weave well told free drained none_lost all left are
