use Rattle.mely_chain.proofs.WeaveEndLemmas.{ran_in_order}
use Rattle.mely_chain.proofs.laws.what_a_drained_weave_ran_is_in_order.Goals as goal

pub returns : goal.returns
returns g c = λ app begin given left weave well told free drained none_lost all are. ran_in_order g.S.Trail g.S.Fits.fits_under g.R.App app given begin weave well told free drained none_lost all left are
