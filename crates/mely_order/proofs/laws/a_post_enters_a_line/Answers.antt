use Rattle.mely_order.proofs.PostLemmas.{post_seen}
use Rattle.mely_order.proofs.laws.a_post_enters_a_line.Goals as goal

pub returns : goal.returns
returns g c = λ colour event load answer before after call. post_seen g.S.Trail g.S.Fits.fits_under before after colour event load answer call
