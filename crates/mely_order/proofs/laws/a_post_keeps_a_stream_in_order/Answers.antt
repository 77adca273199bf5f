use Rattle.mely_order.proofs.EndsLemmas.{posted_in_order}
use Rattle.mely_order.proofs.PostLemmas.{post_seen}
use Rattle.mely_order.proofs.laws.a_post_keeps_a_stream_in_order.Goals as goal

pub returns : goal.returns
returns g c = λ stream colour event load answer before after call not was. posted_in_order stream colour event load answer before after (post_seen g.S.Trail g.S.Fits.fits_under before after colour event load answer call) not was
