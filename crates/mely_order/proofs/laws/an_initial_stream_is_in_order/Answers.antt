use Rattle.mely_order.proofs.EndsLemmas.{begins_in_order}
use Rattle.mely_order.proofs.laws.an_initial_stream_is_in_order.Goals as goal

pub returns : goal.returns
returns g c = λ stream setup states weave first given is well. begins_in_order g.S.Trail g.S.Fits.fits_under stream setup states weave given is well first
