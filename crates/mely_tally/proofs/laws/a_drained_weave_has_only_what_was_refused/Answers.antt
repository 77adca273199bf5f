use Rattle.mely_tally.proofs.WholeLemmas.{drained_ways}
use Rattle.mely_tally.proofs.laws.a_drained_weave_has_only_what_was_refused.Goals as goal

pub returns : goal.returns
returns g c = λ weave well free drained. drained_ways g.S.Trail g.S.Fits.fits_under weave well free drained
