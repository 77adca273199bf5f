use Rattle.mely_tally.proofs.PartsFittingLemmas.{parts_fit}
use Rattle.mely_tally.proofs.laws.what_is_left_in_the_parts_fits.Goals as goal

pub returns : goal.returns
returns g c = λ weave queued lost stands waits refused. parts_fit g.S.Trail g.S.Fits.fits_under weave stands queued lost waits refused
