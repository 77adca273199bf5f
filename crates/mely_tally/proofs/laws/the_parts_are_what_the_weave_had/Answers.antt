use Rattle.mely_tally.proofs.WholeLemmas.{taken_apart}
use Rattle.mely_tally.proofs.laws.the_parts_are_what_the_weave_had.Goals as goal

pub returns : goal.returns
returns g c = λ weave histories states queued lost well stands free are homes waits refused. taken_apart g.S.Trail g.S.Fits.fits_under weave well free stands histories states queued lost are homes waits refused
