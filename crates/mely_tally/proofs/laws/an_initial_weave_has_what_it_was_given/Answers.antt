use Rattle.mely_tally.proofs.WholeLemmas.{begins}
use Rattle.mely_tally.proofs.laws.an_initial_weave_has_what_it_was_given.Goals as goal

pub returns : goal.returns
returns g c = λ setup states weave first is well. begins g.S.Trail g.S.Fits.fits_under setup states weave first well is
