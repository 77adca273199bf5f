use Rattle.std.proofs.Common.{subst}
use Rattle.mely_weave.specs.StandsWell.{StandsWell}
use Rattle.mely_weave.specs.Weave.{WeaveState}
use Rattle.mely_weave.proofs.Wholes.PartsOfStandingLemmas.{weave_stands}
use Rattle.mely_weave.proofs.weave.Weave.stands_well.Goals as goal

pub returns-clause-keeps : goal.returns-clause-keeps
returns-clause-keeps g c = subst (λ (l : WeaveState g.row.S.Denot g.row.P.Denot). StandsWell g.S.Trail g.S.Fits.fits_under l) c.self.view_is c.self.invariant.0

pub returns-clause-parts : goal.returns-clause-parts
returns-clause-parts g c = weave_stands g.S.Trail g.S.Fits.fits_under c.args.self.now (subst (λ (l : WeaveState g.row.S.Denot g.row.P.Denot). StandsWell g.S.Trail g.S.Fits.fits_under l) c.self.view_is c.self.invariant.0)
