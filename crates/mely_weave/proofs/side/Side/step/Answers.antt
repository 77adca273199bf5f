use Rattle.mely_weave.specs.SideStands.{SideStands}
use Rattle.mely_weave.proofs.Entries.LentLemmas.{lent_steps}
use Rattle.mely_weave.proofs.side.Side.step.Goals as goal

pub returns-clause-steps : goal.returns-clause-steps
returns-clause-steps g c = lent_steps g.S.Trail g.S.Fits.fits_under (SideStands g.S.Trail g.S.Fits.fits_under) c.args.self.now c.step.new.access g.R.App c.args.app.now c.args.worker.now c.step.new.self c.step.result c.step.ensures.steps
