use Rattle.mely_check.proofs.StepLemmas.{none_step}
use Rattle.mely_check.proofs.place.Place.step.Goals as goal

pub returns-in_err-said-clause-stands : goal.returns-in_err-said-clause-stands
returns-in_err-said-clause-stands c = λ lines at.
    let place = c.args.self.now in
    rw c.from_residual.ensures (none_step lines place c.args.line.now place.shards_in place.begun_few c.requires c.in_err-said.ensures at)
