use Rattle.test_machine.proofs.Cases.{cases}
use Rattle.test_machine.proofs.model_runs_are_the_machines.Goals as goal

pub returns : goal.returns
returns c = cases
