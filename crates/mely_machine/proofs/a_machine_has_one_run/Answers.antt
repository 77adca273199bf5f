use Rattle.mely_machine.proofs.OneRunLemmas.{one_run}
use Rattle.mely_machine.proofs.a_machine_has_one_run.Goals as goal

pub returns : goal.returns
returns g c = λ rules act app first schedule a b one other. one_run rules act app first schedule a b one other
