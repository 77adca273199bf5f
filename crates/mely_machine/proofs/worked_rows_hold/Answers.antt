use Rattle.mely_machine.proofs.Rows.{worked}
use Rattle.mely_machine.proofs.worked_rows_hold.Goals as goal

pub returns : goal.returns
returns c = worked
