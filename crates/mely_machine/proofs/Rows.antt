-- The worked rows, by computation.
use Rattle.std.proofs.Common.{refl}
use Rattle.mely_machine.specs.MachineStep.{step}
use Rattle.mely_machine.specs.MachineRun.{post, steps, rounds}
use Rattle.mely_machine.specs.Rows.{WorkedRows}

pub worked : WorkedRows
unfolding post steps step rounds
worked = record {
  picked = refl;
  late_report = refl;
  late_mark = refl;
  unheard = refl;
  batch_of_ten = refl;
  batch_of_one = refl;
  pinned_stays = refl;
}
