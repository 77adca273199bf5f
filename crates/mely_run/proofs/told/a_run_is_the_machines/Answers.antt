use Rattle.mely_run.proofs.Runs.WholeLemmas.{told_whole}
use Rattle.mely_run.proofs.told.a_run_is_the_machines.Goals as goal
use Rattle.std.proofs.Common.{refl}

pub returns : goal.returns
returns g c = λ app setup states c event load schedule histories left x whole agrees fine. told_whole _ _ _ _ (g.met.R.Told.is_told app _) x whole refl agrees fine
