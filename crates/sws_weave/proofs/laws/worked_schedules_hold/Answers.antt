use Rattle.sws_weave.proofs.Model.ScriptedLemmas.{schedules}
use Rattle.sws_weave.proofs.laws.worked_schedules_hold.Goals as goal

pub returns : goal.returns
returns c = λ site limits. schedules site limits
