use Rattle.sws_steps.proofs.Runs.TalkLemmas.{open-run-serves, open-run-path, open-run-due}
use Rattle.sws_steps.proofs.Logs.StepLemmas.{told-run-steps}
use Rattle.sws_steps.proofs.Logs.ToldLemmas.{open-run-lines}
use Rattle.sws_steps.proofs.conn_talk.SpeechConnTalk.a_run_serves.Goals as goal

pub returns-clause-serves : goal.returns-clause-serves
returns-clause-serves g c = λ first trail talk run. open-run-serves g.S.Speech.protocol g.met.S.Speech.orderly g.L.Link first trail talk.conn run.ran

pub returns-clause-path : goal.returns-clause-path
returns-clause-path g c = λ first trail talk run. open-run-path g.S.Speech.protocol g.met.S.Speech.orderly g.L.Link first trail talk.conn run.ran

pub returns-clause-due : goal.returns-clause-due
returns-clause-due g c = λ first trail talk run. open-run-due g.S.Speech.protocol g.met.S.Speech.orderly g.L.Link first trail talk.conn run.ran

pub returns-clause-lines : goal.returns-clause-lines
returns-clause-lines g c = λ first trail talk conn run. open-run-lines g.S.Speech.protocol g.met.S.Speech.orderly g.L.Link first trail talk.conn conn run.ran

pub returns-clause-steps : goal.returns-clause-steps
returns-clause-steps g c = told-run-steps g.S.Speech.protocol g.met.S.Speech.orderly g.L.Link
