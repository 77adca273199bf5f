use Rattle.sws_conn.specs.Http.{http}
use Rattle.sws_conn.specs.HttpLaws.{http-orderly}
use Rattle.sws_steps.specs.LogLaws.{steps_of-handlers}
use Rattle.sws_steps.proofs.Logs.ToldLemmas.{run-gives, given-numbers}
use Rattle.sws_conn.proofs.LogLemmas.{run-log, log-grows}
use Rattle.sws_conn.proofs.laws.a_run_gives_its_log.Goals as goal

pub returns-clause-gives : goal.returns-clause-gives
returns-clause-gives g c = λ site first conn trail now run. run-gives http http-orderly g.L.Link site first conn trail now run

pub returns-clause-log : goal.returns-clause-log
returns-clause-log g c = run-log g.L.Link

pub returns-clause-numbers : goal.returns-clause-numbers
returns-clause-numbers g c = λ site first conn trail now lines given. (given-numbers http http-orderly g.L.Link site first conn trail now lines given).0

pub returns-clause-grows : goal.returns-clause-grows
returns-clause-grows g c = log-grows

pub returns-clause-steps : goal.returns-clause-steps
returns-clause-steps g c = steps_of-handlers http
