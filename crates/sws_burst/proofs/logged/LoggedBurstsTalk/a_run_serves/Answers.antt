use Rattle.sws_burst.proofs.LoggedLemmas.{run-due, run-path, run-steps}
use Rattle.sws_burst.proofs.logged.LoggedBurstsTalk.a_run_serves.Goals as goal

pub returns-clause-path : goal.returns-clause-path
returns-clause-path g c first trail talk run =
    run-path g.L.Link g.T.Talk (record { path = c.a_run_serves.ensures.path; due_is = c.a_run_serves.ensures.due; steps = c.a_run_serves.ensures.steps; steps_are = g.met.T.Talk.steps_are })
    first trail talk.first talk.talk run

pub returns-clause-due : goal.returns-clause-due
returns-clause-due g c first trail talk run =
    run-due g.L.Link g.T.Talk (record { path = c.a_run_serves.ensures.path; due_is = c.a_run_serves.ensures.due; steps = c.a_run_serves.ensures.steps; steps_are = g.met.T.Talk.steps_are })
    first trail talk.first talk.talk run

pub returns-clause-steps : goal.returns-clause-steps
returns-clause-steps g c first trail talk run =
    run-steps g.L.Link g.T.Talk (record { path = c.a_run_serves.ensures.path; due_is = c.a_run_serves.ensures.due; steps = c.a_run_serves.ensures.steps; steps_are = g.met.T.Talk.steps_are })
    first trail talk.first talk.talk run
