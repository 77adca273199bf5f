use Rattle.sws_access.proofs.telling.TellingTalk.a_run_serves.Goals as goal

pub returns-clause-serves : goal.returns-clause-serves
returns-clause-serves g c first trail telling run =
    c.a_run_serves.ensures.serves first trail telling.talk run.ran

pub returns-clause-path : goal.returns-clause-path
returns-clause-path g c first trail telling run =
    c.a_run_serves.ensures.path first trail telling.talk run.ran

pub returns-clause-due : goal.returns-clause-due
returns-clause-due g c first trail telling run =
    c.a_run_serves.ensures.due first trail telling.talk run.ran

pub returns-clause-lines : goal.returns-clause-lines
returns-clause-lines g c first trail telling conn run =
    c.a_run_serves.ensures.lines first trail telling.talk conn run.ran

pub returns-clause-steps : goal.returns-clause-steps
returns-clause-steps g c first trail telling run =
    c.a_run_serves.ensures.steps first trail telling.talk run.ran
