use Rattle.std.proofs.Common.{◌∷◌, option_map, false}
use Rattle.sws_link.specs.Scripts.{Script}
use Rattle.sws_steps.specs.declared.Handler.TheVariants as handler
use Rattle.sws_steps.specs.Path.{TakesOff}
use Rattle.sws_steps.specs.Talks.{due, path_to_come, StepsServed}
use Rattle.sws_steps.proofs.Runs.PathLemmas.{unless-map}
use Rattle.sws_burst.specs.Bursts.{bursts_from, bursts_of, plain_steps, unlogged}
use Rattle.sws_burst.proofs.BurstLemmas.{bursts-due, bursts-took, plain-served}
use Rattle.sws_burst.proofs.bursts.BurstsTalk.a_run_serves.Goals as goal

pub returns-clause-path : goal.returns-clause-path
returns-clause-path g c first trail talk run =
    let hall = g.T.Talk.hall_of talk.talk in
    let laws = c.a_run_serves.ensures in
    unless-map (g.T.Talk.view_of talk.talk).end
    (TakesOff (handler.Open ∷ run.later) (path_to_come (g.T.Talk.path hall) (g.L.Link.tells first)) (g.T.Talk.rest_of talk.talk))
    (TakesOff trail (path_to_come (λ script. bursts_of (g.T.Talk.path hall script)) (g.L.Link.tells first)) (option_map (bursts_from 0) (g.T.Talk.rest_of talk.talk)))
    (bursts-took (g.T.Talk.path hall) (g.L.Link.tells first) trail run.later (g.T.Talk.rest_of talk.talk) (due (g.T.Talk.view_of talk.talk))
    run.events run.between (laws.due first (handler.Open ∷ run.later) talk.talk run.ran))
    (laws.path first (handler.Open ∷ run.later) talk.talk run.ran)

pub returns-clause-due : goal.returns-clause-due
returns-clause-due g c first trail talk run =
    bursts-due (due (g.T.Talk.view_of talk.talk)) (g.T.Talk.rest_of talk.talk)
    (c.a_run_serves.ensures.due first (handler.Open ∷ run.later) talk.talk run.ran)

pub returns-clause-steps : goal.returns-clause-steps
returns-clause-steps g c first trail talk run =
    let hall = g.T.Talk.hall_of talk.talk in
    let path = (λ (script : Script). bursts_of (g.T.Talk.path hall script)) in
    let view = g.T.Talk.view_of talk.talk in
    unless-map view.end
    (TakesOff trail (path_to_come path (g.L.Link.tells first)) (option_map (bursts_from 0) (g.T.Talk.rest_of talk.talk)))
    (StepsServed (λ script. plain_steps (path script)) (g.L.Link.tells first) trail false (unlogged view))
    (λ takes. plain-served path (g.L.Link.tells first) trail (unlogged view) (option_map (bursts_from 0) (g.T.Talk.rest_of talk.talk)) takes
    (returns-clause-due g c first trail talk run))
    (returns-clause-path g c first trail talk run)
