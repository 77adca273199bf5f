use denote.Param.Send.{sendable}
use Rattle.std.proofs.Crossing.{crosses}
use Rattle.sws_handlers.specs.Counting.{bit}
use Rattle.std.proofs.Common.{◌∙◌, sym, ap, refl, subst, arith}
use Rattle.mely_event.specs.declared.event.Event.{Event}
use Rattle.mely_crew.specs.Crew.{IsRegistered}
use Rattle.mely_weave.proofs.Wholes.GatherLemmas.{get_there}
use Rattle.sws_handlers.specs.declared.place.Frame.{Frame}
use Rattle.sws_engine.proofs.Crews.CrewPartsLemmas.{behind_by, told_by}
use Rattle.sws_engine.proofs.Ends.HandledLemmas.{accounted_by}
use Rattle.sws_weave.proofs.Runs.BeginLemmas.{are_first, first_fits_in}
use Rattle.mely_log.proofs.log.Log.TheSendSync as log
use Rattle.sws_handlers.proofs.logging.KeptLines.TheSendSync as lines
use Rattle.sws_handlers.proofs.place.Role.TheSendSync as role
use Rattle.sws_engine.proofs.threads.run_places.Goals as goal

pub run_lent-requires-send-S : goal.run_lent-requires-send-S
run_lent-requires-send-S g c κs within =
    let world = c.type_bounds.send-W in
    let talk = c.type_bounds.send-T in
    let link = c.type_bounds.send-W-Link in
    let hall = c.type_bounds.send-T-Hall in
    search (crosses, sendable, log.the_send, lines.the_send, role.the_send) depth 60 fits 20000

pub run_lent-requires-clause-first : goal.run_lent-requires-clause-first
run_lent-requires-clause-first g c = λ _ _. are_first g.T.Talk c.args.world c.requires.set.first.0 c.args.total c.args.log _ _ _ c.requires.set.first.1 c.requires.set.colours (λ s. refl) (λ s. refl) (λ s. refl)

pub run_lent-requires-clause-fits : goal.run_lent-requires-clause-fits
run_lent-requires-clause-fits g c = λ _ _ state at.
    let initial = (c.requires.set.first.1.each 0 state at).initial in
    first_fits_in g.W.World g.W.Link.Link g.T.Talk state.hall state.first c.args.world c.args.total c.args.log c.args.setup.now c.args.setup.now c.first_event.result initial.world refl c.requires.set.colours c.requires.set.handlers c.requires.set.total c.requires.set.none c.first_event.ensures

pub run_lent-requires-clause-served : goal.run_lent-requires-clause-served
run_lent-requires-clause-served g c = λ _ _ state at.
    let colours = c.requires.set.colours in
    let app = c.new-app.ensures.total in
    let logs = ap bit c.new-app.ensures.log in
    let few = c.requires.few in
    let initial = (c.requires.set.first.1.each 0 state at).initial in
    record {
      colours = omega (arith, colours, app, logs);
      handlers = c.requires.set.handlers;
      serves = (ap (λ w. (g.W.World.tells w).total) initial.world ∙ c.requires.set.total ∙ sym app, omega (arith, few, app));
    }

pub returns-in-Ok-clause-of_world : goal.returns-in-Ok-clause-of_world
returns-in-Ok-clause-of_world g c =
    let many = c.requires.set.first.1.many in
    let state = get_there c.args.states.now.items 0 (omega (arith, many)) in
    let initial = (c.requires.set.first.1.each 0 state.0 state.1).initial in
    ap (λ (f : Frame _ _). f.first) (c.in-Ok.ensures.framed state.0 state.1) ∙ initial.world

pub returns-in-Ok-clause-of_hall : goal.returns-in-Ok-clause-of_hall
returns-in-Ok-clause-of_hall g c = λ hall first.
    let many = first.many in
    let state = get_there c.args.states.now.items 0 (omega (arith, many)) in
    let made = first.each 0 state.0 state.1 in
    ap (λ (f : Frame _ _). f.hall) (c.in-Ok.ensures.framed state.0 state.1) ∙ made.hall_is

pub returns-in-Ok-clause-begun : goal.returns-in-Ok-clause-begun
returns-in-Ok-clause-begun g c = subst (λ (event : Event). IsRegistered (record { 0 = 0 }) event c.in-Ok.ran.0) c.first_event.ensures c.in-Ok.ensures.begun

pub returns-in-Ok-clause-accounted : goal.returns-in-Ok-clause-accounted
returns-in-Ok-clause-accounted g c = accounted_by _ _ _ _ _ _ _ _ _ _ c.new-app.result _ _ c.in-Ok.ensures.accounted c.first_event.ensures c.new-app.ensures.total c.new-app.ensures.log

pub returns-in-Ok-clause-told : goal.returns-in-Ok-clause-told
returns-in-Ok-clause-told g c = told_by _ _ _ _ _ _ _ _ _ _ _ c.new-app.result _ _ c.in-Ok.ensures.told c.first_event.ensures c.new-app.ensures.total c.new-app.ensures.log

pub returns-in-Ok-clause-gated : goal.returns-in-Ok-clause-gated
returns-in-Ok-clause-gated g c = behind_by _ _ _ _ _ _ _ _ _ _ _ c.in-Ok.ran.1 _ c.new-app.result _ _ c.in-Ok.ensures.gated c.first_event.ensures c.new-app.ensures.total c.new-app.ensures.log
