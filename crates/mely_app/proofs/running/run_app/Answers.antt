use Rattle.std.proofs.Common.{◌≤◌, arith, map}
use Rattle.mely_history.specs.Setup.{colours_of}
use Rattle.mely_weave.proofs.Wholes.GatherLemmas.{get_there}
use Rattle.mely_weave.specs.Making.{AreInitial}
use Rattle.mely_app.proofs.InOrderLemmas.{if_initial}
use Rattle.mely_app.proofs.RanLemmas.{of_first}
use Rattle.mely_app.proofs.UnfinishedLemmas.{left_of_first, left_of_initial}
use Rattle.mely_app.specs.InOrder.{RanInOrder}
use Rattle.mely_app.specs.Puts.{HasPutAll}
use Rattle.mely_app.specs.RanAll.{AllFramed}
use Rattle.mely_app.specs.Unfinished.{RanInPart, HasPutInPart, RanInOrderSoFar, histories_left, waiting_left}
use Rattle.mely_app.proofs.running.run_app.Goals as goal

pub returns-clause-framed : goal.returns-clause-framed
returns-clause-framed g c =
    let first = c.in-Ok.ensures.first in
    let some : 1 ≤ colours_of c.args.setup.now = c.args.setup.now.colours_in.0 in
    let all = first.all in
    let state = get_there c.in-Ok.states.items 0 (omega (arith, some, all)) in
    of_first (λ frame ended. AllFramed g.S.Trail frame ended.states.items)
    g.S.Trail.frame_of c.in-Ok.states.items g.S.Initial.initial_frame state.0 state.1 (c.in-Ok.ensures.frame state.0 state.1) c.run_states.result c.run_states.ensures.framed

pub returns-clause-puts : goal.returns-clause-puts
returns-clause-puts g c =
    let first = c.in-Ok.ensures.first in
    let some : 1 ≤ colours_of c.args.setup.now = c.args.setup.now.colours_in.0 in
    let all = first.all in
    let state = get_there c.in-Ok.states.items 0 (omega (arith, some, all)) in
    of_first (λ frame ended. HasPutAll g.S.Trail g.S.Fits.fits_under g.A.App c.args.app.now c.args.setup.now frame (c.args.colour, c.args.event, c.args.load) (map (λ history. history.items) ended.histories.items))
    g.S.Trail.frame_of c.in-Ok.states.items g.S.Initial.initial_frame state.0 state.1 (c.in-Ok.ensures.frame state.0 state.1) c.run_states.result c.run_states.ensures.puts

pub returns-clause-in_order : goal.returns-clause-in_order
returns-clause-in_order g c =
    let first = c.in-Ok.ensures.first in
    let some : 1 ≤ colours_of c.args.setup.now = c.args.setup.now.colours_in.0 in
    let all = first.all in
    let state = get_there c.in-Ok.states.items 0 (omega (arith, some, all)) in
    if_initial (λ ended states. RanInOrder g.S.Trail g.S.Fits.fits_under g.A.App c.args.app.now c.args.setup.now g.S.Initial.initial_frame (c.args.colour, c.args.event, c.args.load) states (map (λ history. history.items) ended.histories.items) ended.states.items)
    (AreInitial g.S.Trail c.args.setup.now) c.in-Ok.states.items first c.run_states.result
    (of_first (λ frame ended. RanInOrder g.S.Trail g.S.Fits.fits_under g.A.App c.args.app.now c.args.setup.now frame (c.args.colour, c.args.event, c.args.load) c.in-Ok.states.items (map (λ history. history.items) ended.histories.items) ended.states.items)
    g.S.Trail.frame_of c.in-Ok.states.items g.S.Initial.initial_frame state.0 state.1 (c.in-Ok.ensures.frame state.0 state.1) c.run_states.result c.run_states.ensures.in_order)

pub returns-clause-in_part : goal.returns-clause-in_part
returns-clause-in_part g c =
    let first = c.in-Ok.ensures.first in
    let some : 1 ≤ colours_of c.args.setup.now = c.args.setup.now.colours_in.0 in
    let all = first.all in
    let state = get_there c.in-Ok.states.items 0 (omega (arith, some, all)) in
    left_of_first (λ frame left. RanInPart g.S.Trail g.S.Fits.fits_under c.args.setup.now frame c.args.colour c.args.event (histories_left left) left.states.items (waiting_left left) left.refused.items)
    g.S.Trail.frame_of c.in-Ok.states.items g.S.Initial.initial_frame state.0 state.1 (c.in-Ok.ensures.frame state.0 state.1) c.run_states.result c.run_states.ensures.in_part

pub returns-clause-puts_in_part : goal.returns-clause-puts_in_part
returns-clause-puts_in_part g c =
    let first = c.in-Ok.ensures.first in
    let some : 1 ≤ colours_of c.args.setup.now = c.args.setup.now.colours_in.0 in
    let all = first.all in
    let state = get_there c.in-Ok.states.items 0 (omega (arith, some, all)) in
    left_of_first (λ frame left. HasPutInPart g.S.Trail g.S.Fits.fits_under g.A.App c.args.app.now c.args.setup.now frame (c.args.colour, c.args.event, c.args.load) (histories_left left) left.refused.items)
    g.S.Trail.frame_of c.in-Ok.states.items g.S.Initial.initial_frame state.0 state.1 (c.in-Ok.ensures.frame state.0 state.1) c.run_states.result c.run_states.ensures.puts_in_part

pub returns-clause-order_so_far : goal.returns-clause-order_so_far
returns-clause-order_so_far g c =
    let first = c.in-Ok.ensures.first in
    let some : 1 ≤ colours_of c.args.setup.now = c.args.setup.now.colours_in.0 in
    let all = first.all in
    let state = get_there c.in-Ok.states.items 0 (omega (arith, some, all)) in
    left_of_initial (λ left states. RanInOrderSoFar g.S.Trail g.S.Fits.fits_under g.A.App c.args.app.now c.args.setup.now g.S.Initial.initial_frame (c.args.colour, c.args.event, c.args.load) states (histories_left left) left.states.items (waiting_left left) left.refused.items)
    (AreInitial g.S.Trail c.args.setup.now) c.in-Ok.states.items first c.run_states.result
    (left_of_first (λ frame left. RanInOrderSoFar g.S.Trail g.S.Fits.fits_under g.A.App c.args.app.now c.args.setup.now frame (c.args.colour, c.args.event, c.args.load) c.in-Ok.states.items (histories_left left) left.states.items (waiting_left left) left.refused.items)
    g.S.Trail.frame_of c.in-Ok.states.items g.S.Initial.initial_frame state.0 state.1 (c.in-Ok.ensures.frame state.0 state.1) c.run_states.result c.run_states.ensures.order_so_far)
