use denote.Param.Send.{sendable}
use Rattle.std.proofs.Crossing.{crosses}
use Rattle.std.proofs.Common.{◌≡◌, ◌≤◌, ◌<◌, ◌∙◌, Some, refl, ap, sym, subst, arith}
use Rattle.std.specs.Prelude.{slice_get}
use Rattle.mely_event.proofs.trail_log.TrailLog.TheSendSync as trail
use Rattle.mely_history.specs.Setup.{colours_of}
use Rattle.mely_weave.proofs.Wholes.GatherLemmas.{get_there}
use Rattle.mely_actor.specs.declared.load.Load.TheVariants.{Posts}
use Rattle.mely_actor.specs.declared.load.Plan.{Plan}
use Rattle.mely_actor.specs.KeptState.{KeptState}
use Rattle.mely_actor.specs.Loads.{Serves}
use Rattle.mely_actor.specs.Received.{AreLeft, AreMade, AreReached}
use Rattle.mely_actor.proofs.KeptLemmas.{are_initial, kept_of}
use Rattle.mely_actor.proofs.ReachedLemmas.{none_reached, reached_in_order, reached_so_far}
use Rattle.mely_actor.proofs.StatesLemmas.{left_of, nothing_left}
use Rattle.mely_actor.proofs.running.run_values.Goals as goal
use Rattle.mely_actor.proofs.running.run_values.Goals.{After-new, In-Ok-make_states}

pub run_states-requires-send-S : goal.run_states-requires-send-S
run_states-requires-send-S g c κs within =
    let value = c.type_bounds.send-A-Value in
    let message = c.type_bounds.send-A-Message in
    search (crosses, sendable, trail.the_send) depth 60 fits 20000

-- the states are those of all colours
made : (g : _) (c : In-Ok-make_states g) → AreMade g.A.Actor (record { actor = c.args.actor; posts = c.args.posts }) (colours_of c.args.setup.now) c.in-Ok-make_states.states.items
made g c = subst (λ n. AreMade g.A.Actor (record { actor = c.args.actor; posts = c.args.posts }) n c.in-Ok-make_states.states.items) (c.requires.begun.many ∙ sym c.requires.colours) c.in-Ok-make_states.ensures.made

pub run_states-requires-clause-first : goal.run_states-requires-clause-first
run_states-requires-clause-first g c = λ lifetimes outlives. are_initial g.A.Actor _ (λ s. refl) (λ s. refl) (λ s. refl) (record { actor = c.args.actor; posts = c.args.posts }) c.args.setup.now c.in-Ok-make_states.states.items (made g (goal.at.run_states-requires-clause-first g c).In-Ok-make_states)

pub run_states-requires-clause-served : goal.run_states-requires-clause-served
run_states-requires-clause-served g c = λ lifetimes outlives state at.
    let of_plan = (c.in-Ok-make_states.ensures.made.each 0 state at).of_plan in
    let colours = c.requires.colours in
    record {
      colours = omega (arith, colours);
      handlers = c.requires.rows;
      serves = subst (λ (p : Plan g.row.A.Denot g.row.A-Message.Denot). Serves (g.A.Actor.colours_of c.args.actor) (g.A.Actor.rows_of c.args.actor) g.A.Actor.event_of (g.A.Actor.sound c.args.actor) c.args.actor p) (sym of_plan) (record { same = refl; library = c.requires.own; may = c.requires.posts });
    }

pub run_states-requires-clause-fits : goal.run_states-requires-clause-fits
run_states-requires-clause-fits g c = λ lifetimes outlives state at.
    let of_plan = (c.in-Ok-make_states.ensures.made.each 0 state at).of_plan in
    let some : 1 ≤ colours_of c.args.setup.now = c.args.setup.now.colours_in.0 in
    let rows = c.requires.rows in
    let colours = c.requires.colours in
    let own = c.requires.own in
    record {
      colour = some;
      handler = omega (arith, rows, own);
      load = record {
        there = subst (λ (p : Plan g.row.A.Denot g.row.A-Message.Denot). 0 < g.A.Actor.colours_of p.actor) (sym of_plan) (omega (arith, some, colours));
        first = refl;
        are = c.from.ensures.0 ∙ ap (λ p. p.posts.items) (sym of_plan);
      };
    }

-- the first state, and what stays the same of all
record First (g : _) (c : In-Ok-make_states g) : Type 0 where
  state : KeptState g.row.A.Denot g.row.A-Message.Denot g.row.A-Value.Denot
  is : slice_get c.in-Ok-make_states.states.items 0 ≡ Some state
  of_plan : state.plan ≡ record { actor = c.args.actor; posts = c.args.posts }

first : (g : _) (c : In-Ok-make_states g) → First g c
first g c =
    let some : 1 ≤ colours_of c.args.setup.now = c.args.setup.now.colours_in.0 in
    let many = (made g c).many in
    let one = get_there c.in-Ok-make_states.states.items 0 (omega (arith, some, many)) in
    record { state = one.0; is = one.1; of_plan = (c.in-Ok-make_states.ensures.made.each 0 one.0 one.1).of_plan }

pub returns-then-not-are_well-clause-left : goal.returns-then-not-are_well-clause-left
returns-then-not-are_well-clause-left g c =
    let begun = first g (goal.at.returns-then-not-are_well-clause-left g c).In-Ok-make_states in
    let ran = c.in-Ok-run_states.ensures.ran in
    left_of g.A.Actor (record { actor = c.args.actor; posts = c.args.posts }) (g.A.Actor.colours_of c.args.actor) c.in-Ok-run_states.ended.states.items c.take_left.result.items c.take_left.ensures (ran.colours ∙ c.requires.colours)
    (λ i state at. (c.in-Ok-run_states.ensures.framed begun.state begun.is (record { 0 = i }) state at ∙ begun.of_plan, ran.coloured (record { 0 = i }) state at))

pub take_values-requires-clause-well : goal.take_values-requires-clause-well
take_values-requires-clause-well g c = λ number state at. c.are_well.ensures c.if-not-are_well.false number state (ap (λ l. slice_get l number) c.as_slice.ensures.value ∙ at)

pub take_left-requires-in-Err-CutShort-clause-room : goal.take_left-requires-in-Err-CutShort-clause-room
take_left-requires-in-Err-CutShort-clause-room g c =
    let begun = first g (goal.at.take_left-requires-in-Err-CutShort-clause-room g c).In-Ok-make_states in
    let part = rw c.in-Err-CutShort.field-0-is at c.in-Err-CutShort.ensures.in_part in
    let many = (part begun.state begun.is).colours in
    let colours = c.requires.colours in
    let values = c.requires.begun.many in
    let room = c.in-Ok-with_capacity.ensures.capacity in
    let len = c.len-many.ensures in
    let ok = c.args.values.ok.0 in
    omega (arith, many, colours, values, room, len, ok)

pub returns-else-not-are_well-clause-kept : goal.returns-else-not-are_well-clause-kept
returns-else-not-are_well-clause-kept g c =
    let plan : Plan g.row.A.Denot g.row.A-Message.Denot = record { actor = c.args.actor; posts = c.args.posts } in
    let begun = first g (goal.at.returns-else-not-are_well-clause-kept g c).In-Ok-make_states in
    let left = c.in-Ok-run_states.ensures in
    kept_of g.A.Actor plan c.args.setup.now _ (λ s. refl) (λ s. refl) _ (λ d event load fit. fit) _ _ (λ before event load after puts ran. ran) _ (Some (Posts c.from.result)) c.in-Ok-make_states.states.items _ c.in-Ok-run_states.ended.states.items c.take_values.result.items
    c.from.ensures.0 refl refl (made g (goal.at.returns-else-not-are_well-clause-kept g c).In-Ok-make_states) left.ran begun.state.plan begun.of_plan (left.in_order begun.state begun.is) c.take_values.ensures

pub returns-in-Err-CutShort-clause-left : goal.returns-in-Err-CutShort-clause-left
returns-in-Err-CutShort-clause-left g c =
    let begun = first g (goal.at.returns-in-Err-CutShort-clause-left g c).In-Ok-make_states in
    let part = rw c.in-Err-CutShort.field-0-is at c.in-Err-CutShort.ensures.in_part in
    let ran = part begun.state begun.is in
    left_of g.A.Actor (record { actor = c.args.actor; posts = c.args.posts }) (g.A.Actor.colours_of c.args.actor) c.in-Err-CutShort.unfinished.states.items c.take_left-in-Err-CutShort.result.items c.take_left-in-Err-CutShort.ensures (ran.colours ∙ c.requires.colours)
    (λ i state at. (ran.framed (record { 0 = i }) state at ∙ begun.of_plan, ran.coloured (record { 0 = i }) state at))

pub returns-in-Err-NotStarted-clause-left : goal.returns-in-Err-NotStarted-clause-left
returns-in-Err-NotStarted-clause-left g c = subst (AreLeft g.A.Actor c.args.actor (g.A.Actor.colours_of c.args.actor)) (sym c.new.ensures.items) (nothing_left g.A.Actor c.args.actor (g.A.Actor.colours_of c.args.actor))

-- no values are handed back
none : (g : _) (c : After-new g) → AreReached g.A.Actor c.args.actor c.args.values.items c.new.result.items
none g c = subst (AreReached g.A.Actor c.args.actor c.args.values.items) (sym c.new.ensures.items) (none_reached g.A.Actor c.args.actor c.args.values.items)

pub returns-in_default-clause-reached : goal.returns-in_default-clause-reached
returns-in_default-clause-reached g c = none g (goal.at.returns-in_default-clause-reached g c).After-new

pub returns-in_default-with_capacity-clause-reached : goal.returns-in_default-with_capacity-clause-reached
returns-in_default-with_capacity-clause-reached g c = none g (goal.at.returns-in_default-with_capacity-clause-reached g c).After-new

pub returns-in_default-make_states-clause-reached : goal.returns-in_default-make_states-clause-reached
returns-in_default-make_states-clause-reached g c = none g (goal.at.returns-in_default-make_states-clause-reached g c).After-new

pub returns-in-Err-NotStarted-clause-reached : goal.returns-in-Err-NotStarted-clause-reached
returns-in-Err-NotStarted-clause-reached g c = none g (goal.at.returns-in-Err-NotStarted-clause-reached g c).After-new

pub returns-then-not-are_well-clause-reached : goal.returns-then-not-are_well-clause-reached
returns-then-not-are_well-clause-reached g c =
    let begun = first g (goal.at.returns-then-not-are_well-clause-reached g c).In-Ok-make_states in
    reached_in_order g.A.Actor (record { actor = c.args.actor; posts = c.args.posts }) c.args.setup.now _ (λ s. refl) (λ s. refl) _ _ _ (λ before event load after puts ran. ran) _ c.args.values.items c.in-Ok-make_states.states.items _ c.in-Ok-run_states.ended.states.items c.take_left.result.items
    (colours_of c.args.setup.now) (made g (goal.at.returns-then-not-are_well-clause-reached g c).In-Ok-make_states) c.in-Ok-make_states.ensures.values c.take_left.ensures begun.state.plan begun.of_plan (c.in-Ok-run_states.ensures.in_order begun.state begun.is)

pub returns-in-Err-CutShort-clause-reached : goal.returns-in-Err-CutShort-clause-reached
returns-in-Err-CutShort-clause-reached g c =
    let begun = first g (goal.at.returns-in-Err-CutShort-clause-reached g c).In-Ok-make_states in
    let order = rw c.in-Err-CutShort.field-0-is at c.in-Err-CutShort.ensures.order_so_far in
    reached_so_far g.A.Actor (record { actor = c.args.actor; posts = c.args.posts }) c.args.setup.now _ (λ s. refl) (λ s. refl) _ _ _ (λ before event load after puts ran. ran) _ c.args.values.items c.in-Ok-make_states.states.items _ c.in-Err-CutShort.unfinished.states.items c.take_left-in-Err-CutShort.result.items
    (colours_of c.args.setup.now) (made g (goal.at.returns-in-Err-CutShort-clause-reached g c).In-Ok-make_states) c.in-Ok-make_states.ensures.values c.take_left-in-Err-CutShort.ensures _ _ begun.state.plan begun.of_plan (order begun.state begun.is)
