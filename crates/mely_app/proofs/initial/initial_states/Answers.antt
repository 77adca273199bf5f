use Rattle.std.proofs.Common.{◌+◌, sym, subst, arith, ◌≡◌}
use Rattle.mely_history.specs.Setup.{colours_of}
use Rattle.mely_app.proofs.InitialLemmas.{AreInitialStates, none_initial, more_initial, are_initial}
use Rattle.mely_app.proofs.initial.initial_states.Goals as goal

pub colours-init : goal.colours-init
colours-init g c = subst (AreInitialStates g.S.Trail g.S.Initial.initial_frame 0) (sym c.new-states.ensures.items) (none_initial g.S.Trail g.S.Initial.initial_frame)

pub colours-preserved : goal.colours-preserved
colours-preserved g c =
    subst (AreInitialStates g.S.Trail g.S.Initial.initial_frame (c.colours.colour + 1)) (sym c.in_ok-push.ensures.items) (more_initial g.S.Trail g.S.Initial.initial_frame c.colours.colour c.colours.states.items c.initial_state.result c.colours.invariant
    (record { colour = c.initial_state.ensures.colour; untouched = c.initial_state.ensures.untouched; framed = c.initial_state.ensures.frame }))

pub returns-clause-first : goal.returns-clause-first
returns-clause-first g c =
    let value = c.colours-colour-end.ensures.value in
    let ended = c.colours-test.false in
    let within = c.colours.auto.colour-end in
    let all : c.colours.colour ≡ colours_of c.args.setup.now = omega (arith, value, ended, within) in
    are_initial g.S.Trail g.S.Initial.initial_frame c.args.setup.now c.colours.states.items (subst (λ n. AreInitialStates g.S.Trail g.S.Initial.initial_frame n c.colours.states.items) all c.colours.invariant)

pub returns-clause-frame : goal.returns-clause-frame
returns-clause-frame g c = λ state at. (c.colours.invariant.each 0 state at).framed
