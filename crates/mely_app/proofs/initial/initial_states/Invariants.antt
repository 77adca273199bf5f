use Rattle.mely_app.proofs.InitialLemmas.{AreInitialStates}
use Rattle.mely_app.proofs.initial.initial_states.Given as goal

abbrev pub invariant-colours : goal.invariant-colours
invariant-colours g l = AreInitialStates g.S.Trail g.S.Initial.initial_frame l.colour l.states.items
