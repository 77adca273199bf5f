use Rattle.mely_weave.specs.Making.{AreInitialBelow}
use Rattle.test_fleet.specs.declared.tests.sowing.Sown.{Sown}
use Rattle.test_fleet.proofs.tests.sowing.sown_states.Given as goal

abbrev pub invariant-colours : goal.invariant-colours
invariant-colours l = AreInitialBelow (λ (s : Sown). s.log.colour) (λ (s : Sown). s.log.events) l.colour l.states.items
