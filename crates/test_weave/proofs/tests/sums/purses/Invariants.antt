use Rattle.std.proofs.Common.{ℕ}
use Rattle.mely_event.specs.declared.logged.Logged.{Logged}
use Rattle.mely_weave.specs.Making.{AreInitialBelow}
use Rattle.test_weave.proofs.tests.sums.purses.Given as goal

abbrev pub invariant-colours : goal.invariant-colours
invariant-colours l = AreInitialBelow (λ (s : Logged ℕ). s.log.colour) (λ (s : Logged ℕ). s.log.events) l.colour l.states.items
