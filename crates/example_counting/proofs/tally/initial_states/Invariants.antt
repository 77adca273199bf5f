use Rattle.std.proofs.Common.{ℕ}
use Rattle.mely_weave.specs.Making.{AreInitialBelow}
use Rattle.mely_event.specs.declared.logged.Logged.{Logged}
use Rattle.example_counting.proofs.tally.initial_states.Given as goal

abbrev pub invariant-colours : goal.invariant-colours
invariant-colours l = AreInitialBelow (λ (s : Logged ℕ). s.log.colour) (λ (s : Logged ℕ). s.log.events) l.colour l.states.items
