use Rattle.test_fleet.specs.Callers.{IsOpen}
use Rattle.test_fleet.proofs.tests.stress.work_rounds.Given as goal

abbrev pub invariant-rounds : goal.invariant-rounds
invariant-rounds g l = IsOpen (λ s. tt) (λ f c e l. Unit {0}) l.setup l.opened.room l.opened.fleet l.opened.callers.items
