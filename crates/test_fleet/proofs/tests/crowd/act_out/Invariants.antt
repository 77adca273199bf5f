use Rattle.test_fleet.specs.Callers.{IsOpen}
use Rattle.test_fleet.proofs.tests.crowd.act_out.Given as goal

abbrev pub invariant-stages : goal.invariant-stages
invariant-stages g l = IsOpen (λ s. tt) (λ f c e l. Unit {0}) l.setup l.opened.room l.opened.fleet l.opened.callers.items
