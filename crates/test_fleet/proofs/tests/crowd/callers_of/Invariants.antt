use Rattle.std.proofs.Common.{◌≡◌, ◌++◌, length}
use Rattle.std.specs.Vec.Iter.{into_iter_items}
use Rattle.mely_weave.specs.Dealing.{AtEach}
use Rattle.test_fleet.specs.Callers.{IsCaller}
use Rattle.test_fleet.proofs.tests.crowd.callers_of.Given as goal

abbrev pub invariant-passes : goal.invariant-passes
invariant-passes l = record {
  split : l.yielded ++ into_iter_items l.own-iterator ≡ l.fn.passes.items;
  many : length l.callers.items ≡ length l.yielded;
  each : AtEach (λ n caller. IsCaller (λ s. tt) (λ f c e l. Unit {0}) l.fleet n caller.passes caller.worker) l.callers.items;
}
