use Rattle.std.proofs.Common.{◌≡◌}
use Rattle.mely_fleet.specs.Fleets.{ArePasses}
use Rattle.mely_kept.specs.Frames.{shard_frame}
use Rattle.test_fleet.proofs.tests.calls.all_answer.Given as goal

abbrev pub invariant-calls : goal.invariant-calls
invariant-calls g l = record {
  zero : ArePasses (shard_frame (λ s. tt)) l.fleet l.zero;
  one : ArePasses (shard_frame (λ s. tt)) l.fleet l.one;
  two : ArePasses (shard_frame (λ s. tt)) l.fleet l.two;
  numbers : (l.zero.number ≡ l.fn.zero.number) × (l.one.number ≡ l.fn.one.number);
}
