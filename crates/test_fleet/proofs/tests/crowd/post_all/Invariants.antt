use Rattle.std.proofs.Common.{◌≡◌}
use Rattle.mely_fleet.specs.Fleets.{ArePasses}
use Rattle.mely_kept.specs.Frames.{shard_frame}
use Rattle.test_fleet.proofs.tests.crowd.post_all.Given as goal

abbrev pub invariant-posts : goal.invariant-posts
invariant-posts g l = record {
  are : ArePasses (shard_frame (λ s. tt)) l.fleet l.own;
  number : l.own.number ≡ l.fn.own.number;
}
