use Rattle.std.specs.Prelude.{◌≡◌}
use Rattle.mely_kept.specs.Frames.{shard_frame}
use Rattle.mely_fleet.specs.Fleets.{ArePasses}
use Rattle.measure.proofs.fleet.crew.post_all.Given as goal

abbrev pub invariant-colours : goal.invariant-colours
invariant-colours g l = record {
  passes : ArePasses (shard_frame (λ s. tt)) l.fleet l.outside;
  number : l.outside.number ≡ l.fn.outside.number;
}
