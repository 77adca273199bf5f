use Rattle.mely_fleet.specs.Fleets.{ArePasses}
use Rattle.mely_kept.specs.Frames.{shard_frame}
use Rattle.measure.proofs.lock.turns.reserve_often.Given as goal

abbrev pub invariant-turns : goal.invariant-turns
invariant-turns g l = ArePasses (shard_frame (λ s. tt)) l.fleet l.own
