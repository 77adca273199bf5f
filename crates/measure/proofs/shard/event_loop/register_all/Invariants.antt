use Rattle.std.proofs.Common.{◌<◌, All}
use Rattle.measure.specs.ShardLoops.{IsLoop}
use Rattle.measure.proofs.shard.event_loop.register_all.Given as goal

abbrev pub invariant-events : goal.invariant-events
invariant-events l = record {
  is : IsLoop l.shard;
  known : All (λ colour. colour < 1024) l.ready.items;
}
