use Rattle.std.proofs.Common.{◌<◌, All}
use Rattle.measure.specs.ShardLoops.{IsLoop}
use Rattle.measure.proofs.shard.event_loop.run.Given as goal

abbrev pub invariant-turns : goal.invariant-turns
invariant-turns l = record {
  is : IsLoop l.shard;
  known : All (λ colour. colour < 1024) l.ready.items;
}
