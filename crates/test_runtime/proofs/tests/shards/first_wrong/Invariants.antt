use Rattle.test_runtime.specs.ShardExamples.{IsExample}
use Rattle.test_runtime.proofs.tests.shards.first_wrong.Given as goal

abbrev pub invariant-calls : goal.invariant-calls
invariant-calls l = IsExample l.shard
