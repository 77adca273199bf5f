use Rattle.std.proofs.Common.{arith, refl}
use Rattle.mely_history.specs.Legal.{IsDrained}
use Rattle.test_runtime.proofs.tests.shards.comes_apart.Goals as goal

-- src/tests.rt: a drained colour does not run
pub into_parts-history-requires : goal.into_parts-history-requires
into_parts-history-requires c =
    let drained : IsDrained c.args.shard.history = c.if-not-is_drained.ensures.0 refl in
    (λ k own runs. let rest = (drained k).at_rest in omega (arith, rest, runs))
