use Rattle.std.proofs.Common.{ap}
use Rattle.example_redis.specs.Lives.{entry_in}
use Rattle.example_redis.proofs.StoreLemmas.{swept}
use Rattle.example_redis.proofs.store.sweep_key.Goals as goal

pub returns-then-is_gone : goal.returns-then-is_gone
returns-then-is_gone c = swept c.args.now c.args.key.now c.args.values.now c.remove.new.self _ c.is_gone.result (ap entry_in c.get.ensures.value) c.is_gone.ensures c.if-is_gone.true c.remove.ensures.updates
