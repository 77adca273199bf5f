use Rattle.std.proofs.Common.{None, ap, ◌∙◌}
use Rattle.example_redis.specs.Lives.{entry_in, there_at}
use Rattle.example_redis.proofs.StoreLemmas.{puts_at}
use Rattle.example_redis.proofs.store.take_out.Goals as goal

pub returns : goal.returns
returns c = record {
  value = c.alive.ensures ∙ ap (λ value. there_at c.args.now (entry_in value)) c.remove.ensures.value;
  puts = puts_at c.args.key.now c.args.values.now c.remove.new.self None c.remove.ensures.updates;
}
