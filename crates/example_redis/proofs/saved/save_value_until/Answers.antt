use Rattle.example_redis.proofs.SavedLemmas.{timed_set}
use Rattle.example_redis.proofs.saved.save_value_until.Goals as goal

pub returns : goal.returns
returns c = timed_set c.save_time.result c.args.out.now.items _ _ c.args.key.now c.args.bytes.now c.args.until c.in_ok-begin_set.ensures c.save_time.ensures
