use Rattle.std.proofs.Common.{Some}
use Rattle.example_redis.proofs.StoreLemmas.{puts_at}
use Rattle.example_redis.proofs.store.put_in.Goals as goal

pub returns-in_ok-insert : goal.returns-in_ok-insert
returns-in_ok-insert c = rw c.in-Some.is (puts_at c.args.key.items c.args.values.now c.insert.new.self (Some c.in-Some.value) c.in_ok-insert.ensures.updates)
