use Rattle.example_redis.specs.Values.{deed_of_change}
use Rattle.example_redis.proofs.StoreLemmas.{put_back, served}
use Rattle.example_redis.proofs.store.make.Goals as goal

pub returns : goal.returns
returns c = let taken = (rw c.as_slice.ensures.value at c.take_out-before.ensures.puts) in
    let was = (rw c.as_slice.ensures.value at c.take_out-before.ensures.value) in
    served c.args.now c.args.key.items (deed_of_change c.args.change) c.args.values.now _ _ c.in_ok-value.field-0 was c.in_ok-value.ensures.turn c.in_ok-value.ensures.counted
    (put_back c.args.key.items c.args.values.now _ _ _ taken c.in_ok-put_in.ensures)
