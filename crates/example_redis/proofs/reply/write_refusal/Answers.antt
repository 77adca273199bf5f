use Rattle.std.proofs.Common.{ℕ, List, ◌++◌, ap}
use Rattle.std.specs.Prelude.{codes}
use Rattle.example_redis.proofs.ReplyLemmas.{put_behind}
use Rattle.example_redis.proofs.reply.write_refusal.Goals as goal

pub returns-in_ok-put-in-Unknown : goal.returns-in_ok-put-in-Unknown
returns-in_ok-put-in-Unknown c = put_behind _ c.args.out.now.items _ _ _ _ _ c.in_ok-put-in-Unknown.ensures c.put-in-Unknown.ensures (rw c.in-Unknown.is (ap (λ (words : List ℕ). codes "unknown command " ++ words) c.as_slice.ensures.value))
