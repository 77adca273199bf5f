use Rattle.std.proofs.Common.{ℕ, List, ◌++◌, ap}
use Rattle.std.specs.Prelude.{codes}
use Rattle.example_redis.proofs.ReplyLemmas.{put_behind, put_twice}
use Rattle.example_redis.proofs.reply.write_about.Goals as goal

pub returns : goal.returns
returns c = put_behind _ c.args.out.now.items _ _ _ _ _
    (put_twice c.args.out.now.items _ _ _ _ c.in_ok-put.ensures c.in_ok-put-2.ensures)
    c.put-3.ensures (ap (λ (name : List ℕ). (c.args.text.now ++ name) ++ codes "' command") c.name.ensures)
