use Rattle.std.proofs.Common.{◌≡◌, ℕ, [], ◌∷◌, ◌++◌, ap, rules}
use Rattle.std.specs.Prelude.{codes}
use Rattle.example_redis.proofs.ReplyLemmas.{put_behind, put_twice}
use Rattle.example_redis.proofs.reply.write_no_word.Goals as goal

pub returns : goal.returns
returns c = put_behind _ c.args.out.now.items _ _ _ _ _
    (put_twice c.args.out.now.items _ _ _ (c.shown.result ∷ []) c.in_ok-put.ensures (let behind : c.push.new.self.items ≡ c.put.new.out.items ++ c.shown.result ∷ [] = search rules in behind))
    c.put-2.ensures (ap (λ (byte : ℕ). codes "expected '$', got '" ++ byte ∷ codes "'") c.shown.ensures)
