use Rattle.std.proofs.Common.{ap}
use Rattle.std.specs.Prelude.{Err, Ok, Result, IfOk}
use Rattle.example_redis.specs.Lives.{entry_in}
use Rattle.example_redis.proofs.StoreLemmas.{looked}
use Rattle.example_redis.proofs.store.look_at.Goals as goal

both : {A E : Type 0} {One Two Three : A → Type 0} (answer : Result A E) → ((one : A) → One one → Two one → Three one) → IfOk answer One → IfOk answer Two → IfOk answer Three
both (Ok one) then one_is two_is = then one one_is two_is
both (Err error) then one_is two_is = tt

pub returns : goal.returns
returns c = both c.look.result (λ answer says counted. looked c.args.now c.args.key.now c.args.question c.args.values.now c.sweep_key.new.values _ answer c.sweep_key.ensures (ap entry_in c.get.ensures.value) says counted) c.look.ensures.reply c.look.ensures.counted
