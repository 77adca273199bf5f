use Rattle.std.proofs.Common.{◌≡◌, ◌<◌, ◌∙◌, ℕ, List, ap, subst, sym}
use Rattle.std.specs.List.{AllByRecursion}
use Rattle.mely_net.specs.declared.asked.Asked.{Asked}
use Rattle.mely_net.specs.Lines.{IsWhose}
use Rattle.example_redis.specs.declared.limits.TheConstants.{CELLS}
use Rattle.example_redis.specs.declared.reply.Reply.{Reply}
use Rattle.example_redis.specs.declared.request.Request.{Request}
use Rattle.example_redis.specs.declared.request.Timed.{Timed}
use Rattle.example_redis.specs.Asking.{Several, asks_timed, plan_in}
use Rattle.example_redis.specs.Values.{Wish}
use Rattle.example_redis.proofs.TimeLemmas.{all_at, all_there, same_asks}
use Rattle.example_redis.proofs.store.time.Goals as goal

pub returns-in_ok-time_all-in-Each-clause-plan : goal.returns-in_ok-time_all-in-Each-clause-plan
returns-in_ok-time_all-in-Each-clause-plan c =
    ap (λ (l : List (ℕ × Timed)). Several (asks_timed l) c.in-Each.reply) c.in_ok-time_all-in-Each.ensures
    ∙ ap (λ (l : List (ℕ × Wish)). Several l c.in-Each.reply) (same_asks c.args.now c.in-Each.asks.items)
    ∙ sym (ap plan_in c.in-Each.is)

pub returns-in_ok-time_all-in-Each-clause-now : goal.returns-in_ok-time_all-in-Each-clause-now
returns-in_ok-time_all-in-Each-clause-now c = subst (λ (l : List (ℕ × Timed)). AllByRecursion (λ ask. ask.1.now ≡ c.args.now) l) (sym c.in_ok-time_all-in-Each.ensures) (all_at c.args.now c.in-Each.asks.items)

pub returns-in_ok-time_all-in-Each-clause-there : goal.returns-in_ok-time_all-in-Each-clause-there
returns-in_ok-time_all-in-Each-clause-there c there = subst (λ (l : List (ℕ × Timed)). AllByRecursion (λ ask. ask.0 < CELLS) l) (sym c.in_ok-time_all-in-Each.ensures) (all_there c.args.now c.in-Each.asks.items (subst (λ (asked : Asked Request Reply). IsWhose CELLS asked) c.in-Each.is there))
