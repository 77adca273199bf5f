use Rattle.std.proofs.Common.{◌==◌, ◌∷◌, ◌∙◌, List, Vec, ap, map, sym}
use Rattle.std.specs.Global.{Global}
use Rattle.std.specs.Prelude.{ℕ}
use Rattle.example_redis.specs.Asking.{plan_of_one}
use Rattle.example_redis.proofs.AskingLemmas.{some_more}
use Rattle.example_redis.proofs.asking.ask_one.Goals as goal

pub returns-else-is_empty : goal.returns-else-is_empty
returns-else-is_empty c =
    let key = c.in-Some.key in
    let value = c.in-Some-shift.value in
    let more = c.shift-2.new.words.items in
    let all = c.in-Some.ensures ∙ ap (λ (l : List (Vec ℕ Global)). key ∷ l) c.in-Some-shift.ensures in
    c.ask_with_more.ensures
    ∙ some_more c.args.verb key.items value.items more (ap (λ (n : ℕ). n == 0) (sym c.shift-2.new.words.ok.0) ∙ sym c.is_empty.ensures ∙ c.if-is_empty.false)
    ∙ sym (ap (λ (l : List (Vec ℕ Global)). plan_of_one c.args.verb (map (λ word. word.items) l)) all)
