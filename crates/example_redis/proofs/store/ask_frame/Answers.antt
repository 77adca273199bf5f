use Rattle.std.proofs.Common.{ap, map, sym, ◌∙◌}
use Rattle.std.proofs.lemmas.Result.{IfOk-weaker}
use Rattle.example_redis.specs.Asking.{plan_of_saying}
use Rattle.example_redis.specs.Hearing.{said_by}
use Rattle.example_redis.proofs.PlanLemmas.{asked_there}
use Rattle.example_redis.proofs.store.ask_frame.Goals as goal

pub returns-in-Words-clause-asks : goal.returns-in-Words-clause-asks
returns-in-Words-clause-asks c = IfOk-weaker c.ask.result _ _ (λ asked is. is ∙ ap plan_of_saying (sym (ap said_by c.in-Words.is) ∙ c.in_ok-words.ensures)) c.ask.ensures

pub returns-in-Words-clause-there : goal.returns-in-Words-clause-there
returns-in-Words-clause-there c = IfOk-weaker c.ask.result _ _ (λ asked is. asked_there asked (map (λ word. word.items) c.in-Words.words.items) is) c.ask.ensures
