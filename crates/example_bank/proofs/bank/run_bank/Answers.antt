use Rattle.std.proofs.lemmas.Result.{IfOk-weaker}
use Rattle.example_bank.proofs.PaymentLemmas.{are_balanced}
use Rattle.example_bank.proofs.bank.run_bank.Goals as goal

pub returns : goal.returns
returns g c = IfOk-weaker c.run_actors.result _ _ (λ ended kept. are_balanced _ _ c.in-Ok-new.setup c.args.posts.items _ ended.values.items c.in-Ok-new.ensures.colours (λ colour received sent balance keeps. keeps) kept) c.run_actors.ensures.kept
