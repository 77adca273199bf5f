use Rattle.std.proofs.lemmas.Result.{IfOk-weaker}
use Rattle.example_store.proofs.ServedLemmas.{are_served}
use Rattle.example_store.proofs.serving.serve.Goals as goal

pub returns : goal.returns
returns g c = IfOk-weaker c.run_actors.result _ _ (λ ended kept. are_served _ _ c.in-Ok-new.setup c.args.posts.items _ ended.values.items c.in-Ok-new.ensures.colours (λ colour message is. is) (λ colour received sent slot keeps. keeps) kept) c.run_actors.ensures.kept
