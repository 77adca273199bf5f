use Rattle.std.proofs.Common.{ap, ◌∙◌}
use Rattle.std.proofs.lemmas.Result.{IfOk-weaker}
use Rattle.sws_words.specs.Commands.{shape_app}
use Rattle.sws_words.proofs.CommandLemmas.{added}
use Rattle.sws_words.proofs.commands.bench_command.Goals as goal

pub returns : goal.returns
returns c =
    IfOk-weaker c.with_shape.result _ _ (λ m e. e ∙ ap shape_app (added c.in_ok-command.ensures (added c.in_ok-arg.ensures c.bare.ensures c.place.ensures.rule c.place.ensures.global) c.place-2.ensures.rule c.place-2.ensures.global)) c.with_shape.ensures
