use Rattle.std.proofs.Common.{ap, ◌∙◌}
use Rattle.std.proofs.lemmas.Result.{IfOk-weaker}
use Rattle.sws_words.specs.Commands.{shape_app}
use Rattle.sws_words.proofs.CommandLemmas.{added}
use Rattle.sws_words.proofs.commands.check_command.Goals as goal

pub returns : goal.returns
returns c =
    IfOk-weaker c.arg-2.result _ _ (λ m adds. added adds (c.in_ok-with_shape.ensures ∙ ap shape_app (added c.in_ok-command.ensures c.bare.ensures c.option.ensures.rule c.option.ensures.global)) c.flag.ensures.rule c.flag.ensures.global) c.arg-2.ensures
