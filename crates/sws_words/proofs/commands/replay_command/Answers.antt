use Rattle.std.proofs.Common.{ap, ◌∙◌}
use Rattle.std.proofs.lemmas.Result.{IfOk-weaker}
use Rattle.sws_words.specs.Commands.{shape_app}
use Rattle.sws_words.proofs.CommandLemmas.{added}
use Rattle.sws_words.proofs.commands.replay_command.Goals as goal

pub returns : goal.returns
returns c =
    IfOk-weaker c.arg-5.result _ _ (λ m adds. added adds (added c.in_ok-arg-3.ensures (added c.in_ok-arg-2.ensures (c.in_ok-with_shape.ensures ∙ ap shape_app (added c.in_ok-command.ensures (added c.in_ok-arg.ensures c.bare.ensures c.place.ensures.rule c.place.ensures.global) c.option.ensures.rule c.option.ensures.global)) c.flag.ensures.rule c.flag.ensures.global) c.flag-2.ensures.rule c.flag-2.ensures.global) c.flag-3.ensures.rule c.flag-3.ensures.global) c.arg-5.ensures
