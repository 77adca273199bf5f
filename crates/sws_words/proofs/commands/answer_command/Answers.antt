use Rattle.std.proofs.lemmas.Result.{IfOk-weaker}
use Rattle.sws_words.proofs.CommandLemmas.{added}
use Rattle.sws_words.proofs.commands.answer_command.Goals as goal

pub returns : goal.returns
returns c =
    IfOk-weaker c.arg-2.result _ _ (λ m adds. added adds (added c.in_ok-arg.ensures c.bare.ensures c.place.ensures.rule c.place.ensures.global) c.option.ensures.rule c.option.ensures.global) c.arg-2.ensures
