use Rattle.std.proofs.Common.{refl}
use Rattle.std.proofs.lemmas.Result.{IfOk-weaker}
use Rattle.sws_words.proofs.CommandLemmas.{added}
use Rattle.sws_words.proofs.commands.with_shape.Goals as goal

pub returns : goal.returns
returns c =
    IfOk-weaker c.arg-5.result _ _ (λ m adds. added adds (added c.in_ok-arg-4.ensures (added c.in_ok-arg-3.ensures (added c.in_ok-arg-2.ensures (added c.in_ok-arg.ensures refl c.option.ensures.rule c.option.ensures.global) c.option-2.ensures.rule c.option-2.ensures.global) c.option-3.ensures.rule c.option-3.ensures.global) c.option-4.ensures.rule c.option-4.ensures.global) c.option-5.ensures.rule c.option-5.ensures.global) c.arg-5.ensures
