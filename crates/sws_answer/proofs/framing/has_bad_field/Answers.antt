use Rattle.std.proofs.Common.{sym, ◌∙◌}
use Rattle.sws_answer.specs.Framing.{is_bad_field}
use Rattle.sws_answer.proofs.FieldLemmas.{drop_from, list_any-true, list_any-false}
use Rattle.sws_answer.proofs.framing.has_bad_field.Goals as goal

pub returns-then-is_bad : goal.returns-then-is_bad
returns-then-is_bad c =
    sym (list_any-true is_bad_field _ _ _ (drop_from c.args.request.now.fields c.loop-i.i _ c.field.ensures) (sym c.is_bad.ensures ∙ c.if-is_bad.true)) ∙ c.loop-i.invariant

pub loop-i-preserved : goal.loop-i-preserved
loop-i-preserved c =
    sym (list_any-false is_bad_field _ _ _ (drop_from c.args.request.now.fields c.loop-i.i _ c.field.ensures) (sym c.is_bad.ensures ∙ c.if-is_bad.false)) ∙ c.loop-i.invariant
