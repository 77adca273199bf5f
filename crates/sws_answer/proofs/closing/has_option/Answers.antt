use Rattle.std.proofs.Common.{sym, ◌∙◌}
use Rattle.sws_answer.specs.Closing.{is_option_field}
use Rattle.sws_answer.proofs.FieldLemmas.{drop_from, list_any-true, list_any-false}
use Rattle.sws_answer.proofs.closing.has_option.Goals as goal

pub returns-then-has_in_field : goal.returns-then-has_in_field
returns-then-has_in_field c =
    sym (list_any-true (is_option_field c.args.option.now) _ _ _ (drop_from c.args.request.now.fields c.loop-i.i _ c.field.ensures) (sym c.has_in_field.ensures ∙ c.if-has_in_field.true)) ∙ c.loop-i.invariant

pub loop-i-preserved : goal.loop-i-preserved
loop-i-preserved c =
    sym (list_any-false (is_option_field c.args.option.now) _ _ _ (drop_from c.args.request.now.fields c.loop-i.i _ c.field.ensures) (sym c.has_in_field.ensures ∙ c.if-has_in_field.false)) ∙ c.loop-i.invariant
