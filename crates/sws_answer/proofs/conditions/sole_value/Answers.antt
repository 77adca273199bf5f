use Rattle.std.proofs.Common.{◌+◌, List, ℕ, Option, Bor, drop, sym, ap, ◌∙◌}
use Rattle.std.specs.Option.{option_copied}
use Rattle.std.specs.List.{cons_option}
use Rattle.sws_answer.specs.Fields.{values_of}
use Rattle.sws_answer.specs.Conditions.{one_of}
use Rattle.sws_answer.proofs.FieldLemmas.{drop_from, one_of-second, one_of-first, one_of-other, is_some-copied}
use Rattle.sws_answer.proofs.conditions.sole_value.Goals as goal
use Rattle.sws_answer.proofs.conditions.sole_value.Goals.{then-is_same_word+else-is_some, else-is_same_word}

pub returns-then-is_some : goal.returns-then-is_some
returns-then-is_some c =
    sym (one_of-second c.args.name.now (option_copied c.loop-i.found) _ _ _ (drop_from c.args.request.now.fields c.loop-i.i _ c.field.ensures)
    (sym c.is_same_word.ensures ∙ c.if-is_same_word.true) (is_some-copied c.loop-i.found ∙ sym c.is_some.ensures ∙ c.if-is_some.true))
    ∙ c.loop-i.invariant

pub loop-i-preserved : goal.loop-i-preserved
loop-i-preserved c =
    let rest : List (List ℕ × List ℕ) = drop (c.loop-i.i + 1) c.args.request.now.fields in
    let kept = λ (found : Option (Bor (List ℕ))). one_of (cons_option (option_copied found) (values_of c.args.name.now rest)) in
    elim c.if-is_same_word.branch [
      | then-is_same_word+else-is_some w ↦ (
          ap kept w.found-is
          ∙ sym (one_of-first c.args.name.now (option_copied c.loop-i.found) _ _ _ (drop_from c.args.request.now.fields c.loop-i.i _ c.field.ensures)
          (sym c.is_same_word.ensures ∙ w.if-is_same_word.true) (is_some-copied c.loop-i.found ∙ sym w.is_some.ensures ∙ w.if-is_some.false))
          ∙ c.loop-i.invariant)
      | else-is_same_word w ↦ (
          ap kept w.found-is
          ∙ sym (one_of-other c.args.name.now (option_copied c.loop-i.found) _ _ _ (drop_from c.args.request.now.fields c.loop-i.i _ c.field.ensures)
          (sym c.is_same_word.ensures ∙ w.if-is_same_word.false))
          ∙ c.loop-i.invariant)
    ]
