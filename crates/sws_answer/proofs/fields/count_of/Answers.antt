use Rattle.std.proofs.Common.{length, arith, sym, ap, ◌∙◌}
use Rattle.sws_answer.proofs.FieldLemmas.{drop_from, values_of-named, values_of-other}
use Rattle.sws_answer.proofs.fields.count_of.Goals as goal
use Rattle.sws_answer.proofs.fields.count_of.Goals.{then-is_same_word, else-is_same_word}

pub loop-i-preserved : goal.loop-i-preserved
loop-i-preserved c =
    elim c.if-is_same_word.branch [
      | then-is_same_word w ↦ (
          let step = ap length (values_of-named c.args.name.now _ _ _ (drop_from c.args.request.now.fields c.loop-i.i _ c.field.ensures) (sym c.is_same_word.ensures ∙ w.if-is_same_word.true)) in
          record { count = omega (arith, step, c.loop-i.invariant.count, w.count-is); few = let few = c.loop-i.invariant.few in omega (arith, w.count-is) })
      | else-is_same_word w ↦ (
          let step = ap length (values_of-other c.args.name.now _ _ _ (drop_from c.args.request.now.fields c.loop-i.i _ c.field.ensures) (sym c.is_same_word.ensures ∙ w.if-is_same_word.false)) in
          record { count = omega (arith, step, c.loop-i.invariant.count, w.count-is); few = let few = c.loop-i.invariant.few in omega (arith, w.count-is) })
    ]
