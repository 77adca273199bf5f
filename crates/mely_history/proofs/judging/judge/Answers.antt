use Rattle.std.proofs.Common.{◌+◌, take, refl, sym, subst}
use Rattle.std.proofs.lemmas.Option.{slice_get-get_or}
use Rattle.mely_history.specs.Judging.{IsColourFault, HasColour}
use Rattle.mely_history.proofs.LegalLemmas.{legal_whole}
use Rattle.mely_history.proofs.JudgeLemmas.{IsJudged, entry_at, first_entry, judged_same, judged_past, judged_next, judged_all}
use Rattle.mely_history.proofs.judging.judge.Goals as goal
use Rattle.mely_history.proofs.judging.judge.Goals.{then-at-until+then-not-occurs_in, else-at-until, else-at-until-via-then-at-until+else-not-occurs_in, else-at-until-via-else-at-until}

pub loop-at-preserved : goal.loop-at-preserved
loop-at-preserved c =
    let setup = c.args.setup.now in
    let history = c.args.history.now in
    let at = c.loop-at.at in
    let there = slice_get-get_or history at first_entry c.loop-at-test.true in
    let own = c.colour-colour.ensures in
    elim c.if-at-until.branch [
      | then-at-until+then-not-occurs_in w ↦
          subst (IsJudged setup history (at + 1)) (sym w.until-is)
          (judged_next setup history at c.loop-at.until w.first_fault-until.result (entry_at history at) there (subst (λ k. IsColourFault setup history k c.loop-at.until w.first_fault-until.result) own w.first_fault-until.ensures) c.loop-at.invariant)
      | else-at-until w ↦ subst (IsJudged setup history (at + 1)) (sym w.until-is) (elim w.else-at-until.branch [
        | else-at-until-via-then-at-until+else-not-occurs_in w' ↦
            judged_same setup history at c.loop-at.until (entry_at history at) there (subst (λ k. HasColour k (take at history)) own (w'.if-not-occurs_in.ensures.0 refl)) c.loop-at.invariant
        | else-at-until-via-else-at-until w' ↦ judged_past setup history at c.loop-at.until w'.if-at-until.false c.loop-at.invariant
      ])
    ]

pub returns-then-until-history : goal.returns-then-until-history
returns-then-until-history c = record {
  fault = c.loop-at.invariant.fault c.if-until-history.true;
  within = c.if-until-history.true;
  legal_before = judged_all c.args.setup.now c.args.history.now c.loop-at.at c.loop-at.until c.loop-at-test.false c.loop-at.invariant;
}

pub returns-else-until-history : goal.returns-else-until-history
returns-else-until-history c =
    legal_whole c.args.setup.now c.args.history.now c.loop-at.until c.if-until-history.false (judged_all c.args.setup.now c.args.history.now c.loop-at.at c.loop-at.until c.loop-at-test.false c.loop-at.invariant)
