use Rattle.std.proofs.Common.{◌≡◌, ◌∷◌, ◌++◌, ◌∙◌, ℕ, ◌-◌, ◌+◌, Bool, false, [], inl, inr, refl, sym, ap, subst, arith, true≢false}
use Rattle.sws_steps.specs.Logs.{bit}
use Rattle.sws_steps.specs.Path.{due_after}
use Rattle.sws_steps.specs.Talks.{HasNoStep}
use Rattle.sws_burst.specs.Bursts.{is_quiet, is_ready}
use Rattle.sws_burst.specs.LoggedBursts.{first_of}
use Rattle.sws_burst.proofs.BurstLemmas.{no-step, not-at-once}
use Rattle.sws_burst.proofs.LoggedLemmas.{Going, burst-begun, burst-goes, burst-over}
use Rattle.sws_burst.proofs.logged.LoggedBurstsTalk.step.Goals as goal

-- behind a step that gave no line
lines-on : (before between after : ℕ) (told told_now : Bool) → after ≡ between + bit told_now → between ≡ before + bit told → told ≡ false
    → after ≡ before + bit told_now
lines-on before between after told told_now more so_far untold =
    let same : before + bit told ≡ before = ap (λ b. before + bit b) untold ∙ omega arith in
    more ∙ ap (λ n. n + bit told_now) (so_far ∙ same)

pub steps-init : goal.steps-init
steps-init g c = record {
  few = omega arith;
  told = c.step-next.ensures.told;
  nothing = λ none. ap (λ talk. record { talk = talk; first = c.args.self.now.first }) (c.step-next.ensures.nothing none);
  hall = c.step-next.ensures.hall;
  ended = c.step-next.ensures.ended;
  lines = c.step-next.ensures.lines;
  first = refl;
  ran = λ first trail event is_due ran.
      burst-begun g.L.Link g.T.Talk first
      (record { path = c.a_run_serves.ensures.path; due_is = c.a_run_serves.ensures.due; steps = c.a_run_serves.ensures.steps; steps_are = g.met.T.Talk.steps_are })
      trail event c.args.self.now.talk c.step-next.new.self
      (record { hall = c.step-next.ensures.hall; ended = c.step-next.ensures.ended; runs = λ before ran_so. c.step-next.ensures.runs first before event ran_so is_due })
      is_due ran;
}

pub steps-preserved : goal.steps-preserved
steps-preserved g c =
    let untold : g.T.Talk.told c.steps.self.talk ≡ false = sym c.answered.ensures.told ∙ c.if-is_none.ensures in
    record {
      few = omega (arith, c.steps.invariant.few);
      told = c.step-next-in-steps.ensures.told;
      nothing = λ none. absurd (true≢false (c.if-goes_on.ensures ∙ ap is_ready c.steps.invariant.told
          ∙ no-step (g.T.Talk.view_of c.steps.self.talk).waiting (g.T.Talk.view_of c.steps.self.talk).pending
          (subst (λ self. HasNoStep (g.T.Talk.view_of self.talk).pending) (sym (c.steps.invariant.nothing none)) none)));
      hall = c.step-next-in-steps.ensures.hall ∙ c.steps.invariant.hall;
      ended = λ end is. c.step-next-in-steps.ensures.ended end (c.steps.invariant.ended end is);
      lines = lines-on _ (g.T.Talk.view_of c.steps.self.talk).lines (g.T.Talk.view_of c.step-next-in-steps.new.self).lines (g.T.Talk.told c.steps.self.talk)
          (g.T.Talk.told c.step-next-in-steps.new.self) c.step-next-in-steps.ensures.lines c.steps.invariant.lines untold;
      first = c.steps.invariant.first;
      ran = λ first trail event is_due ran.
          burst-goes g.L.Link g.T.Talk first
          (record { path = c.a_run_serves.ensures.path; due_is = c.a_run_serves.ensures.due; steps = c.a_run_serves.ensures.steps; steps_are = g.met.T.Talk.steps_are })
          (trail ++ event ∷ []) c.steps.self.talk c.step-next-in-steps.new.self (c.steps.left - 1) c.steps.next
          (sym (c.if-goes_on.ensures)) untold
          (λ next_event next_is. record {
            hall = c.step-next-in-steps.ensures.hall;
            ended = c.step-next-in-steps.ensures.ended;
            runs = λ before ran_so. c.step-next-in-steps.ensures.runs first before next_event ran_so (ap due_after (sym c.steps.invariant.told) ∙ next_is);
          })
          (subst (Going g.L.Link g.T.Talk first (trail ++ event ∷ []) c.steps.self.talk) (omega (arith, c.steps-test.true)) (c.steps.invariant.ran first trail event is_due ran));
    }

pub returns-else-is_none-clause-runs : goal.returns-else-is_none-clause-runs
returns-else-is_none-clause-runs g c first trail event ran is_due = record {
  given_is = ap first_of c.steps.invariant.first ∙ ran.given_is;
  ran = burst-over g.L.Link g.T.Talk first (trail ++ event ∷ []) c.steps.self.talk c.steps.left
      (inl (sym c.answered.ensures.told ∙ c.if-is_none.ensures))
      (c.steps.invariant.ran first trail event is_due ran.ran);
}

pub returns-else-goes_on-clause-runs : goal.returns-else-goes_on-clause-runs
returns-else-goes_on-clause-runs g c first trail event ran is_due = record {
  given_is = ap first_of c.steps.invariant.first ∙ ran.given_is;
  ran = burst-over g.L.Link g.T.Talk first (trail ++ event ∷ []) c.steps.self.talk c.steps.left
      (inr (inr (ap (λ n. is_quiet (due_after n)) (sym c.steps.invariant.told) ∙ not-at-once c.steps.next (sym (c.if-goes_on.ensures)))))
      (c.steps.invariant.ran first trail event is_due ran.ran);
}

pub returns-after-steps-clause-runs : goal.returns-after-steps-clause-runs
returns-after-steps-clause-runs g c first trail event ran is_due = record {
  given_is = ap first_of c.steps.invariant.first ∙ ran.given_is;
  ran = burst-over g.L.Link g.T.Talk first (trail ++ event ∷ []) c.steps.self.talk c.steps.left
      (inr (inl (omega (arith, c.steps-test.false))))
      (c.steps.invariant.ran first trail event is_due ran.ran);
}
