use Rattle.std.proofs.Common.{◌∷◌, ◌∙◌, ◌-◌, inl, inr, sym, ap, subst, arith, true≢false}
use Rattle.sws_steps.specs.declared.Handler.TheVariants as handler
use Rattle.sws_steps.specs.Path.{due_after}
use Rattle.sws_steps.specs.Talks.{HasNoStep, due}
use Rattle.sws_burst.specs.Bursts.{is_quiet, is_ready}
use Rattle.sws_burst.proofs.BurstLemmas.{Bursting, burst-began, burst-goes-on, burst-ran, no-step, not-at-once}
use Rattle.sws_burst.proofs.bursts.BurstsTalk.step.Goals as goal

pub steps-init : goal.steps-init
steps-init g c = record {
  few = omega arith;
  told = c.step-next.ensures.told;
  nothing = λ none. ap (λ talk. record { talk = talk }) (c.step-next.ensures.nothing none);
  hall = c.step-next.ensures.hall;
  ended = c.step-next.ensures.ended;
  ran = λ first steps event ran is_due. burst-began g.T.Talk.has_run first steps event c.step-next.new.self (c.step-next.ensures.runs first steps event ran is_due);
}

pub steps-preserved : goal.steps-preserved
steps-preserved g c = record {
  few = omega (arith, c.steps.invariant.few);
  told = c.step-next-in-steps.ensures.told;
  nothing = λ none. absurd (true≢false (c.if-goes_on.ensures ∙ ap is_ready c.steps.invariant.told
      ∙ no-step (g.T.Talk.view_of c.steps.self.talk).waiting (g.T.Talk.view_of c.steps.self.talk).pending
      (subst (λ self. HasNoStep (g.T.Talk.view_of self.talk).pending) (sym (c.steps.invariant.nothing none)) none)));
  hall = c.step-next-in-steps.ensures.hall ∙ c.steps.invariant.hall;
  ended = λ end is. c.step-next-in-steps.ensures.ended end (c.steps.invariant.ended end is);
  ran = λ first steps event ran is_due.
      burst-goes-on g.T.Talk.has_run first steps event c.steps.self.talk c.step-next-in-steps.new.self (c.steps.left - 1) c.steps.next
      (sym (c.if-goes_on.ensures))
      (subst (Bursting g.T.Talk.has_run first steps event c.steps.self.talk) (omega (arith, c.steps-test.true)) (c.steps.invariant.ran first steps event ran is_due))
      (λ trail next_event ran_so next_is. c.step-next-in-steps.ensures.runs first trail next_event ran_so (ap due_after (sym c.steps.invariant.told) ∙ next_is));
}

pub returns-else-goes_on-clause-runs : goal.returns-else-goes_on-clause-runs
returns-else-goes_on-clause-runs g c first trail event ran is_due =
    burst-ran g.T.Talk.has_run (λ talk. due (g.T.Talk.view_of talk)) first trail event c.args.self.now.talk c.steps.self.talk c.steps.left ran is_due
    (c.steps.invariant.ran first (handler.Open ∷ ran.later) event ran.ran is_due)
    (inr (ap (λ n. is_quiet (due_after n)) (sym c.steps.invariant.told)
    ∙ not-at-once c.steps.next (sym (c.if-goes_on.ensures))))

pub returns-after-steps-clause-runs : goal.returns-after-steps-clause-runs
returns-after-steps-clause-runs g c first trail event ran is_due =
    burst-ran g.T.Talk.has_run (λ talk. due (g.T.Talk.view_of talk)) first trail event c.args.self.now.talk c.steps.self.talk c.steps.left ran is_due
    (c.steps.invariant.ran first (handler.Open ∷ ran.later) event ran.ran is_due)
    (inl (omega (arith, c.steps-test.false)))
