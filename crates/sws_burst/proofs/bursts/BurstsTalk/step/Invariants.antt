use Rattle.std.specs.Prelude.{◌≡◌, ◌<◌, List, Some}
use Rattle.sws_steps.specs.declared.End.{End}
use Rattle.sws_steps.specs.declared.Handler.{Handler}
use Rattle.sws_steps.specs.Talks.{HasNoStep, due, reported_next}
use Rattle.sws_burst.specs.Bursts.{burst_limit}
use Rattle.sws_burst.proofs.BurstLemmas.{Bursting}
use Rattle.sws_burst.proofs.bursts.BurstsTalk.step.Given as goal

abbrev pub invariant-steps : goal.invariant-steps
invariant-steps g l = record {
  few : l.left < burst_limit;
  told : l.next ≡ reported_next (g.T.Talk.view_of l.self.talk);
  nothing : HasNoStep (g.T.Talk.view_of l.fn.self.talk).pending → l.self ≡ l.fn.self;
  hall : g.T.Talk.hall_of l.self.talk ≡ g.T.Talk.hall_of l.fn.self.talk;
  ended : (end : End) → (g.T.Talk.view_of l.fn.self.talk).end ≡ Some end → (g.T.Talk.view_of l.self.talk).end ≡ Some end;
  ran : (first : _) (steps : List Handler) (event : Handler) → g.T.Talk.has_run first steps l.fn.self.talk
      → due (g.T.Talk.view_of l.fn.self.talk) ≡ Some event
      → Bursting g.T.Talk.has_run first steps event l.self.talk l.left;
}

abbrev pub decreases-steps : goal.decreases-steps
decreases-steps g l = l.left
