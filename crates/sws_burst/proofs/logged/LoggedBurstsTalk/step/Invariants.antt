use Rattle.std.specs.Prelude.{◌≡◌, ◌<◌, ◌+◌, ◌∷◌, ◌++◌, [], List, Some}
use Rattle.sws_steps.specs.declared.End.{End}
use Rattle.sws_steps.specs.declared.Handler.{Handler}
use Rattle.sws_steps.specs.Logs.{bit}
use Rattle.sws_steps.specs.Talks.{HasNoStep, due, reported_next}
use Rattle.sws_burst.specs.Bursts.{burst_limit}
use Rattle.sws_burst.specs.LoggedBursts.{HasRunEvents}
use Rattle.sws_burst.proofs.LoggedLemmas.{Going}
use Rattle.sws_burst.proofs.logged.LoggedBurstsTalk.step.Given as goal

abbrev pub invariant-steps : goal.invariant-steps
invariant-steps g l = record {
  few : l.left < burst_limit;
  told : l.next ≡ reported_next (g.T.Talk.view_of l.self.talk);
  nothing : HasNoStep (g.T.Talk.view_of l.fn.self.talk).pending → l.self ≡ l.fn.self;
  hall : g.T.Talk.hall_of l.self.talk ≡ g.T.Talk.hall_of l.fn.self.talk;
  ended : (end : End) → (g.T.Talk.view_of l.fn.self.talk).end ≡ Some end → (g.T.Talk.view_of l.self.talk).end ≡ Some end;
  lines : (g.T.Talk.view_of l.self.talk).lines ≡ (g.T.Talk.view_of l.fn.self.talk).lines + bit (g.T.Talk.told l.self.talk);
  first : l.self.first ≡ l.fn.self.first;
  ran : (first : _) (trail : List Handler) (event : Handler) → due (g.T.Talk.view_of l.fn.self.talk) ≡ Some event
      → HasRunEvents g.L.Link g.T.Talk first trail l.fn.self.talk
      → Going g.L.Link g.T.Talk first (trail ++ event ∷ []) l.self.talk l.left;
}

abbrev pub decreases-steps : goal.decreases-steps
decreases-steps g l = l.left
