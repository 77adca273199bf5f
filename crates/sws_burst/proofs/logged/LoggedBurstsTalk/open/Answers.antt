use Rattle.std.proofs.Common.{[], ◌∷◌, Some, ap}
use Rattle.sws_steps.specs.declared.Handler.TheVariants as handler
use Rattle.sws_burst.proofs.LoggedLemmas.{opened-events}
use Rattle.sws_burst.proofs.logged.LoggedBurstsTalk.open.Goals as goal

pub returns-clause-runs : goal.returns-clause-runs
returns-clause-runs g c = record {
  given_is = ap Some c.of-first.ensures;
  ran = opened-events g.L.Link g.T.Talk c.args.link c.args.self.now.talk c.open.new.self c.open.ensures.hall c.in_ok-next.ensures.told
      c.in_ok-next.ensures.runs
      (c.a_run_serves.ensures.steps c.args.link (handler.Open ∷ []) c.open.new.self c.in_ok-next.ensures.runs);
}
