use Rattle.std.proofs.Common.{Ok, Err, Result}
use Rattle.std.specs.Prelude.{IfOk}
use Rattle.sws_steps.specs.Talks.{due}
use Rattle.sws_burst.proofs.BurstLemmas.{opened-burst}
use Rattle.sws_burst.proofs.bursts.BurstsTalk.open.Goals as goal

if-ok : {A E : Type 0} (result : Result A E) (P Q : Type 0) → (P → Q) → IfOk result (λ _. P) → IfOk result (λ _. Q)
if-ok (Ok value) P Q to holds = to holds
if-ok (Err fault) P Q to holds = holds

pub returns-clause-runs : goal.returns-clause-runs
returns-clause-runs g c =
    if-ok c.open.result _ _
    (opened-burst g.T.Talk.has_run (λ talk. due (g.T.Talk.view_of talk)) c.args.link c.open.new.self)
    c.open.ensures.runs
