use Rattle.std.proofs.Common.{subst}
use Rattle.std.specs.Prelude.{IfOk}
use Rattle.sws_replay.specs.Expected.{Expected, by_http-is}
use Rattle.sws_replay.specs.Runs.{RunsWell}
use Rattle.sws_replay.proofs.running.run_script.Goals as goal

pub returns-clause-ran : goal.returns-clause-ran
returns-clause-ran g c =
    subst (λ (e : Expected). IfOk c.run_talks.result (λ ended. RunsWell e c.args.shape.now c.args.conns.now c.args.log ended)) (by_http-is c.args.site.now) c.run_talks.ensures.ran
