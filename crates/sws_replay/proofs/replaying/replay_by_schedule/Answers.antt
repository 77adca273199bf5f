use Rattle.std.proofs.Common.{◌<◌, ◌^◌, ℕ, List, map, sym, subst}
use Rattle.std.specs.Prelude.{sum_by}
use Rattle.sws_weave.specs.ServerRun.{IsServerRun}
use Rattle.sws_script.specs.Scripted.{script_of}
use Rattle.sws_replay.specs.Expected.{by_http}
use Rattle.sws_replay.specs.Runs.{histories_of}
use Rattle.sws_replay.proofs.InputLemmas.{steps_are_few}
use Rattle.sws_replay.proofs.TextLemmas.{all_showable, by_schedule}
use Rattle.sws_replay.proofs.replaying.replay_by_schedule.Goals as goal

pub run_steps-requires-clause-count : goal.run_steps-requires-clause-count
run_steps-requires-clause-count g c =
    subst (λ (steps : List (ℕ × ℕ)). sum_by (λ part. part.1) steps < 2 ^ 64) (sym c.as_slice-steps.ensures) (steps_are_few _ c.args.shape.now.cores c.args.input.now c.requires.input)

pub write_run-requires-clause-showable : goal.write_run-requires-clause-showable
write_run-requires-clause-showable g c = all_showable (by_http c.args.site.now) c.as_slice-conns.result.now c.in_ok-ended.ended c.in_ok-ended.ensures.ran.serves

pub returns-clause-writes : goal.returns-clause-writes
returns-clause-writes g c =
    by_schedule c.args.site.now c.args.shape.now c.as_slice-conns.result.now c.args.log c.in_ok-ended.ended c.in_ok-ended.ensures.ran _ _ c.write_run.result c.fault_of.result c.fault_of.ensures c.args.input.now (sym c.as_slice-conns.ensures)
    (subst (λ (steps : List (ℕ × ℕ)). IsServerRun c.args.shape.now c.args.log c.args.site.now (map script_of c.as_slice-conns.result.now) steps (histories_of c.in_ok-ended.ended)) c.as_slice-steps.ensures c.in_ok-ended.ensures.scheduled) c.write_run.ensures.fit c.write_run.ensures.text
