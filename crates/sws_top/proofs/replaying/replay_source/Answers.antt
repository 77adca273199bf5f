use Rattle.std.proofs.Common.{◌≡◌, Bool, inr, sym, subst}
use Rattle.sws_top.specs.Faults.{fault_of}
use Rattle.sws_replay.specs.Expected.{Expected, by_http-is}
use Rattle.sws_top.specs.RanReplay.{IsReplayText, RunsScript}
use Rattle.sws_top.specs.Scripts.{RunsOnInput}
use Rattle.sws_top.specs.Texts.{WritesText}
use Rattle.sws_top.proofs.replaying.replay_source.Goals as goal

pub returns-then-how : goal.returns-then-how
returns-then-how g c =
    let how = c.args.how.now in
    let ran = c.replay_schedule in
    inr (
      c.in-Ok.site,
      c.in-Ok.ensures,
      subst (λ (schedule : Bool). RunsOnInput g.R.Source schedule how.shape.cores c.args.source.now ran.new.source (fault_of ran.result) (ran.new.out ≡ c.args.out.now)
          (λ input. WritesText g.O.Sink c.args.out.now ran.new.out (fault_of ran.result) (IsReplayText how.shape how.journal schedule how.log c.in-Ok.site input)))
          (sym c.if-how.true) ran.ensures,
    )

pub returns : goal.returns
returns g c =
    let how = c.args.how.now in
    let ran = c.replay_script in
    let ran_by = subst (λ (e : Expected). RunsScript g.R.Source g.O.Sink c.args.source.now ran.new.source c.args.out.now ran.new.out (fault_of ran.result) e how.shape how.log how.journal) (by_http-is c.in-Ok.site) ran.ensures in
    inr (
      c.in-Ok.site,
      c.in-Ok.ensures,
      subst (λ (schedule : Bool). RunsOnInput g.R.Source schedule how.shape.cores c.args.source.now ran.new.source (fault_of ran.result) (ran.new.out ≡ c.args.out.now)
          (λ input. WritesText g.O.Sink c.args.out.now ran.new.out (fault_of ran.result) (IsReplayText how.shape how.journal schedule how.log c.in-Ok.site input)))
          (sym c.if-how.false) ran_by,
    )
