use Rattle.std.proofs.Common.{List, Result, Err, ap, inr, subst}
use Rattle.sws_replay.specs.declared.fault.RunFault.{RunFault}
use Rattle.sws_replay.specs.Expected.{of_talk}
use Rattle.sws_replay.specs.Replays.{IsReplay, WritesOne}
use Rattle.sws_script.specs.declared.input.ScriptConn.{ScriptConn}
use Rattle.std.proofs.Common.{Some}
use Rattle.sws_top.proofs.replaying.replay_script.Goals as goal

pub returns : goal.returns
returns g c =
    let answer : Result (Unit {0}) RunFault = Err c.in-Err-replay_talks.fault in
    inr (
      c.in-Ok.input,
      c.in-Ok.ensures,
      record {
        answer = answer;
        ended = ap Some c.run_fault.ensures;
        writes = subst (λ (conns : List ScriptConn). WritesOne (IsReplay (of_talk g.K.Talk (g.K.Talk.contents_of c.args.hall)) c.args.shape.now conns c.args.log c.args.journal)
            (g.O.Sink.written c.args.out.now) (g.O.Sink.written c.replay_talks.new.out) answer) c.as_slice-conns.ensures c.in-Err-replay_talks.ensures.writes;
        cause = c.in-Err-replay_talks.ensures.cause;
      },
    )
