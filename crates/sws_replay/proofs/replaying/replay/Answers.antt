use Rattle.std.proofs.Common.{subst}
use Rattle.sws_replay.specs.Expected.{Expected, by_http-is}
use Rattle.sws_replay.specs.Replays.{IsReplay, WritesOne}
use Rattle.sws_replay.proofs.replaying.replay.Goals as goal

pub returns-clause-writes : goal.returns-clause-writes
returns-clause-writes g c =
    subst (λ (e : Expected). WritesOne (IsReplay e c.args.shape.now c.args.conns.now c.args.log c.args.journal) (g.O.Sink.written c.args.out.now) (g.O.Sink.written c.replay_talks.new.out) c.replay_talks.result) (by_http-is c.args.site.now) c.replay_talks.ensures.writes
