use Rattle.sws_replay.specs.Expected.{of_talk}
use Rattle.sws_replay.proofs.TextLemmas.{all_showable, replayed}
use Rattle.sws_replay.proofs.replaying.replay_talks.Goals as goal

pub write_run-requires-clause-showable : goal.write_run-requires-clause-showable
write_run-requires-clause-showable g c = all_showable (of_talk g.T.Talk (g.T.Talk.contents_of c.args.hall)) c.args.conns.now c.in_ok-ended.ended c.in_ok-ended.ensures.ran.serves

pub returns-clause-writes : goal.returns-clause-writes
returns-clause-writes g c =
    replayed (of_talk g.T.Talk (g.T.Talk.contents_of c.args.hall)) c.args.shape.now c.args.conns.now c.args.log c.in_ok-ended.ended c.in_ok-ended.ensures.ran _ _ c.write_run.result c.fault_of.result c.fault_of.ensures c.args.journal c.write_run.ensures.fit c.write_run.ensures.text
