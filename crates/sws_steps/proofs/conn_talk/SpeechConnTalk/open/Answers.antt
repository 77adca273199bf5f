use Rattle.sws_steps.proofs.Logs.TellingLemmas.{opens-telling, opened-told}
use Rattle.sws_steps.proofs.conn_talk.SpeechConnTalk.open.Goals as goal

pub returns-clause-opens : goal.returns-clause-opens
returns-clause-opens g c =
    opens-telling g.S.Speech.protocol g.met.S.Speech.orderly g.L.Link c.args.self.now c.open.new.self c.args.link c.open.result c.open.ensures.opens c.open.ensures.run c.open.ensures.kept

pub returns-clause-runs : goal.returns-clause-runs
returns-clause-runs g c =
    opened-told g.S.Speech.protocol g.met.S.Speech.orderly g.L.Link c.args.self.now.conn.standing.hall c.args.link c.open.result c.open.new.self c.open.ensures.run c.open.ensures.told
