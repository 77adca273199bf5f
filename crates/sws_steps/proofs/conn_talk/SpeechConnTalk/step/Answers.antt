use Rattle.sws_steps.proofs.Steps.HallLemmas.{step_hall}
use Rattle.sws_steps.proofs.Logs.ToldLemmas.{told-run-on}
use Rattle.sws_steps.proofs.conn_talk.SpeechConnTalk.step.Goals as goal

pub returns-clause-hall : goal.returns-clause-hall
returns-clause-hall g c =
    step_hall g.S.Speech.protocol g.L.Link c.args.self.now.conn.standing c.step.new.self.conn.standing c.args.self.now.conn.link c.step.new.self.conn.link c.step.ensures.steps

pub returns-clause-runs : goal.returns-clause-runs
returns-clause-runs g c first trail event run due =
    told-run-on g.S.Speech.protocol g.met.S.Speech.orderly g.L.Link first trail event c.args.self.now c.step.new.self run due c.step.ensures.steps c.step.ensures.line
