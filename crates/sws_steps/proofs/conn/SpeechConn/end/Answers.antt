use Rattle.std.proofs.Common.{◌∙◌, ap, subst, sym}
use Rattle.sws_steps.specs.declared.conn_core.ConnCore.{ConnCore}
use Rattle.sws_steps.specs.ConnCoreFields.{state_of}
use Rattle.sws_steps.specs.Path.{known_rest, HasNoEvents}
use Rattle.sws_steps.specs.Told.{TalkState}
use Rattle.sws_steps.proofs.Runs.PathLemmas.{none-left}
use Rattle.sws_steps.proofs.conn.SpeechConn.end.Goals as goal

pub returns-in-Nothing-clause-path : goal.returns-in-Nothing-clause-path
returns-in-Nothing-clause-path g c some =
    let p = g.S.Speech.protocol in
    subst (λ (k : TalkState g.row.S-Contents.Denot g.row.L.Denot). HasNoEvents (known_rest p g.L.Link k.conn)) c.self.view_is
    (none-left p g.met.S.Speech.orderly g.L.Link (record { standing = state_of g.S.Speech c.self.inside.core.value; link = c.self.inside.link }) c.self.invariant.sound
    (sym (ap (λ (t : ConnCore g.row.S.Denot). t.pending) c.deref.ensures) ∙ c.in-Nothing.is))
