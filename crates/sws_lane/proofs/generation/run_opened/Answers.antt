use denote.Param.Send.{sendable}
use Rattle.std.proofs.Crossing.{crosses}
use Rattle.sws_steps.proofs.conn.SpeechConn.TheSendSync as speech
use Rattle.sws_conn.proofs.http.Http.TheSendSync as http
use Rattle.sws_access.proofs.record.Record.TheSendSync as kept
use Rattle.sws_access.proofs.recorded.Recorded.TheSendSync as recorded
use Rattle.sws_access.proofs.telling.Telling.TheSendSync as telling
use Rattle.sws_lane.proofs.GenerationLemmas.{run_logged, run_unlogged}
use Rattle.sws_lane.proofs.generation.run_opened.Goals as goal

pub returns-then-terms : goal.returns-then-terms
returns-then-terms g c =
    run_logged g.W.World g.W.Link.Link _ _ c.args.terms.now c.args.site.now c.args.world c.talk_all.result c.if-terms.true
    (record { leaves = c.talk_all.ensures.leaves; modelled = c.talk_all.ensures.model })

pub returns-else-terms : goal.returns-else-terms
returns-else-terms g c =
    run_unlogged g.W.World g.W.Link.Link _ _ c.args.terms.now c.args.site.now c.args.world c.talk_all-else-terms.result c.if-terms.false
    (record { leaves = c.talk_all-else-terms.ensures.leaves; modelled = c.talk_all-else-terms.ensures.model })

-- a connection with its site, its link and its clerk may go to another thread
pub talk_all-requires-send-T : goal.talk_all-requires-send-T
talk_all-requires-send-T g c κs within =
    let link = c.type_bounds.send-W-Link in
    let clerk = c.type_bounds.send-C in
    search (crosses, sendable, speech.the_send, http.the_send, telling.the_send, recorded.the_send, kept.the_send) depth 60 fits 20000
