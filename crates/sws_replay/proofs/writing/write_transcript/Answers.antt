use Rattle.std.proofs.Common.{rules, ◌≢◌}
use Rattle.sws_link.specs.declared.Put.TheVariants as put
use Rattle.sws_replay.proofs.TextLemmas.{Shown-more, Shown-stopped, Shown-cause, next_shown}
use Rattle.sws_replay.proofs.writing.write_transcript.Goals as goal

pub returns-in_default : goal.returns-in_default
returns-in_default g c =
    let at = next_shown c.args.served.now c.loop-conn.conn-index c.conn-item.result c.loop-conn-test.true c.conn-item.is in
    let stop : c.write_served.result ≢ put.Done = search rules in
    record {
      text = Shown-stopped _ _ (g.O.Sink.written c.write_served.new.out) _ _ (g.O.Sink.faults c.write_served.new.out) c.loop-conn.number c.loop-conn.conn-index c.args.served.now c.conn-item.result at c.loop-conn.invariant c.write_served.result stop c.write_served.ensures.text;
      cause = Shown-cause _ _ (g.O.Sink.written c.write_served.new.out) _ _ (g.O.Sink.faults c.write_served.new.out) c.loop-conn.number c.loop-conn.conn-index c.args.served.now c.conn-item.result at c.loop-conn.invariant _ c.write_served.ensures.cause;
    }

pub loop-conn-preserved : goal.loop-conn-preserved
loop-conn-preserved g c =
    let at = next_shown c.args.served.now c.loop-conn.conn-index c.conn-item.result c.loop-conn-test.true c.conn-item.is in
    Shown-more _ _ (g.O.Sink.written c.write_served.new.out) _ _ (g.O.Sink.faults c.write_served.new.out) c.loop-conn.number c.loop-conn.conn-index c.args.served.now c.conn-item.result at c.loop-conn.invariant c.in-Done.ensures.text c.in-Done.ensures.cause
