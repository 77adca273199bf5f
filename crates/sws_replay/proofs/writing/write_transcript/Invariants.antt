use Rattle.sws_replay.proofs.TextLemmas.{Shown}
use Rattle.sws_replay.proofs.writing.write_transcript.Given as goal

abbrev pub invariant-loop-conn : goal.invariant-loop-conn
invariant-loop-conn g l = Shown (g.O.Sink.written l.fn.out) (g.O.Sink.written l.out) (g.O.Sink.faults l.fn.out) (g.O.Sink.faults l.out) l.number l.conn-index l.served
