use Rattle.std.proofs.Common.{rules, ◌≡◌, ◌≢◌, ◌++◌}
use Rattle.sws_link.specs.declared.Put.TheVariants as put
use Rattle.sws_link.proofs.PieceLemmas.{Going-moved, Going-written, Going-stopped, Going-ended, Going-cause, shorter}
use Rattle.sws_link.proofs.pieces.write_pieces.Goals as goal

pub pieces-smaller : goal.pieces-smaller
pieces-smaller g c =
    shorter c.push_next.new.piece.items (g.T.Unwritten.left c.push_next.new.self) c.pieces.piece.items (g.T.Unwritten.left c.pieces.rest) c.in-Ok-true.ensures.moves (search rules)

pub pieces-smaller-in-Done : goal.pieces-smaller-in-Done
pieces-smaller-in-Done g c =
    shorter c.push_next.new.piece.items (g.T.Unwritten.left c.push_next.new.self) c.pieces.piece.items (g.T.Unwritten.left c.pieces.rest) c.in-Ok-true.ensures.moves (search rules)

pub returns-in-Ok-false-clause-text : goal.returns-in-Ok-false-clause-text
returns-in-Ok-false-clause-text g c =
    Going-ended (g.O.Sink.written c.args.sink.now) (g.O.Sink.written c.pieces.sink) (g.O.Sink.written c.write_piece.new.sink) (g.O.Sink.faults c.args.sink.now) (g.O.Sink.faults c.pieces.sink)
    c.push_next.new.piece.items (g.T.Unwritten.left c.push_next.new.self) (c.args.front.items ++ g.T.Unwritten.left c.args.rest) c.write_piece.result
    (Going-moved (g.O.Sink.written c.args.sink.now) (g.O.Sink.written c.pieces.sink) (g.O.Sink.faults c.args.sink.now) (g.O.Sink.faults c.pieces.sink)
    c.pieces.piece.items (g.T.Unwritten.left c.pieces.rest) c.push_next.new.piece.items (g.T.Unwritten.left c.push_next.new.self) (c.args.front.items ++ g.T.Unwritten.left c.args.rest)
    c.pieces.invariant c.in-Ok-false.ensures.moves)
    (search rules) (search rules)

pub pieces-preserved-in-Done : goal.pieces-preserved-in-Done
pieces-preserved-in-Done g c =
    Going-written (g.O.Sink.written c.args.sink.now) (g.O.Sink.written c.pieces.sink) (g.O.Sink.written c.write_all.new.self) (g.O.Sink.faults c.args.sink.now) (g.O.Sink.faults c.pieces.sink)
    (g.O.Sink.faults c.write_all.new.self) c.push_next.new.piece.items c.clear.new.self.items (g.T.Unwritten.left c.push_next.new.self) (c.args.front.items ++ g.T.Unwritten.left c.args.rest)
    (Going-moved (g.O.Sink.written c.args.sink.now) (g.O.Sink.written c.pieces.sink) (g.O.Sink.faults c.args.sink.now) (g.O.Sink.faults c.pieces.sink)
    c.pieces.piece.items (g.T.Unwritten.left c.pieces.rest) c.push_next.new.piece.items (g.T.Unwritten.left c.push_next.new.self) (c.args.front.items ++ g.T.Unwritten.left c.args.rest)
    c.pieces.invariant c.in-Ok-true.ensures.moves)
    (search rules) (search rules) (search rules)

pub returns-in_default : goal.returns-in_default
returns-in_default g c =
    let going = Going-moved (g.O.Sink.written c.args.sink.now) (g.O.Sink.written c.pieces.sink) (g.O.Sink.faults c.args.sink.now) (g.O.Sink.faults c.pieces.sink)
    c.pieces.piece.items (g.T.Unwritten.left c.pieces.rest) c.push_next.new.piece.items (g.T.Unwritten.left c.push_next.new.self) (c.args.front.items ++ g.T.Unwritten.left c.args.rest)
    c.pieces.invariant c.in-Ok-true.ensures.moves in
    let stop : c.write_all.result ≢ put.Done = search rules in
    record {
      text = Going-stopped (g.O.Sink.written c.args.sink.now) (g.O.Sink.written c.pieces.sink) (g.O.Sink.written c.write_all.new.self) (g.O.Sink.faults c.args.sink.now) (g.O.Sink.faults c.pieces.sink)
          c.push_next.new.piece.items (g.T.Unwritten.left c.push_next.new.self) (c.args.front.items ++ g.T.Unwritten.left c.args.rest) c.write_all.result going stop (search rules);
      cause = Going-cause (g.O.Sink.written c.args.sink.now) (g.O.Sink.written c.pieces.sink) (g.O.Sink.faults c.args.sink.now) (g.O.Sink.faults c.pieces.sink) (g.O.Sink.faults c.write_all.new.self)
          c.push_next.new.piece.items (g.T.Unwritten.left c.push_next.new.self) (c.args.front.items ++ g.T.Unwritten.left c.args.rest) (c.write_all.result ≡ put.Failed) going c.write_all.ensures.cause;
    }
