use Rattle.std.proofs.Common.{◌++◌, length}
use Rattle.sws_link.proofs.PieceLemmas.{Going}
use Rattle.sws_link.proofs.pieces.write_pieces.Given as goal

abbrev pub invariant-pieces : goal.invariant-pieces
invariant-pieces g l =
    Going (g.O.Sink.written l.fn.sink) (g.O.Sink.written l.sink) (g.O.Sink.faults l.fn.sink) (g.O.Sink.faults l.sink) l.piece.items (g.T.Unwritten.left l.rest)
    (l.fn.front.items ++ g.T.Unwritten.left l.fn.rest)

abbrev pub decreases-pieces : goal.decreases-pieces
decreases-pieces g l = length (g.T.Unwritten.left l.rest)
