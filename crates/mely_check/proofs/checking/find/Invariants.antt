use Rattle.std.proofs.Common.{◌≡◌, ◌*◌, ◌-◌, length}
use Rattle.mely_history.specs.Setup.{shape_of}
use Rattle.mely_check.specs.Readers.{IsOpen, HasRead, reach}
use Rattle.mely_check.proofs.checking.find.Given as goal

abbrev pub invariant-pieces : goal.invariant-pieces
invariant-pieces g l = record {
  open_line : IsOpen l.reader;
  shards : l.reader.place.shards ≡ (shape_of l.setup).shards;
  faults : g.R.Source.faults l.source ≡ g.R.Source.faults l.fn.source;
  read : HasRead (λ walk. g.L.Listener.Heard walk l.listener) l.setup (g.R.Source.left l.fn.source) (g.R.Source.left l.source) l.reader;
  frame : g.L.Listener.frame_of l.listener ≡ g.L.Listener.frame_of l.fn.listener;
  room : length l.room ≡ 4096;
}

-- a line of 64 bytes at most for each number
abbrev pub decreases-pieces : goal.decreases-pieces
decreases-pieces g l = 64 * 4294967296 - reach l.reader
