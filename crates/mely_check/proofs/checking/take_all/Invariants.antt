use Rattle.std.proofs.Common.{◌≡◌, ◌+◌, ◌≤◌, ◌++◌, ℕ, List, take}
use Rattle.mely_check.specs.Readers.{Stands, Knows, IsOpen, reach}
use Rattle.mely_history.specs.declared.setup.Setup.{Setup}
use Rattle.mely_check.proofs.checking.take_all.Given as goal

abbrev pub invariant-loop-byte : goal.invariant-loop-byte
invariant-loop-byte g l = record {
  open_line : IsOpen l.reader;
  later : l.fn.reader.place.number ≤ l.reader.place.number;
  further : reach l.fn.reader + l.byte-index ≤ reach l.reader;
  stands : (text : List ℕ) → Stands text l.fn.reader → Stands (text ++ take l.byte-index l.bytes) l.reader;
  knows : (setup : Setup) (text : List ℕ) → Knows (λ walk. g.L.Listener.Heard walk l.fn.listener) setup text l.fn.reader → Knows (λ walk. g.L.Listener.Heard walk l.listener) setup (text ++ take l.byte-index l.bytes) l.reader;
  frame : g.L.Listener.frame_of l.listener ≡ g.L.Listener.frame_of l.fn.listener;
  shards : l.reader.place.shards ≡ l.fn.reader.place.shards;
}
