-- The room for what a run leaves.
use Rattle.std.specs.Prelude.{◌≡◌, ◌≤◌, ◌+◌, ℕ, [], Some, replicate, vec_capacity}
use Rattle.sws_handlers.specs.declared.ended.EndRoom.{EndRoom}
use Rattle.sws_handlers.specs.KeptLines.{no_lines}

-- empty lists with room for so many connections, and for the trails of all colours, with a log's;
-- and a last turn of 0 for each connection
pub record HasEndRoom {L : Type 0} (total : ℕ) (room : EndRoom L) : Type 0 where
  pub none_served : room.served.items ≡ []
  pub no_trail : room.trails.items ≡ []
  pub no_line : room.no_line ≡ no_lines
  pub served : total ≤ vec_capacity room.served
  pub trails : total + 3 ≤ vec_capacity room.trails
  pub turns : room.turns.items ≡ replicate total (Some 0)
