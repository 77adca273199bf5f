-- How a window is kept.
use Rattle.std.specs.Prelude.{◌≡◌, ◌≤◌, ℕ, List, length}
use Rattle.std.specs.List.{slice_range}
use Rattle.sws_conn.specs.declared.window.TheConstants.{ROOM}
use Rattle.sws_conn.specs.declared.window.Window.TheInside.{Inside}

-- the bytes from one place in the room up to another
abbrev pub bytes_of : Inside → List ℕ
bytes_of window = slice_range window.room.items window.start window.end

-- the room has its size, and the bytes lie in it
pub record IsInRoom (window : Inside) : Type 0 where
  pub size : length window.room.items ≡ ROOM
  pub ordered : window.start ≤ window.end
  pub within : window.end ≤ ROOM
