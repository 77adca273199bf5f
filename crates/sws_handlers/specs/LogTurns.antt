-- The lines of one connection in a log, and whether their turns are 1, 2, 3 and so on.
use Rattle.std.specs.Prelude.{◌≡◌, ℕ, ◌+◌, ◌==◌, Bool, false, if◌then◌else◌, List, [], ◌∷◌, Option, Some, None, filter_map, slice_get}
use Rattle.std.specs.List.{filter}
use Rattle.sws_log.specs.declared.line.LogLine.{LogLine}

-- the lines of the connection with this number, in order
abbrev pub lines_for : ℕ → List LogLine → List LogLine
lines_for i lines = filter (λ line. line.conn == i) lines

-- the turn of a line, where it is of this connection
abbrev pub turn_in : ℕ → LogLine → Option ℕ
turn_in i line = if line.conn == i then Some line.turn else None

-- the turns of a connection's lines
abbrev pub turns_of : ℕ → List LogLine → List ℕ
turns_of i lines = filter_map (turn_in i) lines

-- a turn behind the last one, if it is the next
abbrev pub next_turn : Option ℕ → ℕ → Option ℕ
next_turn None turn = None
next_turn (Some last) turn = if turn == last + 1 then Some turn else None

-- the last of these turns behind such a one, where each is the next
abbrev pub last_of : Option ℕ → List ℕ → Option ℕ
last_of last [] = last
last_of last (turn ∷ turns) = last_of (next_turn last turn) turns

-- it is this one
abbrev pub is_last : ℕ → Option ℕ → Bool
is_last n None = false
is_last n (Some last) = last == n

-- the turns are 1, 2, 3 and so on, up to this one
abbrev pub is_numbered : ℕ → List ℕ → Bool
is_numbered n turns = is_last n (last_of (Some 0) turns)

-- a table has the last turn of each of its connections, where their turns are 1, 2, 3 and so on
abbrev pub AreLastTurns : List LogLine → List (Option ℕ) → Type 0
AreLastTurns lines turns = (i : ℕ) (last : Option ℕ) → slice_get turns i ≡ Some last
    → last ≡ last_of (Some 0) (turns_of i lines)
