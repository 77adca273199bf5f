-- What a chat has come to.
use Rattle.std.specs.Prelude.{◌≡◌, ◌==◌, ◌+◌, ◌<◌, ◌≤◌, ℕ, List, [], ◌∷◌, Bool, false, Option, Some, None, if◌then◌else◌, filter_map, length, map, slice_get}
use Rattle.std.specs.List.{AllByRecursion}
use Rattle.mely_event.specs.declared.colour.Colour.{Colour}
use Rattle.example_chat.specs.declared.chat.TheConstants.{CLIENTS}
use Rattle.example_chat.specs.declared.message.Message.{Message}
use Rattle.example_chat.specs.declared.script.Line.{Line as ScriptLine}
use Rattle.example_chat.specs.declared.seat.Seat.{Seat}
use Rattle.example_chat.specs.Chats.{IsSeat, MayHear, Note, note_of, room}

-- whether a line of the script is one of the client's
abbrev pub is_said : ℕ → Option ScriptLine → Bool
is_said client None = false
is_said client (Some line) = line.client == client

-- a line that was heard, by its number and its text, if the script has the client say it
abbrev pub said_by : List ScriptLine → ℕ → Note → Option (ℕ × List ℕ)
said_by script client note =
    if is_said client (slice_get script note.1) then Some (note.1, note.2) else None

-- the lines of a client, each by its number and its text, in the order of the script, from a line's
-- number on
abbrev pub lines_of : ℕ → ℕ → List ScriptLine → List (ℕ × List ℕ)
lines_of client number [] = []
lines_of client number (line ∷ lines) = if line.client == client
    then (number, line.text.items) ∷ lines_of client (number + 1) lines
    else lines_of client (number + 1) lines

-- Each colour keeps what it was told, and sent what that has it send: so the room sent each client
-- each line that it was told, at its place in the order in which they came. What it was told, and
-- what clients heard, is of the script, by its number. The room was told as many lines as the
-- script has; of each client it keeps just those that the script has the client say, each with its
-- number and its text, in the order of the script. And each client has heard what the room keeps,
-- in the room's order: each line once, at its place, with its number and its text, and no other.
pub record IsTalked (script : List ScriptLine) (seats : List Seat) : Type 0 where
  pub many : length seats ≡ CLIENTS + 1
  pub received : Colour → List Message
  pub sent : Colour → List (Colour × Message)
  pub of_script : (c : Colour) → c.0 < CLIENTS + 1 → AllByRecursion (MayHear script c) (received c)
  pub seat : (c : Colour) (seat : Seat) → slice_get seats c.0 ≡ Some seat
      → IsSeat (received c) (sent c) seat.heard.items
  pub told : length (received room) ≡ length script
  pub by_client : (client : ℕ) (kept : Seat) → 0 < client → client ≤ CLIENTS
      → slice_get seats room.0 ≡ Some kept
      → filter_map (said_by script client) (map note_of kept.heard.items)
      ≡ lines_of client 0 script
  pub heard : (c : Colour) (seat kept : Seat) → 0 < c.0 → slice_get seats c.0 ≡ Some seat
      → slice_get seats room.0 ≡ Some kept
      → map note_of seat.heard.items ≡ map note_of kept.heard.items
