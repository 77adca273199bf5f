-- What the room and the clients are sent, send, and keep.
use Rattle.std.specs.Prelude.{◌≡◌, ◌+◌, ◌*◌, ◌<◌, ◌≤◌, ℕ, List, [], ◌∷◌, ◌++◌, Some, if◌then◌else◌, map, nat_lt, slice_get}
use Rattle.std.specs.List.{range_with_len}
use Rattle.mely_event.specs.declared.colour.Colour.{Colour}
use Rattle.mely_event.specs.declared.event.Event.{Event}
use Rattle.example_chat.specs.declared.chat.TheConstants.{CLIENTS}
use Rattle.example_chat.specs.declared.message.Message.{Message}
use Rattle.example_chat.specs.declared.message.Message.TheVariants.{Say, Line, Hear}
use Rattle.example_chat.specs.declared.script.Line.{Line as ScriptLine}
use Rattle.example_chat.specs.declared.seat.Heard.{Heard}

-- the room
abbrev pub room : Colour
room = record { 0 = 0 }

-- under which event a message stands in the histories: by the line's number in the script, and
-- where it is heard by its place in the room's order too
abbrev pub event_of : Message → Event
event_of (Say number text) = record { handler = 1; arg = number }
event_of (Line number text) = record { handler = 2; arg = number }
event_of (Hear place number text) = record { handler = 3; arg = place * 256 + number }

-- a line is said by a client
abbrev pub IsByClient : ScriptLine → Type 0
IsByClient line = (0 < line.client) × (line.client ≤ CLIENTS)

-- the script has this text under the number
pub record IsOfScript (script : List ScriptLine) (number : ℕ) (text : List ℕ) : Type 0 where
  pub line : ScriptLine
  pub there : slice_get script number ≡ Some line
  pub says : line.text.items ≡ text

-- what may be sent to a colour: clients say and hear, and the room is told, and each line is what
-- the script has under its number
abbrev pub MayHear : List ScriptLine → Colour → Message → Type 0
MayHear script colour (Say number text) = (0 < colour.0) × IsOfScript script number text.items
MayHear script colour (Line number text) = (colour.0 ≡ 0) × IsOfScript script number text.items
MayHear script colour (Hear place number text) =
    (0 < colour.0) × IsOfScript script number text.items

-- what a message says
abbrev pub text_of : Message → List ℕ
text_of (Say number text) = text.items
text_of (Line number text) = text.items
text_of (Hear place number text) = text.items

-- what is sent, as facts have it: to whom, under which event, and what it says; these determine it
abbrev pub Sent : Type 0
Sent = Colour × Event × List ℕ

abbrev pub sent_as : Colour × Message → Sent
sent_as send = (send.0, event_of send.1, text_of send.1)

-- a line goes to each client, with its text
abbrev pub to_clients : Event → List ℕ → List Sent
to_clients event text = map (λ n. (record { 0 = n }, event, text)) (range_with_len 1 CLIENTS)

-- what each of a list gives by how many stand before it, one after another; so many stand before
-- the first
abbrev pub along : {X Y : Type 0} → (ℕ → X → List Y) → ℕ → List X → List Y
along f before [] = []
along f before (x ∷ xs) = f before x ++ along f (before + 1) xs

-- What a message has a colour send, so many others before it: what a client is to say goes to the
-- room, which has each client hear it. The number of the room's lines before it is its place.
abbrev pub says : ℕ → Message → List Sent
says before (Say number text) =
    (room, record { handler = 2; arg = number }, text.items) ∷ []
says before (Line number text) = if nat_lt before 256
    then to_clients (record { handler = 3; arg = before * 256 + number }) text.items else []
says before (Hear place number text) = []

-- a line that was heard: its place, its number and its text
abbrev pub Note : Type 0
Note = ℕ × ℕ × List ℕ

abbrev pub note_of : Heard → Note
note_of heard = (heard.place, heard.number, heard.text.items)

-- what is kept of a message: the room keeps its lines at their places, and a client what it hears
abbrev pub notes : ℕ → Message → List Note
notes before (Say number text) = []
notes before (Line number text) =
    if nat_lt before 256 then (before, number, text.items) ∷ [] else []
notes before (Hear place number text) = (place, number, text.items) ∷ []

-- what was sent is what the messages received have the colour send, and what is kept is what is
-- kept of them, in that order
pub record IsSeat (received : List Message) (sent : List (Colour × Message)) (heard : List Heard)
    : Type 0 where
  pub passed : map sent_as sent ≡ along says 0 received
  pub noted : map note_of heard ≡ along notes 0 received

-- the lines, each for the client that says it, under its number
abbrev pub said : ℕ → List ScriptLine → List (Colour × Message)
said number [] = []
said number (line ∷ lines) =
    (record { 0 = line.client }, Say number line.text) ∷ said (number + 1) lines
