-- What messages are, which colours may be sent them, and who sends them.
use Rattle.std.specs.Prelude.{◌≡◌, ◌<◌, ◌≤◌, ◌+◌, ◌-◌, ℕ, List, [], ◌∷◌, Bool, true, false, Option, None, Some, ⊤, drop, filter_map, if◌then◌else◌, option_map, slice_get, sum_by}
use Rattle.std.specs.List.{AllByRecursion}
use Rattle.mely_event.specs.declared.colour.Colour.{Colour}
use Rattle.mely_event.specs.declared.event.Event.{Event}
use Rattle.mely_actor.specs.Sending.{MaySend}
use Rattle.sws_link.specs.Links.{IsInitialLink, LinkContents}
use Rattle.sws_link.specs.Worlds.{Coming, WorldContents, initial_contents}
use Rattle.sws_link.specs.declared.Link.{Ghosts as LinkWords}
use Rattle.example_chat_room.specs.declared.line.Line.{Line}
use Rattle.example_chat_room.specs.declared.message.Held.{Held}
use Rattle.example_chat_room.specs.declared.message.Message.{Message}
use Rattle.example_chat_room.specs.declared.message.Message.TheVariants.{Poll, Accept, Wait, Open, Wake, Cut, Say, Hear}
use Rattle.example_chat_room.specs.Shown.{FitsLine}

-- the colour of the desk, of the room, and of a client
abbrev pub desk : Colour
desk = record { 0 = 0 }

abbrev pub room : Colour
room = record { 0 = 1 }

abbrev pub client_at : ℕ → Colour
client_at client = record { 0 = client + 2 }

-- the row of an event without a number
abbrev pub of_row : ℕ → Event
of_row handler = record { handler = handler; arg = 0 }

-- under which event a message stands in the histories
abbrev pub event_of : {W L : Type 0} → Message W L → Event
event_of (Poll held) = of_row 1
event_of (Accept held) = of_row 2
event_of (Wait client) = of_row 3
event_of (Open link) = of_row 4
event_of Wake = of_row 5
event_of Cut = of_row 6
event_of (Say line) = of_row 7
event_of (Hear line) = of_row 8

-- ---- what may be sent

-- the links that are still to come, where they are known, once so many have
abbrev pub behind : ℕ → Option (List Coming) → Option (List Coming)
behind given coming = option_map (drop given) coming

-- the world has given as many links as is said, of so many in all
pub record Holds {W : Type 0} (tells : W → WorldContents) (coming : Option (List Coming))
    (clients : ℕ) (held : Held W) : Type 0 where
  pub accepted : (tells held.world).accepted ≡ held.accepted
  pub total : (tells held.world).total ≡ clients
  pub left : (tells held.world).coming ≡ behind held.accepted coming

-- a link is the one of this number among those to come, where these are known
abbrev pub IsLinkOf : Option (List Coming) → ℕ → Option LinkContents → Type 0
IsLinkOf None number told = ⊤
IsLinkOf (Some coming) number told = (one : Coming) × (slice_get coming number ≡ Some one)
    × (told ≡ Some (initial_contents one))

-- nothing was taken of it or written to it, and it isn't shut
pub record IsNewLink {L : Type 0} (l : LinkWords L) (coming : Option (List Coming)) (number : ℕ)
    (link : L) : Type 0 where
  pub not_shut : l.is_shut link ≡ false
  pub initial : IsInitialLink (l.tells link)
  pub is : IsLinkOf coming number (l.tells link)

-- the colour is that of a client, of so many
pub record IsOfClient (clients : ℕ) (colour : Colour) : Type 0 where
  pub behind_room : 2 ≤ colour.0
  pub there : colour.0 < clients + 2

module _ {W L : Type 0} (l : LinkWords L) (tells : W → WorldContents)
    (coming : Option (List Coming)) (clients : ℕ) where
  -- what may be sent to a colour: the desk asks the world, whose links go to the clients in order,
  -- the room is told lines, and clients hear them
  abbrev pub MayGet : Colour → Message W L → Type 0
  MayGet colour (Poll held) =
      (colour.0 ≡ 0) × (held.accepted < clients → Holds tells coming clients held)
  MayGet colour (Accept held) =
      (colour.0 ≡ 0) × (held.accepted < clients) × Holds tells coming clients held
  MayGet colour (Wait client) = (colour.0 ≡ 0) × (client < clients)
  MayGet colour (Open link) = IsOfClient clients colour × IsNewLink l coming (colour.0 - 2) link
  MayGet colour Wake = IsOfClient clients colour
  MayGet colour Cut = IsOfClient clients colour
  MayGet colour (Say line) = (colour.0 ≡ 1) × (line.from < clients) × FitsLine line.text.items
  MayGet colour (Hear line) = IsOfClient clients colour × (line.from < clients)

  -- all these may be sent
  abbrev pub MayAll : List (Colour × Message W L) → Type 0
  MayAll sends = AllByRecursion (MaySend (clients + 2) 9 event_of MayGet) sends

-- ---- who sends what

-- a client tells the room lines of its own, and whoever has a line heard does so behind itself
abbrev pub IsSigned : {W L : Type 0} → Colour → Colour × Message W L → Type 0
IsSigned sender (to, Poll held) = ⊤
IsSigned sender (to, Accept held) = ⊤
IsSigned sender (to, Wait client) = ⊤
IsSigned sender (to, Open link) = ⊤
IsSigned sender (to, Wake) = ⊤
IsSigned sender (to, Cut) = ⊤
IsSigned sender (to, Say line) = (to.0 ≡ 1) × (sender.0 ≡ line.from + 2)
IsSigned sender (to, Hear line) = to.0 ≡ sender.0 + 1

-- it tells no line and has none heard
abbrev pub IsQuiet : {W L : Type 0} → Message W L → Type 0
IsQuiet (Poll held) = ⊤
IsQuiet (Accept held) = ⊤
IsQuiet (Wait client) = ⊤
IsQuiet (Open link) = ⊤
IsQuiet Wake = ⊤
IsQuiet Cut = ⊤
IsQuiet (Say line) = ⊥
IsQuiet (Hear line) = ⊥

-- ---- what messages have

-- the line that a message tells the room, or that it has a client hear
abbrev pub line_told : {W L : Type 0} → Message W L → Option Line
line_told (Poll held) = None
line_told (Accept held) = None
line_told (Wait client) = None
line_told (Open link) = None
line_told Wake = None
line_told Cut = None
line_told (Say line) = Some line
line_told (Hear line) = None

abbrev pub line_heard : {W L : Type 0} → Message W L → Option Line
line_heard (Poll held) = None
line_heard (Accept held) = None
line_heard (Wait client) = None
line_heard (Open link) = None
line_heard Wake = None
line_heard Cut = None
line_heard (Say line) = None
line_heard (Hear line) = Some line

-- all those of messages, and of what was sent, in order
abbrev pub told_in : {W L : Type 0} → List (Message W L) → List Line
told_in messages = filter_map line_told messages

abbrev pub heard_in : {W L : Type 0} → List (Message W L) → List Line
heard_in messages = filter_map line_heard messages

abbrev pub told_by_sends : {W L : Type 0} → List (Colour × Message W L) → List Line
told_by_sends sends = filter_map (λ send. line_told send.1) sends

abbrev pub heard_by_sends : {W L : Type 0} → List (Colour × Message W L) → List Line
heard_by_sends sends = filter_map (λ send. line_heard send.1) sends

-- whether a client's link comes by a message, and by one of several
abbrev pub is_open : {W L : Type 0} → Message W L → Bool
is_open (Poll held) = false
is_open (Accept held) = false
is_open (Wait client) = false
is_open (Open link) = true
is_open Wake = false
is_open Cut = false
is_open (Say line) = false
is_open (Hear line) = false

abbrev pub has_open : {W L : Type 0} → List (Message W L) → Bool
has_open [] = false
has_open (message ∷ messages) = if is_open message then true else has_open messages

-- the lines that a client hears once its link has come
abbrev pub heard_since_open : {W L : Type 0} → List (Message W L) → List Line
heard_since_open [] = []
heard_since_open (message ∷ messages) =
    if is_open message then heard_in messages else heard_since_open messages

-- how often the desk is to ask the world
abbrev pub asks_world : {W L : Type 0} → Message W L → ℕ
asks_world (Poll held) = 1
asks_world (Accept held) = 1
asks_world (Wait client) = 0
asks_world (Open link) = 0
asks_world Wake = 0
asks_world Cut = 0
asks_world (Say line) = 0
asks_world (Hear line) = 0

abbrev pub asked_in : {W L : Type 0} → List (Message W L) → ℕ
asked_in messages = sum_by asks_world messages
