-- What messages are, which colours may be sent them, and who sends them.
use Rattle.std.specs.Prelude.{◌≡◌, ◌<◌, ◌≤◌, ◌+◌, ℕ, List, Bool, false, Option, None, Some, ⊤, filter_map}
use Rattle.mely_event.specs.declared.colour.Colour.{Colour}
use Rattle.mely_event.specs.declared.event.Event.{Event}
use Rattle.sws_link.specs.Links.{IsInitialLink, LinkContents}
use Rattle.sws_link.specs.Worlds.{WorldContents}
use Rattle.mely_net.specs.declared.message.Held.{Held}
use Rattle.mely_net.specs.declared.message.Message.{Message}
use Rattle.mely_net.specs.declared.message.Message.TheVariants.{Poll, Accept, Wait, Open, Wake, Leave, Ask, Reply}

-- the row of an event without a number
abbrev pub of_row : ℕ → Event
of_row handler = record { handler = handler; arg = 0 }

-- under which event a message stands in the histories
abbrev pub event_of : {W L Q P : Type 0} → Message W L Q P → Event
event_of (Poll held) = of_row 1
event_of (Accept held) = of_row 2
event_of (Wait client) = of_row 3
event_of (Open link) = of_row 4
event_of Wake = of_row 5
event_of Leave = of_row 6
event_of (Ask client request) = of_row 7
event_of (Reply cell reply) = of_row 8

-- the world has given as many links as is said, of so many in all
abbrev pub Holds : {W : Type 0} → (W → WorldContents) → ℕ → Held W → Type 0
Holds tells clients held = ((tells held.world).accepted ≡ held.accepted)
    × ((tells held.world).total ≡ clients)

-- the colour is that of a connection, of so many behind so many cells
pub record IsClient (cells clients : ℕ) (colour : Colour) : Type 0 where
  pub behind : cells < colour.0
  pub there : colour.0 < cells + clients + 1

-- nothing was taken of the link or written to it, and it isn't shut
abbrev pub IsNew : {L : Type 0} → (L → Option LinkContents) → (L → Bool) → L → Type 0
IsNew tells is_shut link = (is_shut link ≡ false) × IsInitialLink (tells link)

module _ {W L Q P : Type 0} (tells : W → WorldContents) (link_tells : L → Option LinkContents)
    (is_shut : L → Bool) (cells clients : ℕ) (colour : Colour) where
  -- what may be sent to a colour: the desk asks the world, cells are asked, connections are opened,
  -- go on, end and are replied to
  abbrev pub MayGet : Message W L Q P → Type 0
  MayGet (Poll held) = (colour.0 ≡ 0) × (held.accepted < clients → Holds tells clients held)
  MayGet (Accept held) =
      (colour.0 ≡ 0) × (held.accepted < clients) × Holds tells clients held
  MayGet (Wait client) = (colour.0 ≡ 0) × (client < clients)
  MayGet (Open link) = IsClient cells clients colour × IsNew link_tells is_shut link
  MayGet Wake = IsClient cells clients colour
  MayGet Leave = IsClient cells clients colour
  MayGet (Ask client request) = (0 < colour.0) × (colour.0 ≤ cells) × (client < clients)
  MayGet (Reply cell reply) = IsClient cells clients colour × (cell < cells)

-- who asks or replies says so by its number
abbrev pub IsSigned : {W L Q P : Type 0} → ℕ → Colour → Message W L Q P → Type 0
IsSigned cells sender (Poll held) = ⊤
IsSigned cells sender (Accept held) = ⊤
IsSigned cells sender (Wait client) = ⊤
IsSigned cells sender (Open link) = ⊤
IsSigned cells sender Wake = ⊤
IsSigned cells sender Leave = ⊤
IsSigned cells sender (Ask client request) = sender.0 ≡ client + cells + 1
IsSigned cells sender (Reply cell reply) = sender.0 ≡ cell + 1

-- it neither asks nor replies
abbrev pub IsQuiet : {W L Q P : Type 0} → Message W L Q P → Type 0
IsQuiet (Poll held) = ⊤
IsQuiet (Accept held) = ⊤
IsQuiet (Wait client) = ⊤
IsQuiet (Open link) = ⊤
IsQuiet Wake = ⊤
IsQuiet Leave = ⊤
IsQuiet (Ask client request) = ⊥
IsQuiet (Reply cell reply) = ⊥

-- what a message asks, with who asks it
abbrev pub request_in : {W L Q P : Type 0} → Message W L Q P → Option (ℕ × Q)
request_in (Poll held) = None
request_in (Accept held) = None
request_in (Wait client) = None
request_in (Open link) = None
request_in Wake = None
request_in Leave = None
request_in (Ask client request) = Some (client, request)
request_in (Reply cell reply) = None

-- what a message replies, with the cell that replies it
abbrev pub reply_in : {W L Q P : Type 0} → Message W L Q P → Option (ℕ × P)
reply_in (Poll held) = None
reply_in (Accept held) = None
reply_in (Wait client) = None
reply_in (Open link) = None
reply_in Wake = None
reply_in Leave = None
reply_in (Ask client request) = None
reply_in (Reply cell reply) = Some (cell, reply)

-- a number beside what there is
abbrev pub at : {X : Type 0} → ℕ → Option (ℕ × X) → Option (ℕ × X)
at number None = None
at number (Some one) = Some (number, one.1)

-- all that messages ask and reply, in order
abbrev pub requests_in : {W L Q P : Type 0} → List (Message W L Q P) → List (ℕ × Q)
requests_in messages = filter_map request_in messages

abbrev pub replies_in : {W L Q P : Type 0} → List (Message W L Q P) → List (ℕ × P)
replies_in messages = filter_map reply_in messages

-- the same of what was sent, each with the colour that it was sent to
abbrev pub requests_sent : {W L Q P : Type 0} → List (Colour × Message W L Q P) → List (ℕ × Q)
requests_sent sent = filter_map (λ send. at send.0.0 (request_in send.1)) sent

abbrev pub replies_sent : {W L Q P : Type 0} → List (Colour × Message W L Q P) → List (ℕ × P)
replies_sent sent = filter_map (λ send. at send.0.0 (reply_in send.1)) sent
