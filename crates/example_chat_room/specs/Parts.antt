-- What the desk, the room and a client keep.
use Rattle.std.specs.Prelude.{◌≡◌, ◌≤◌, ◌<◌, ◌+◌, ◌-◌, ◌%◌, ◌^◌, ◌++◌, ℕ, List, [], Option, None, Some, Bool, true, false, is_some, length, slice_get, ⊤}
use Rattle.std.specs.List.{AllByRecursion}
use Rattle.mely_event.specs.declared.colour.Colour.{Colour}
use Rattle.mely_actor.specs.Sending.{count_to, sends_to}
use Rattle.sws_link.specs.Worlds.{Coming}
use Rattle.sws_link.specs.declared.Link.{Ghosts as LinkWords}
use Rattle.example_chat_room.specs.declared.client.Client.{Client}
use Rattle.example_chat_room.specs.declared.desk.Desk.{Desk}
use Rattle.example_chat_room.specs.declared.line.Line.{Line}
use Rattle.example_chat_room.specs.declared.message.Message.{Message}
use Rattle.example_chat_room.specs.declared.part.Part.{Part}
use Rattle.example_chat_room.specs.declared.part.Part.TheVariants as part
use Rattle.example_chat_room.specs.declared.room.Room.{Room}
use Rattle.example_chat_room.specs.Clients.{shown_client}
use Rattle.example_chat_room.specs.Messages.{IsSigned, asked_in, asks_world, client_at, desk, has_open, heard_by_sends, heard_in, heard_since_open, told_by_sends, told_in}
use Rattle.example_chat_room.specs.Shown.{all_said, shown_to}
use Rattle.example_chat_room.specs.Talks.{IsTalk}

-- ---- the desk

-- whether the world rests at the desk, whether the network has failed, and how many links were
-- given to clients
pub record DeskView : Type 0 where
  pub rests : Bool
  pub is_broken : Bool
  pub given : ℕ

abbrev pub shown_desk : {W : Type 0} → Desk W → DeskView
shown_desk one = record {
  rests = is_some one.resting;
  is_broken = one.is_broken;
  given = one.given;
}

abbrev pub one_if : Bool → ℕ
one_if true = 1
one_if false = 0

-- What the desk does at a message: unless the network fails it asks the world once more for each
-- time that it was to, or has it rest, which it does once all clients have their links; and a link
-- goes to the client of its number.
pub record Asks {W L : Type 0} (clients asked : ℕ) (before after : DeskView)
    (sends : List (Colour × Message W L)) : Type 0 where
  pub goes_on : after.is_broken ≡ false → before.is_broken ≡ false
  pub asks : after.is_broken ≡ false → asked + one_if before.rests
      ≤ count_to desk asks_world sends + one_if after.rests
  pub all : after.is_broken ≡ false → after.rests ≡ true → before.rests ≡ false
      → clients ≤ after.given
  pub grows : before.given ≤ after.given
  pub opens : (client : ℕ) → before.given ≤ client → client < after.given
      → has_open (sends_to (client_at client) sends) ≡ true

-- ---- a client

-- the input is that of the link of this number, where that is known
abbrev pub IsInputOf : Option (List Coming) → ℕ → List ℕ → Type 0
IsInputOf None own input = ⊤
IsInputOf (Some coming) own input =
    (one : Coming) × (slice_get coming own ≡ Some one) × (input ≡ one.input)

-- A client has said these lines, and received these messages. It has come once its link has, which
-- is the one of its number. Since then it was shown each line that it heard but its own, in that
-- order, up to its end. And what was taken of its link are the lines that it has said.
pub record IsClient {W L : Type 0} (l : LinkWords L) (coming : Option (List Coming)) (own : ℕ)
    (says : List Line) (received : List (Message W L)) (client : Client L l) : Type 0 where
  pub come : is_some client.link ≡ has_open received
  pub seen : List Line
  pub missed : List Line
  pub heard : heard_since_open received ≡ seen ++ missed
  pub none_missed : client.end ≡ None → missed ≡ []
  pub input : List ℕ
  pub is_input : is_some client.link ≡ true → IsInputOf coming own input
  pub talk : IsTalk input (all_said says) (shown_to own seen) (shown_client client)

-- ---- the parts

module _ {W L : Type 0} (l : LinkWords L) (coming : Option (List Coming)) (clients : ℕ)
    (colour : Colour) (received : List (Message W L)) (sent : List (Colour × Message W L)) where
  pub record IsDesk (one : Desk W) : Type 0 where
    pub own : colour.0 ≡ 0
    pub asked : one.is_broken ≡ false → asked_in received
        ≤ count_to desk asks_world sent + one_if (is_some one.resting)
    pub all : one.is_broken ≡ false → is_some one.resting ≡ true → clients ≤ one.given
    pub opened : (client : ℕ) → client < one.given
        → has_open (sends_to (client_at client) sent) ≡ true

  pub record IsRoom (one : Room) : Type 0 where
    pub own : colour.0 ≡ 1
    pub passed : heard_by_sends sent ≡ told_in received
    pub counted : one.lines ≡ length (told_in received) % 2 ^ 64

  pub record IsSeat (client : Client L l) : Type 0 where
    pub own : 2 ≤ colour.0
    pub passed : colour.0 + 1 < clients + 2 → heard_by_sends sent ≡ heard_in received
    pub is : IsClient l coming (colour.0 - 2) (told_by_sends sent) received client

  abbrev pub IsPart : Part W L l → Type 0
  IsPart (part.Desk one) = IsDesk one
  IsPart (part.Room one) = IsRoom one
  IsPart (part.Client client) = IsSeat client

  -- what it has sent is signed, and it is what its messages made of it
  pub record KeepsPart (kept : Part W L l) : Type 0 where
    pub signed : AllByRecursion (IsSigned colour) sent
    pub is : IsPart kept
