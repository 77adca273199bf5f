-- What a chat has come to.
use Rattle.std.specs.Prelude.{◌≡◌, ◌<◌, ◌+◌, ◌%◌, ◌^◌, ◌++◌, ◌∷◌, [], ℕ, List, Option, Some, false, true, length, map, slice_get}
use Rattle.std.specs.List.{AllByRecursion}
use Rattle.mely_event.specs.declared.colour.Colour.{Colour}
use Rattle.mely_history.specs.History.{registered_of}
use Rattle.mely_history.specs.Legal.{AreLegal, IsDrained}
use Rattle.mely_history.specs.Setup.{colours_of, shape_of}
use Rattle.mely_history.specs.declared.entry.Entry.{Entry}
use Rattle.mely_history.specs.declared.setup.Setup.{Setup}
use Rattle.mely_weave.specs.Side.{shard_of}
use Rattle.mely_actor.specs.Sending.{messages_in}
use Rattle.mely_actor.specs.Serial.{Receipt, ReceivedByOne, received_in, sent_in, values_along}
use Rattle.sws_link.specs.Worlds.{Coming}
use Rattle.sws_link.specs.declared.Link.{Ghosts as LinkWords}
use Rattle.example_chat_room.specs.declared.client.Client.{Client}
use Rattle.example_chat_room.specs.declared.desk.Desk.{Desk}
use Rattle.example_chat_room.specs.declared.line.Line.{Line}
use Rattle.example_chat_room.specs.declared.message.Message.{Message}
use Rattle.example_chat_room.specs.declared.message.Message.TheVariants.{Poll}
use Rattle.example_chat_room.specs.declared.part.Part.{Part}
use Rattle.example_chat_room.specs.declared.part.Part.TheVariants as part
use Rattle.example_chat_room.specs.declared.room.Room.{Room}
use Rattle.example_chat_room.specs.Messages.{client_at, desk, event_of, has_open, heard_in, room, told_by_sends, told_in}
use Rattle.example_chat_room.specs.Parts.{IsClient}
use Rattle.example_chat_room.specs.Shown.{FitsLine, said_by}

-- There is a legal history for each worker, in which nothing runs or waits, and what each colour
-- received is what its history says was registered on it, each message once, in that order.
pub record HasRun {W L : Type 0} (clients workers : ℕ) (histories : List (List Entry))
    (received : Colour → List (Message W L)) : Type 0 where
  pub setup : Setup
  pub colours : colours_of setup ≡ clients + 2
  pub cores : (shape_of setup).cores ≡ workers
  pub shards : (shape_of setup).shards ≡ workers
  pub logs : length histories ≡ workers
  pub legal : AreLegal setup histories
  pub drained : (shard : ℕ) (history : List Entry) → slice_get histories shard ≡ Some history
      → IsDrained history
  pub registered : (c : Colour) (history : List Entry) → c.0 < clients + 2
      → slice_get histories (shard_of setup c) ≡ Some history
      → map event_of (received c) ≡ messages_in (registered_of history c)

-- At each moment of a run by one thread, which the chat might have been (`ReceivedByOne`), a client
-- is what it has received and said by then made of it: so it has been shown by then each line that
-- it has heard since it came, but its own, if its time hasn't ended.
pub record WasChat {W L : Type 0} (l : LinkWords L) (coming : Option (List Coming)) (world : W)
    (clients : ℕ) (parts : List (Part W L l)) (received : Colour → List (Message W L)) : Type 0
  where
    pub first : List (Part W L l)
    pub receipts : List (Receipt (Message W L) (Part W L l))
    pub made : ReceivedByOne (λ c. slice_get first c.0)
        ((desk, Poll (record { world = world; accepted = 0 })) ∷ []) receipts
        (λ c. slice_get parts c.0)
    pub received_are : (c : Colour) → received_in c receipts ≡ received c
    pub always : (before later : List (Receipt (Message W L) (Part W L l)))
        → receipts ≡ before ++ later → (client : ℕ) (value : Client L l) → client < clients
        → values_along (λ c. slice_get first c.0) before (client_at client) ≡ Some (part.Client value)
        → IsClient l coming client (told_by_sends (sent_in (client_at client) before))
        (received_in (client_at client) before) value

-- There is one list of lines, which the room was told, in its order, each by a client and within
-- the limit. Each of them came to each client once, in that order. A client was shown those that
-- came since its link had, but its own, whole and in that order, up to its end; and what was taken
-- of its link are its own lines, in the room's order (`IsClient`). Unless the network has failed
-- each client had its link. So it was at each moment of the run (`WasChat`), whose histories are
-- legal (`HasRun`).
pub record IsChat {W L : Type 0} (l : LinkWords L) (coming : Option (List Coming)) (world : W)
    (clients workers : ℕ) (histories : List (List Entry)) (parts : List (Part W L l)) : Type 0
  where
    pub many : length parts ≡ clients + 2
    pub received : Colour → List (Message W L)
    pub ran : HasRun clients workers histories received
    pub lines : List Line
    pub told : told_in (received room) ≡ lines
    pub by_clients : AllByRecursion (λ line. line.from < clients) lines
    pub fit : AllByRecursion (λ line. FitsLine line.text.items) lines
    pub counted : (one : Room) → slice_get parts room.0 ≡ Some (part.Room one)
        → one.lines ≡ length lines % 2 ^ 64
    pub heard : (client : ℕ) → client < clients → heard_in (received (client_at client)) ≡ lines
    pub clients_are : (client : ℕ) → client < clients → (value : Client L l)
        × (slice_get parts (client_at client).0 ≡ Some (part.Client value))
        × IsClient l coming client (said_by client lines) (received (client_at client)) value
    pub let_in : (one : Desk W) → slice_get parts desk.0 ≡ Some (part.Desk one)
        → one.is_broken ≡ false → (client : ℕ) → client < clients
        → has_open (received (client_at client)) ≡ true
    pub was : WasChat l coming world clients parts received
