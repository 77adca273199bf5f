-- What may be sent, and which events of a history are those of messages.
use Rattle.std.specs.Prelude.{◌==◌, ◌<◌, ℕ, List, [], ◌∷◌, Bool, true, false, Option, Some, None, filter, filter_map, nat_lt, if◌then◌else◌, sum_by}
use Rattle.mely_event.specs.declared.colour.Colour.{Colour}
use Rattle.mely_event.specs.declared.event.Event.{Event}

-- the message may be sent to the colour: both are there, and its row is one of the author's
pub record MaySend {M : Type 0} (colours rows : ℕ) (event_of : M → Event)
    (sound : Colour → M → Type 0) (send : Colour × M) : Type 0 where
  pub there : send.0.0 < colours
  pub own : 0 < (event_of send.1).handler
  pub row : (event_of send.1).handler < rows
  pub is_sound : sound send.0 send.1

-- the numbers of the messages that are sent to the colour
abbrev pub count_to : {M : Type 0} → Colour → (M → ℕ) → List (Colour × M) → ℕ
count_to c number sends = sum_by (λ send. if send.0.0 == c.0 then number send.1 else 0) sends

-- the messages that are sent to the colour, in order
abbrev pub sends_to : {M : Type 0} → Colour → List (Colour × M) → List M
sends_to c sends = filter_map (λ send. if send.0.0 == c.0 then Some send.1 else None) sends

-- whether nobody is the sender of a message, which was posted
abbrev pub none_sent : Option Colour → Bool
none_sent None = true
none_sent (Some d) = false

-- whether this colour is
abbrev pub is_sent_by : Colour → Option Colour → Bool
is_sent_by c None = false
is_sent_by c (Some d) = d.0 == c.0

-- the sender is one of so many colours, where there is one
abbrev pub IsThere : ℕ → Option Colour → Type 0
IsThere colours None = Unit {0}
IsThere colours (Some d) = d.0 < colours

-- of messages, each with its sender at the same place, those whose sender is such, in order
abbrev pub sent_by : {M : Type 0} → (Option Colour → Bool) → List (Option Colour) → List M → List M
sent_by test [] messages = []
sent_by test (sender ∷ senders) [] = []
sent_by test (sender ∷ senders) (message ∷ messages) =
    if test sender then message ∷ sent_by test senders messages else sent_by test senders messages

-- whether the event is that of a message, and not one of the library's own
abbrev pub is_message : Event → Bool
is_message event = nat_lt 0 event.handler

-- the events of messages, among all that a colour's history has
abbrev pub messages_in : List Event → List Event
messages_in events = filter is_message events

-- The library's own events have handler 0: the first of a run, which sends what is posted, and a
-- turn, by which a colour sends more of what waits there.
abbrev pub first_event : Event
first_event = record { handler = 0; arg = 0 }

abbrev pub turn_event : Event
turn_event = record { handler = 0; arg = 1 }
