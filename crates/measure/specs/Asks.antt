-- What clients and buckets are sent, and what clients send.
use Rattle.std.specs.Prelude.{◌≡◌, ◌==◌, ◌+◌, ◌-◌, ◌%◌, ◌<◌, ◌≤◌, List, [], ◌∷◌, if◌then◌else◌, map, nat_lt}
use Rattle.mely_event.specs.declared.colour.Colour.{Colour}
use Rattle.mely_event.specs.declared.event.Event.{Event}
use Rattle.measure.specs.declared.kv.message.Message.{Message}
use Rattle.measure.specs.declared.kv.message.Message.TheVariants.{Next, Put, Get}
use Rattle.measure.specs.declared.kv.asking.TheConstants.{BUCKETS, CLIENTS}

-- under which event a message stands in the histories: a client's says how often it is to ask
abbrev pub event_of : Message → Event
event_of (Next left) = record { handler = 1; arg = left }
event_of (Put key value) = record { handler = 2; arg = 0 }
event_of (Get key) = record { handler = 2; arg = 0 }

-- a client is to ask, and a key is in the bucket of its remainder
abbrev pub IsPlaced : Colour → Message → Type 0
IsPlaced colour (Next left) = (BUCKETS ≤ colour.0) × (colour.0 < BUCKETS + CLIENTS)
IsPlaced colour (Put key value) = colour.0 ≡ key % BUCKETS
IsPlaced colour (Get key) = colour.0 ≡ key % BUCKETS

-- to whom something is sent, and under which events
abbrev pub as_events : List (Colour × Message) → List (Colour × Event)
as_events sends = map (λ send. (send.0, event_of send.1)) sends

-- who is to ask asks the bucket of the next key, and then asks on
abbrev pub asks_of : Colour → Event → List (Colour × Event)
asks_of colour event = if event.handler == 1 then (if nat_lt 0 event.arg
    then (record { 0 = (colour.0 + event.arg) % BUCKETS }, record { handler = 2; arg = 0 })
    ∷ (colour, record { handler = 1; arg = event.arg - 1 }) ∷ [] else []) else []
