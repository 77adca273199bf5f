-- What a colour of the store keeps over what it has received.
use Rattle.std.specs.Prelude.{◌≡◌, ◌+◌, ◌%◌, ◌<◌, ◌≤◌, ℕ, List, [], ◌∷◌, ◌++◌, Option, None, Some, String, fold, map, option_map}
use Rattle.std.specs.BTreeMap.{insert_entry, is_at}
use Rattle.std.specs.String.{string_bytes}
use Rattle.std.specs.Ordering.{nat_cmp}
use Rattle.std.specs.Global.{Global}
use Rattle.std.specs.List.{filter_map}
use Rattle.std.specs.Map.{lookup}
use Rattle.mely_event.specs.declared.colour.Colour.{Colour}
use Rattle.mely_event.specs.declared.event.Event.{Event}
use Rattle.example_store.specs.declared.message.Message.{Message}
use Rattle.example_store.specs.declared.message.Message.TheVariants.{Put, Get, Answer}
use Rattle.example_store.specs.declared.store.TheConstants.{BUCKETS, CLIENTS}

-- under which event a message stands in the histories
abbrev pub event_of : Message → Event
event_of (Put key value) = record { handler = 1; arg = 0 }
event_of (Get key client) = record { handler = 2; arg = client }
event_of (Answer key found) = record { handler = 3; arg = 0 }

-- a key is in the bucket of its remainder, and a client's colour stands behind all buckets
abbrev pub IsPlaced : Colour → Message → Type 0
IsPlaced colour (Put key value) = colour.0 ≡ key % BUCKETS
IsPlaced colour (Get key client) = (colour.0 ≡ key % BUCKETS) × (client < CLIENTS)
IsPlaced colour (Answer key found) = BUCKETS ≤ colour.0

-- the entries of a map after a message
abbrev pub after_one : List (ℕ × String Global) → Message → List (ℕ × String Global)
after_one entries (Put key value) = insert_entry nat_cmp entries key value
after_one entries (Get key client) = entries
after_one entries (Answer key found) = entries

-- what a message answers
abbrev pub answer_in : Message → Option (ℕ × Option (String Global))
answer_in (Put key value) = None
answer_in (Get key client) = None
answer_in (Answer key found) = Some (key, found)

-- the bytes of a value, where there is one
abbrev pub text_of : Option (String Global) → Option (List ℕ)
text_of found = option_map string_bytes found

-- what entries have under a key
abbrev pub found_in : List (ℕ × String Global) → ℕ → Option (List ℕ)
found_in entries key = text_of (lookup (is_at (nat_cmp key)) entries)

-- what a reply says: to whom, of which key, and which value
abbrev pub Reply : Type 0
Reply = Colour × ℕ × Option (List ℕ)

abbrev pub reply_in : Colour → Message → Option Reply
reply_in to (Put key value) = None
reply_in to (Get key client) = None
reply_in to (Answer key found) = Some (to, key, text_of found)

-- what a message has a bucket with these entries reply: who asks is told what they have
abbrev pub reply_to : List (ℕ × String Global) → Message → List (Option Reply)
reply_to entries (Put key value) = []
reply_to entries (Get key client) =
    Some (record { 0 = BUCKETS + client }, key, found_in entries key) ∷ []
reply_to entries (Answer key found) = []

-- what all of them do, one after another
abbrev pub replies : List (ℕ × String Global) → List Message → List (Option Reply)
replies entries [] = []
replies entries (message ∷ more) =
    reply_to entries message ++ replies (after_one entries message) more

-- the map is the fold of the puts that were received, the answers are those that were, and what was
-- sent is what the messages received have the bucket reply
pub record IsStored (received : List Message) (sent : List (Colour × Message))
    (entries : List (ℕ × String Global))
    (answers : List (ℕ × Option (String Global))) : Type 0 where
  pub replied : map (λ send. reply_in send.0 send.1) sent ≡ replies [] received
  pub map_is : entries ≡ fold after_one [] received
  pub answers_are : answers ≡ filter_map answer_in received
