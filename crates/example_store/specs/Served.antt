-- What the store has come to.
use Rattle.std.specs.Prelude.{◌≡◌, ◌+◌, ◌%◌, ◌<◌, ◌++◌, ◌∷◌, ◌⊎◌, ℕ, List, Option, Some, String, length, slice_get, sum_by}
use Rattle.std.specs.Global.{Global}
use Rattle.std.specs.List.{AllByRecursion, Contains}
use Rattle.mely_app.specs.Puts.{sum_colours}
use Rattle.mely_actor.specs.Sending.{count_to}
use Rattle.mely_actor.specs.Serial.{Receipt, ReceivedByOne, received_in}
use Rattle.mely_event.specs.declared.colour.Colour.{Colour}
use Rattle.example_store.specs.declared.message.Message.{Message}
use Rattle.example_store.specs.declared.message.Message.TheVariants.{Answer, Get}
use Rattle.example_store.specs.declared.store.Slot.{Slot}
use Rattle.example_store.specs.declared.store.TheConstants.{BUCKETS, CLIENTS}
use Rattle.example_store.specs.Stores.{IsPlaced, IsStored, found_in, text_of}

-- of these receipts one is of a request for the key, by the client of this colour, and its bucket
-- had this under the key then
pub record WasAsked (before : List (Receipt Message Slot)) (to : Colour) (key : ℕ)
    (found : Option (String Global)) : Type 0 where
  pub earlier : List (Receipt Message Slot)
  pub asked : Receipt Message Slot
  pub between : List (Receipt Message Slot)
  pub place : before ≡ earlier ++ asked ∷ between
  pub bucket : asked.colour.0 ≡ key % BUCKETS
  pub client : ℕ
  pub get : asked.message ≡ Get key client
  pub asks : to ≡ record { 0 = BUCKETS + client }
  pub had : text_of found ≡ found_in asked.value.map.entries key

-- Each colour has received messages of its own keys, or answers; its map is the fold of the puts
-- among them, its answers are those among them, and it replied to who asked what it had then. A
-- bucket has received exactly what was posted to it, with all its values, and a client besides what
-- was posted to it exactly what the buckets replied to it. One thread might have received all of
-- it, one message after another; and each answer that comes was posted, or its client asked for the
-- key before, and it is what the bucket had then.
pub record IsServed (posts : List (Colour × Message)) (slots : List Slot) : Type 0 where
  pub colours : length slots ≡ BUCKETS + CLIENTS
  pub received : Colour → List Message
  pub sent : Colour → List (Colour × Message)
  pub placed : (c : Colour) → c.0 < BUCKETS + CLIENTS → AllByRecursion (IsPlaced c) (received c)
  pub stored : (c : Colour) (slot : Slot) → slice_get slots c.0 ≡ Some slot
      → IsStored (received c) (sent c) slot.map.entries slot.answers.items
  pub asked : (c : Colour) → c.0 < BUCKETS → (number : Message → ℕ)
      → sum_by number (received c) ≡ count_to c number posts
  pub answered : (c : Colour) → c.0 < BUCKETS + CLIENTS → (number : Message → ℕ)
      → sum_by number (received c)
      ≡ count_to c number posts + sum_colours BUCKETS (λ d. count_to c number (sent d))
  pub first : List Slot
  pub order : List (Receipt Message Slot)
  pub in_order : (c : Colour) → received_in c order ≡ received c
  pub one_by_one : ReceivedByOne (λ c. slice_get first c.0) posts order (λ c. slice_get slots c.0)
  pub answers_are_true : (before later : List (Receipt Message Slot))
      (receipt : Receipt Message Slot) (key : ℕ) (found : Option (String Global))
      → order ≡ before ++ receipt ∷ later → receipt.message ≡ Answer key found
      → Contains posts (receipt.colour, Answer key found)
      ⊎ WasAsked before receipt.colour key found
