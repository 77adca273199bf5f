-- What a run of actors leaves.
use Rattle.std.specs.Prelude.{◌≡◌, ◌<◌, ◌+◌, ◌++◌, ◌∷◌, ◌⊎◌, ℕ, List, [], Option, Some, false, length, map, slice_get, sum_by}
use Rattle.std.specs.List.{AllByRecursion}
use Rattle.mely_event.specs.declared.colour.Colour.{Colour}
use Rattle.mely_history.specs.History.{registered_of}
use Rattle.mely_history.specs.Legal.{AreLegal, IsDrained}
use Rattle.mely_history.specs.Setup.{colours_of, shape_of}
use Rattle.mely_history.specs.declared.entry.Entry.{Entry}
use Rattle.mely_history.specs.declared.setup.Setup.{Setup}
use Rattle.mely_weave.specs.Side.{shard_of}
use Rattle.mely_app.specs.Puts.{sum_colours}
use Rattle.mely_actor.specs.declared.actor.Actor.{Ghosts as ActorWords}
use Rattle.mely_actor.specs.declared.load.Plan.{Plan}
use Rattle.mely_actor.specs.KeptState.{KeptState}
use Rattle.mely_actor.specs.Running.{Keeps}
use Rattle.mely_actor.specs.Sending.{IsThere, count_to, is_sent_by, messages_in, none_sent, sends_to, sent_by}
use Rattle.mely_actor.specs.Serial.{Receipt, ReceivedAsByOne}

module _ {A V M : Type 0} (a : ActorWords A V M) where
  -- the state of a colour that has received nothing
  pub record IsFresh (plan : Plan A M) (colour : Colour) (state : KeptState A M V) : Type 0 where
    pub log : state.log ≡ record { colour = colour; events = [] }
    pub of_plan : state.plan ≡ plan
    pub none : state.count ≡ 0
    pub nothing : state.waiting ≡ []
    pub begins : a.kept plan.actor colour [] [] state.value

  -- these are such states of the first colours, so many
  pub record AreMade (plan : Plan A M) (count : ℕ) (states : List (KeptState A M V)) : Type 0 where
    pub many : length states ≡ count
    pub each : (i : ℕ) (state : KeptState A M V) → slice_get states i ≡ Some state
        → IsFresh plan (record { 0 = i }) state

  -- these are values of the first colours, so many, which have received and sent nothing
  pub record AreBegun (actor : A) (count : ℕ) (values : List V) : Type 0 where
    pub many : length values ≡ count
    pub each : (i : ℕ) (value : V) → slice_get values i ≡ Some value
        → a.kept actor (record { 0 = i }) [] [] value

  -- What is left of a run for which there was no memory: nothing, or for each colour a value that
  -- keeps the author's fact over some messages that the colour has received, and some that it has
  -- sent; or none, where memory was wanted on the colour itself.
  pub record AreLeft (actor : A) (count : ℕ) (values : List (Option V)) : Type 0 where
    pub many : (values ≡ []) ⊎ (length values ≡ count)
    pub each : (i : ℕ) (value : V) → slice_get values i ≡ Some (Some value)
        → Keeps a actor (record { 0 = i }) value

  -- a receipt on a colour that has received and sent these before and has this value: what it
  -- leaves keeps the author's fact over these, the message, and what is sent meanwhile
  pub record IsNext (actor : A) (colour : Colour) (received : List M) (sent : List (Colour × M))
      (value : V) (receipt : Receipt M V) : Type 0 where
    pub here : receipt.colour ≡ colour
    pub before : receipt.value ≡ value
    pub keeps : a.kept actor colour (received ++ receipt.message ∷ []) (sent ++ receipt.sends)
        receipt.becomes

  -- one after another these receipts lead from the one value to the other, on a colour that has
  -- received and sent these before
  abbrev pub Lead : A → Colour → List M → List (Colour × M) → V → List (Receipt M V) → V → Type 0
  Lead actor colour received sent from [] to = to ≡ from
  Lead actor colour received sent from (receipt ∷ later) to =
      IsNext actor colour received sent from receipt
      × Lead actor colour (received ++ receipt.message ∷ []) (sent ++ receipt.sends)
      receipt.becomes later to

  -- Receipts of a colour led from the value that it was given to the other one, and the author's
  -- fact held after each. So where it received nothing it has the value that it was given.
  abbrev pub IsReached : A → Colour → V → V → Type 0
  IsReached actor colour given value = (receipts : List (Receipt M V))
      × Lead actor colour [] [] given receipts value

  -- each value that is left was reached from the one that its colour was given
  abbrev pub AreReached : A → List V → List (Option V) → Type 0
  AreReached actor given values = (i : ℕ) (first value : V) → slice_get given i ≡ Some first
      → slice_get values i ≡ Some (Some value) → IsReached actor (record { 0 = i }) first value

  -- There is a value for each colour, and a legal history for each shard, in which nothing runs or
  -- waits. What each colour received is what its history says was registered on it, without the
  -- library's own events, each message once, in that order; each might be sent to it; and the value
  -- keeps the author's fact over exactly what was received and sent. What a colour received is what
  -- was posted to it and what all colours sent to it, with all its data: so it is counted, whatever
  -- number a message has. Each message has its sender, and what came from one is what that one sent
  -- there, in the order in which it sent it. And one thread might have received all messages, one
  -- after another, each when it was under way, with the author's fact at each moment.
  pub record AreKept (actor : A) (setup : Setup) (posts : List (Colour × M))
      (histories : List (List Entry)) (values : List V) : Type 0 where
    pub many : length values ≡ colours_of setup
    pub shards : length histories ≡ (shape_of setup).shards
    pub legal : AreLegal setup histories
    pub drained : (shard : ℕ) (history : List Entry) → slice_get histories shard ≡ Some history
        → IsDrained history
    pub received : Colour → List M
    pub registered : (c : Colour) (history : List Entry) → c.0 < colours_of setup
        → slice_get histories (shard_of setup c) ≡ Some history
        → map a.event_of (received c) ≡ messages_in (registered_of history c)
    pub sound : (c : Colour) → c.0 < colours_of setup
        → AllByRecursion (a.sound actor c) (received c)
    pub sent : Colour → List (Colour × M)
    pub kept : (c : Colour) (value : V) → slice_get values c.0 ≡ Some value
        → a.kept actor c (received c) (sent c) value
    pub arrived : (c : Colour) → c.0 < colours_of setup → (number : M → ℕ)
        → sum_by number (received c)
        ≡ count_to c number posts + sum_colours (colours_of setup) (λ d. count_to c number (sent d))
    pub senders : Colour → List (Option Colour)
    pub all_sent : (c : Colour) → c.0 < colours_of setup → length (senders c) ≡ length (received c)
    pub there : (c : Colour) → c.0 < colours_of setup
        → AllByRecursion (IsThere (colours_of setup)) (senders c)
    pub posted : (c : Colour) → c.0 < colours_of setup
        → sent_by none_sent (senders c) (received c) ≡ sends_to c posts
    pub in_order : (c d : Colour) → c.0 < colours_of setup
        → sent_by (is_sent_by d) (senders c) (received c) ≡ sends_to c (sent d)
    pub serial : ReceivedAsByOne a actor posts values received sent

-- each value is that of its state, none of which has failed
pub record AreValues {A M V : Type 0} (states : List (KeptState A M V)) (values : List V)
    : Type 0 where
  pub many : length values ≡ length states
  pub each : (i : ℕ) (state : KeptState A M V) (value : V) → slice_get states i ≡ Some state
      → slice_get values i ≡ Some value → value ≡ state.value
  pub well : (i : ℕ) (state : KeptState A M V) → slice_get states i ≡ Some state
      → state.failed ≡ false

module _ {A M V : Type 0} (a : ActorWords A V M) where
  -- the value of a state that hasn't failed
  pub record IsTaken (state : KeptState A M V) (value : V) : Type 0 where
    pub is : value ≡ state.value
    pub well : state.failed ≡ false
    pub keeps : Keeps a state.plan.actor state.log.colour value

  -- each value is that of its state, which hasn't failed
  pub record AreTaken (states : List (KeptState A M V)) (values : List (Option V)) : Type 0 where
    pub many : length values ≡ length states
    pub each : (i : ℕ) (state : KeptState A M V) (value : V) → slice_get states i ≡ Some state
        → slice_get values i ≡ Some (Some value) → IsTaken state value
