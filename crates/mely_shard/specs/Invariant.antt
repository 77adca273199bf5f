-- Within the crate: what the fields of a shard keep. Callers see it as `IsConsistent` of Shard.
use Rattle.std.specs.Prelude.{◌≡◌, ◌≤◌, ◌<◌, ◌+◌, ◌/◌, ◌%◌, ℕ, List, [], Option, None, Some, Bool, length, map, take, drop, slice_index_or, count_by, is_none, slice_get, IsSome}
use Rattle.std.specs.List.{AllByRecursion}
use Rattle.mely_event.specs.declared.colour.Colour.{Colour}
use Rattle.mely_event.specs.declared.event.Event.{Event}
use Rattle.mely_event.specs.declared.trail.Trail.{Ghosts as TrailWords}
use Rattle.mely_history.specs.Setup.{shape_of, colours_of, is_listed}
use Rattle.mely_history.specs.Kept.{limit_of}
use Rattle.mely_history.specs.declared.setup.Setup.{Setup}
use Rattle.mely_history.specs.declared.entry.Entry.{Entry}
use Rattle.mely_history.specs.History.{weight}
use Rattle.mely_history.specs.Legal.{IsLegal}
use Rattle.mely_queue.specs.Turn.{EachFits}
use Rattle.mely_shard.specs.declared.colour_slot.ColourSlot.{ColourSlot}
use Rattle.mely_shard.specs.Shard.{ColourState, colour_at}
use Rattle.mely_history.specs.ColourAccount.{ColourAccount, account_of}
use Rattle.mely_history.specs.Entries.{colour_of}

-- a colour of a shard, as contracts see it
abbrev pub lane_of : {S P : Type 0} → ColourSlot S P → ColourState S P
lane_of slot = record { state = slot.home; given = slot.given.value; events = slot.queue.events }

-- the state of the colour is out, in a turn
abbrev pub is_away : {S P : Type 0} → ColourSlot S P → Bool
is_away slot = is_none slot.home

-- a state away, or at home
abbrev pub StateStands : {S F : Type 0} → TrailWords S F → Colour → S → ColourAccount → ℕ
    → ℕ → Option S → Type 0
StateStands t c given s core count None = (s.last ≡ Some (core, count))
    × (s.begun ≡ s.ended + count) × (0 < count)
StateStands t c given s core count (Some state) = (s.begun ≡ s.ended)
    × (t.trail_of state ≡ take s.ended s.registered) × (t.colour_of state ≡ c)
    × (t.frame_of state ≡ t.frame_of given)

-- a slot has what the history says of its colour
pub record SlotStands {S P F : Type 0} (t : TrailWords S F)
    (fits : F → Colour → Event → Option P → Type 0) (setup : Setup) (c : Colour) (s : ColourAccount)
    (slot : ColourSlot S P) : Type 0 where
  pub events : map (λ e. e.0) slot.queue.events ≡ drop s.begun s.registered
  pub weights : slot.queue.weights ≡ map (weight setup) (drop s.begun s.registered)
  pub started : slot.queue.started ≡ s.begun
  pub finished : slot.queue.finished ≡ s.ended
  pub begun : s.begun ≤ length s.registered
  pub owner : slot.owner ≡ s.owner
  pub fit : EachFits (fits (t.frame_of slot.given.value) c) slot.queue.events
  pub state : StateStands t c slot.given.value s slot.core slot.count slot.home

-- the emptied lists into which a shard is taken apart have room for each of its colours
pub record HasRoom (states states_room queues queues_room places : ℕ) : Type 0 where
  pub no_state : states ≡ 0
  pub no_queue : queues ≡ 0
  pub room_for_states : places ≤ states_room
  pub room_for_queues : places ≤ queues_room

-- the initial slot of a colour
pub record IsInitialSlot {S P : Type 0} (setup : Setup) (c : ℕ) (state : S)
    (slot : ColourSlot S P) : Type 0 where
  pub queue : slot.queue ≡ record { events = []; weights = []; started = 0; finished = 0 }
  pub home : slot.home ≡ Some state
  pub given : slot.given.value ≡ state
  pub owner : slot.owner ≡ c % (shape_of setup).cores

-- the slots of the initial states of a shard
abbrev pub AreInitialSlots : {S P : Type 0} → Setup → ℕ → List S → List (ColourSlot S P) → Type 0
AreInitialSlots {S} {P} setup shard states slots = (i : ℕ) (state : S) (slot : ColourSlot S P)
    → slice_get states i ≡ Some state → slice_get slots i ≡ Some slot
    → IsInitialSlot setup (colour_at setup shard i).0 state slot

-- each state is at home
abbrev pub AreAtHome : {S P : Type 0} → List (ColourSlot S P) → Type 0
AreAtHome slots = AllByRecursion (λ slot. IsSome slot.home) slots

-- what the fields of a shard keep; the room of the history is below the limit
pub record IsConsistentShard {S P F : Type 0} (t : TrailWords S F)
    (fits : F → Colour → Event → Option P → Type 0) (setup : Setup) (shard : ℕ)
    (history : List Entry) (slots : List (ColourSlot S P)) (running capacity : ℕ) : Type 0 where
  pub legal : IsLegal setup history
  pub numbered : shard < (shape_of setup).shards
  pub whole : (c : ℕ) → c < colours_of setup → c % (shape_of setup).shards ≡ shard
      → c / (shape_of setup).shards < length slots
  pub only : (i : ℕ) → i < length slots → (colour_at setup shard i).0 < colours_of setup
  pub each : (i : ℕ) (d : ColourSlot S P) → i < length slots
      → SlotStands t fits setup (colour_at setup shard i)
      (account_of setup history (colour_at setup shard i)) (slice_index_or slots i d)
  pub own : AllByRecursion (λ entry. (colour_of entry).0 % (shape_of setup).shards ≡ shard) history
  pub frames : (i j : ℕ) (d : ColourSlot S P) → i < length slots → j < length slots
      → t.frame_of (slice_index_or slots i d).given.value
      ≡ t.frame_of (slice_index_or slots j d).given.value
  pub counted : running ≡ count_by is_away slots
  pub room : length history + running ≤ capacity
  pub limited : capacity ≤ limit_of (is_listed setup)
