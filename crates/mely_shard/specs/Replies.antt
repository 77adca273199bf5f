-- Within the crate: what the slot of one colour answers, in its own fields. Callers see it by
-- the words of ShardState.
use Rattle.std.specs.Prelude.{◌≡◌, ◌==◌, ℕ, Bool, Option, None, Some, length, min, take, sum, ◌&&◌, is_some, is_none, nat_lt, if◌then◌else◌}
use Rattle.mely_event.specs.declared.colour.Colour.{Colour}
use Rattle.mely_history.specs.declared.registered.Registered.{Registered}
use Rattle.mely_history.specs.declared.registered.Registered.TheVariants.{Woke, Told, Running}
use Rattle.mely_history.specs.declared.no_take.NoTake.{NoTake}
use Rattle.mely_history.specs.declared.no_take.NoTake.TheVariants.{Elsewhere, Busy, Empty}
use Rattle.mely_history.specs.declared.after.After.{After}
use Rattle.mely_history.specs.declared.after.After.TheVariants.{More, Idle}
use Rattle.mely_history.specs.declared.no_steal.NoSteal.{NoSteal}
use Rattle.mely_history.specs.declared.no_steal.NoSteal.TheVariants as steals
use Rattle.mely_history.specs.declared.no_steal.NoSteal.TheVariants.{Own, Cheap}
use Rattle.mely_history.specs.declared.stolen.Stolen.{Stolen}
use Rattle.mely_queue.specs.ColourQueue.{registered_in, after_take}
use Rattle.mely_queue.specs.Turn.{TurnState}
use Rattle.mely_shard.specs.declared.colour_slot.ColourSlot.{ColourSlot}

-- what a registration is told, where events waited before it or not
abbrev pub reply_of : {S P : Type 0} → ColourSlot S P → Bool → Registered
reply_of slot waited =
    if is_none slot.home then Running slot.core
    else if waited then Told slot.owner slot.queue.started (sum slot.queue.weights)
    else Woke slot.owner slot.queue.started (sum slot.queue.weights)

-- why a core may not take a colour, memory aside
abbrev pub no_take_of : {S P : Type 0} → ColourSlot S P → ℕ → Option NoTake
no_take_of slot core =
    if core == slot.owner then
    if is_none slot.home then Some (Busy slot.core)
    else if nat_lt 0 (length slot.queue.events) then None
    else Some (Empty (registered_in slot.queue))
    else Some (Elsewhere slot.owner)

-- what is left after a finish
abbrev pub after_of : {S P : Type 0} → ColourSlot S P → After
after_of slot = if nat_lt 0 (length slot.queue.events) then More slot.queue.started
    (sum slot.queue.weights) else Idle

-- the state and the first events are moved out
pub record SlotTakes {S P : Type 0} (old new : ColourSlot S P) (colour : Colour) (core batch : ℕ)
    (turn : TurnState S P) : Type 0 where
  pub home : S
  pub was : old.home ≡ Some home
  pub made : turn ≡ record {
    colour = colour;
    core = core;
    count = min batch (length old.queue.events);
    state = home;
    given = home;
    events =
        take batch old.queue.events;
  }
  pub left : new ≡ record old {
    queue = after_take old.queue (min batch (length old.queue.events));
    home = None;
    core = core;
    count = min batch (length old.queue.events);
  }

-- why a core may not steal a colour, memory aside
abbrev pub no_steal_of : {S P : Type 0} → ColourSlot S P → ℕ → ℕ → Option NoSteal
no_steal_of slot to cost =
    if to == slot.owner then Some Own
    else if is_none slot.home then Some (steals.Busy slot.core)
    else if nat_lt 0 (length slot.queue.events) then
    if nat_lt cost (sum slot.queue.weights) then None
    else Some (Cheap (sum slot.queue.weights))
    else Some (steals.Empty (registered_in slot.queue))

-- what is told of a steal: the owner so far, how many events were started, and the worth
abbrev pub stolen_of : {S P : Type 0} → ColourSlot S P → Stolen
stolen_of slot = record {
  from = slot.owner;
  started = slot.queue.started;
  worth = sum slot.queue.weights;
}

-- the state is at home, and nothing waits
abbrev pub slot_is_drained : {S P : Type 0} → ColourSlot S P → Bool
slot_is_drained slot = is_some slot.home && (length slot.queue.events == 0)

-- the owner, how many events were started, and the worth, where the state is at
-- home and something waits
abbrev pub ready_of : {S P : Type 0} → ColourSlot S P → Option (ℕ × ℕ × ℕ)
ready_of slot = if is_some slot.home && nat_lt 0 (length slot.queue.events) then Some
    (slot.owner, slot.queue.started, sum slot.queue.weights) else None
