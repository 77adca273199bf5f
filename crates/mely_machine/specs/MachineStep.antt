-- The worker's rule as a function: what one step of a core does, a line of its table after another
-- (libasync-smp's worker, with the batches and the worth of Mely). No call is refused in it, and
-- memory is never wanting.
use Rattle.std.specs.Prelude.{ℕ, zero, suc, ◌+◌, List, [], ◌∷◌, Option, None, Some, length, map, min, take, slice_get, nat_lt, if◌then◌else◌}
use Rattle.mely_event.specs.declared.colour.Colour.{Colour}
use Rattle.mely_event.specs.declared.event.Event.{Event}
use Rattle.mely_history.specs.declared.entry.Entry.{Entry}
use Rattle.mely_history.specs.declared.entry.Entry.TheVariants.{Reg, Take, Fin, Steal}
use Rattle.mely_history.specs.Entries.{colour_of}
use Rattle.mely_history.specs.History.{begun_of, ended_of, queued_of}
use Rattle.mely_steal.specs.Victims.{victims_of}
use Rattle.mely_worker.specs.declared.delivery.Delivery.{Delivery}
use Rattle.mely_worker.specs.declared.delivery.Delivery.TheVariants.{Nothing, PushMark, Report}
use Rattle.mely_machine.specs.Rules.{Rules, shard_by, owner_by, worth_by, mark_by}
use Rattle.mely_machine.specs.Listing.{Listed, hears, first_to_steal, without_colour}
use Rattle.mely_machine.specs.Machine.{Acted, Acts, Doing, Free, Popped, Picked, Landing, Pushing, Turning, Machine, history_at, list_at, enters, lists_at, turns_to, pushes}

module _ (rules : Rules) where
  -- what is to be delivered after a registration on a colour that rests: where nothing of it waited
  -- before, its mark, to its owner; where something did, a report, to its owner
  abbrev pub delivery_at_rest : List Event → List Entry → Colour → Delivery
  delivery_at_rest [] after c = PushMark (owner_by rules after c) (mark_by rules after c)
  delivery_at_rest (event ∷ queued) after c =
      Report (owner_by rules after c) c (begun_of after c) (worth_by rules after c)

  -- and after any registration, by the history before it and after it:
  -- nothing, where the colour runs
  abbrev pub delivery_by : List Entry → List Entry → Colour → Delivery
  delivery_by before after c = if nat_lt (ended_of before c) (begun_of before c) then Nothing else
      delivery_at_rest (queued_of before c) after c

  -- what a worker is at when its turn has ended, by what waits of the colour: where something does,
  -- its mark goes back on the own list
  abbrev pub doing_after : ℕ → List Entry → Colour → List Event → Doing
  doing_after core history c [] = Free 0
  doing_after core history c (event ∷ queued) = Pushing core (mark_by rules history c)

  -- from whom a core steals, in this order
  abbrev pub victims_by : ℕ → List ℕ
  victims_by core = victims_of core rules.shape.cores rules.shape.group

  -- the next place of a hunt: 0 is the own list, n the n-th victim, and behind the last
  -- victim comes the own list
  abbrev pub place_after : ℕ → ℕ → ℕ
  place_after core place = if nat_lt place (length (victims_by core)) then place + 1 else 0

  -- the history in which the entries of a colour stand
  abbrev pub history_for : {X : Type 0} → Machine X → Colour → List Entry
  history_for m c = history_at m (shard_by rules c)

  -- an entry enters the history of its colour
  abbrev pub after_entry : {X : Type 0} → Entry → Machine X → Machine X
  after_entry entry m = enters (shard_by rules (colour_of entry)) entry m

  -- a report on a colour reaches the list of a core
  abbrev pub reports : {X : Type 0} → ℕ → Colour → ℕ → ℕ → Machine X → Machine X
  reports to c started worth m =
      lists_at to (map (hears rules.shape.steal_cost m.made c started worth) (list_at m to)) m

  module _ (core : ℕ) {X : Type 0} where
    -- Free, at the own list: its front is popped; where there is none, the hunt goes on
    abbrev pub step_pop : Machine X → List Listed → Machine X
    step_pop m [] = turns_to core (Free (place_after core 0)) m
    step_pop m (l ∷ list) = turns_to core (Popped l.mark) (lists_at core list m)

    -- Free, at a victim: a mark is picked; where there is none, the hunt goes on
    abbrev pub step_pick : Machine X → ℕ → ℕ → Option Listed → Machine X
    step_pick m place victim None = turns_to core (Free (place_after core place)) m
    step_pick m place victim (Some l) =
        turns_to core (Picked l.mark)
        (lists_at victim (without_colour l.mark.colour (list_at m victim)) m)

    -- Free, at a place behind the own list: the victim of the place is tried, and where the place
    -- has none the step does nothing
    abbrev pub step_hunt : Machine X → ℕ → Option ℕ → Machine X
    step_hunt m place None = m
    step_hunt m place (Some victim) =
        step_pick m place victim
        (first_to_steal rules.shape.steal_cost rules.pinned (list_at m victim))

    -- Free: the own list is tried at place 0, and at place n the n-th victim
    abbrev pub step_free : Machine X → ℕ → Machine X
    step_free m zero = step_pop m (list_at m core)
    step_free m (suc n) = step_hunt m (suc n) (slice_get (victims_by core) n)

    -- Popped: the colour is taken, a batch of what waits of it or all
    abbrev pub step_take : Machine X → Colour → List Event → Machine X
    step_take m c queued =
        let count = min rules.shape.batch (length queued) in
        turns_to core (Turning c count (take count queued) Nothing [])
        (after_entry (Take c core count) m)

    -- Picked: the colour is stolen from its owner, and its mark is to land
    abbrev pub step_steal : Machine X → Colour → Machine X
    step_steal m c =
        let after = after_entry (Steal c (owner_by rules (history_for m c) c) core) m in
        turns_to core (Landing (mark_by rules (history_for after c) c)) after

    -- Turning, with nothing left: the turn ends
    abbrev pub step_finish : Machine X → Colour → ℕ → Machine X
    step_finish m c count =
        let after = after_entry (Fin c core count) m in
        turns_to core (doing_after core (history_for after c) c
        (queued_of (history_for after c) c)) after

    -- Turning, with something left to register: the first of it is
    abbrev pub step_register : Machine X → Colour → ℕ → List Event → Colour × Event
        → List (Colour × Event) → Machine X
    step_register m c count left put puts =
        let after = after_entry (Reg put.0 put.1 core) m in
        turns_to core (Turning c count left
        (delivery_by (history_for m put.0) (history_for after put.0) put.0) puts) after

    -- Turning, with an event left: its handler was run
    abbrev pub step_run : Machine X → Colour → ℕ → List Event → Acted X → Machine X
    step_run m c count left acted =
        turns_to core (Turning c count left Nothing acted.puts) (record m { app = acted.becomes })

    module _ (act : Acts X) where
      -- Turning, with nothing in hand or left to register: the next event is run, and where
      -- none is left the turn ends
      abbrev pub step_turn : Machine X → Colour → ℕ → List Event → Machine X
      step_turn m c count (event ∷ left) = step_run m c count left (act m.app c event)
      step_turn m c count [] = step_finish m c count

      -- Turning, with nothing in hand: all that the last event put is registered
      -- before the next event is run
      abbrev pub step_puts : Machine X → Colour → ℕ → List Event → List (Colour × Event) → Machine X
      step_puts m c count left [] = step_turn m c count left
      step_puts m c count left (put ∷ puts) = step_register m c count left put puts

      -- Turning: what is in hand goes to its core first
      abbrev pub step_turning : Machine X → Colour → ℕ → List Event → Delivery
          → List (Colour × Event) → Machine X
      step_turning m c count left (PushMark to mark) puts =
          turns_to core (Turning c count left Nothing puts) (pushes to mark m)
      step_turning m c count left (Report to colour started worth) puts =
          turns_to core (Turning c count left Nothing puts) (reports to colour started worth m)
      step_turning m c count left Nothing puts = step_puts m c count left puts

      -- the line that applies, by what the worker is at
      abbrev pub step_from : Machine X → Doing → Machine X
      step_from m (Turning c count left hand puts) = step_turning m c count left hand puts
      step_from m (Pushing to mark) = turns_to core (Free 0) (pushes to mark m)
      step_from m (Popped mark) =
          step_take m mark.colour (queued_of (history_for m mark.colour) mark.colour)
      step_from m (Picked mark) = step_steal m mark.colour
      step_from m (Landing mark) = turns_to core (Free 0) (pushes core mark m)
      step_from m (Free place) = step_free m place

      -- the step of a worker that is at this; nothing where the machine has no such worker
      abbrev pub step_of : Machine X → Option Doing → Machine X
      step_of m None = m
      step_of m (Some doing) = step_from m doing

-- a step of a core
unfoldable pub step : {X : Type 0} → Rules → Acts X → ℕ → Machine X → Machine X
step rules act core m = let after = step_of rules core act m (slice_get m.workers core) in
    record after { made = after.made + 1 }
