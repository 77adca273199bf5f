-- The machine of several cores that run coloured events, as a plain value. What waits of a colour,
-- whose it is and what it is worth is not kept: the histories say it.
use Rattle.std.specs.Prelude.{ℕ, List, [], ◌∷◌, ◌++◌, unwrap_or, slice_get, slice_set}
use Rattle.mely_event.specs.declared.colour.Colour.{Colour}
use Rattle.mely_event.specs.declared.event.Event.{Event}
use Rattle.mely_event.specs.declared.mark.Mark.{Mark}
use Rattle.mely_history.specs.declared.entry.Entry.{Entry}
use Rattle.mely_worker.specs.declared.delivery.Delivery.{Delivery}
use Rattle.mely_machine.specs.Listing.{Listed}

-- what an app does with an event: what it registers, in order, and what it is then
pub record Acted (X : Type 0) : Type 0 where
  pub puts : List (Colour × Event)
  pub becomes : X

-- an app as a function: of what it is, a colour, and an event of that colour
abbrev pub Acts : Type 0 → Type 0
Acts X = X → Colour → Event → Acted X

-- what the worker of a core is at: it is free, at a place of its hunt; it has popped a mark,
-- picked one, is to land one, or is to push one on the list of a core; or it is in a turn of so
-- many events of a colour, with the events that are left, what it has in hand to deliver, and
-- what is left to register
pub data Doing : Type 0 where
  Free : (place : ℕ) → Doing
  Popped : (mark : Mark) → Doing
  Picked : (mark : Mark) → Doing
  Landing : (mark : Mark) → Doing
  Pushing : (to : ℕ) (mark : Mark) → Doing
  Turning : (colour : Colour) (count : ℕ) (left : List Event) (hand : Delivery)
      (puts : List (Colour × Event)) → Doing

-- a history for each shard, a list of marks and a worker for each core, what the app is, and
-- how many steps were made
pub record Machine (X : Type 0) : Type 0 where
  pub histories : List (List Entry)
  pub lists : List (List Listed)
  pub workers : List Doing
  pub app : X
  pub made : ℕ

module _ {X : Type 0} where
  -- the history of the shard of this number; empty where there is no such shard
  abbrev pub history_at : Machine X → ℕ → List Entry
  history_at m shard = unwrap_or (slice_get m.histories shard) []

  -- the marks that wait at the core of this number, the next one first; none
  -- where there is no such core
  abbrev pub list_at : Machine X → ℕ → List Listed
  list_at m core = unwrap_or (slice_get m.lists core) []

  -- an entry enters the history of a shard, at its end
  abbrev pub enters : ℕ → Entry → Machine X → Machine X
  enters shard entry m =
      record m { histories = slice_set m.histories shard (history_at m shard ++ entry ∷ []) }

  -- the list of a core becomes another
  abbrev pub lists_at : ℕ → List Listed → Machine X → Machine X
  lists_at core list m = record m { lists = slice_set m.lists core list }

  -- the worker of a core turns to something else
  abbrev pub turns_to : ℕ → Doing → Machine X → Machine X
  turns_to core doing m = record m { workers = slice_set m.workers core doing }

  -- a mark is pushed at the back of a core's list, and is in its class since this step
  abbrev pub pushes : ℕ → Mark → Machine X → Machine X
  pushes to mark m = lists_at to (list_at m to ++ record { mark = mark; since = m.made } ∷ []) m
