-- Which entry may follow which history.
use Rattle.std.specs.Prelude.{◌≡◌, ◌≢◌, ◌<◌, ◌≤◌, ◌+◌, ◌%◌, ℕ, List, [], Some, length, take, min, slice_get}
use Rattle.std.specs.List.{AllByRecursion}
use Rattle.mely_event.specs.HandlerTable.{rows_of}
use Rattle.mely_event.specs.declared.colour.Colour.{Colour}
use Rattle.mely_event.specs.declared.event.Event.{Event}
use Rattle.mely_history.specs.Setup.{shape_of, colours_of, handlers_of, pinned_of}
use Rattle.mely_history.specs.Entries.{colour_of}
use Rattle.mely_history.specs.History.{begun_of, ended_of, last_take, owner_of, queued_of, worth_of, IsRunning}
use Rattle.mely_history.specs.declared.setup.Setup.{Setup}
use Rattle.mely_history.specs.declared.entry.Entry.{Entry}
use Rattle.mely_history.specs.declared.entry.Entry.TheVariants.{Reg, Take, Fin, Steal}

-- the colour runs on a core, since a take of this many events
pub record IsRunningOn (history : List Entry) (c : Colour) (core count : ℕ) : Type 0 where
  pub running : IsRunning history c
  pub last : last_take history c ≡ Some (core, count)

-- the colour rests, and something of it waits
pub record IsReady (history : List Entry) (c : Colour) : Type 0 where
  pub at_rest : begun_of history c ≡ ended_of history c
  pub waiting : 0 < length (queued_of history c)

-- a registration is of a colour and of a handler that there are
pub record MayRegister (setup : Setup) (c : Colour) (event : Event) : Type 0 where
  pub colour : c.0 < colours_of setup
  pub handler : event.handler < length (rows_of (handlers_of setup))

-- the owner takes a ready colour's events, a batch or all that wait
pub record MayTake (setup : Setup) (history : List Entry) (c : Colour)
    (core count : ℕ) : Type 0 where
  pub by_owner : core ≡ owner_of setup history c
  pub ready : IsReady history c
  pub whole_batch : count ≡ min (shape_of setup).batch (length (queued_of history c))

-- the core that took last finishes all that it took
pub record MayFinish (history : List Entry) (c : Colour) (core count : ℕ) : Type 0 where
  pub last : last_take history c ≡ Some (core, count)
  pub whole : begun_of history c ≡ ended_of history c + count

-- another core takes over a ready colour that is not pinned and is worth more than the steal costs
pub record MaySteal (setup : Setup) (history : List Entry) (c : Colour) (from to : ℕ) : Type 0 where
  pub not_pinned : pinned_of setup ≤ c.0
  pub from_owner : from ≡ owner_of setup history c
  pub other : to ≢ from
  pub core : to < (shape_of setup).cores
  pub ready : IsReady history c
  pub worthy : (shape_of setup).steal_cost < worth_of setup history c

-- the entry may follow the history
abbrev pub IsAllowed : Setup → List Entry → Entry → Type 0
IsAllowed setup history (Reg c event by) = MayRegister setup c event
IsAllowed setup history (Take c core count) = MayTake setup history c core count
IsAllowed setup history (Fin c core count) = MayFinish history c core count
IsAllowed setup history (Steal c from to) = MaySteal setup history c from to

-- each entry may follow the entries before it
abbrev pub IsLegal : Setup → List Entry → Type 0
IsLegal setup history = (at : ℕ) (entry : Entry) → slice_get history at ≡ Some entry
    → IsAllowed setup (take at history) entry

-- each entry is of a colour of the shard
abbrev pub IsOfShard : Setup → ℕ → List Entry → Type 0
IsOfShard setup shard history =
    AllByRecursion (λ entry. (colour_of entry).0 % (shape_of setup).shards ≡ shard) history

-- a list of histories, one a shard
pub record AreLegal (setup : Setup) (histories : List (List Entry)) : Type 0 where
  pub legal : (shard : ℕ) (history : List Entry) → slice_get histories shard ≡ Some history
      → IsLegal setup history
  pub of_shard : (shard : ℕ) (history : List Entry) → slice_get histories shard ≡ Some history
      → IsOfShard setup shard history

-- nothing of the colour runs or waits
pub record IsDrainedOf (history : List Entry) (c : Colour) : Type 0 where
  pub at_rest : begun_of history c ≡ ended_of history c
  pub none_queued : queued_of history c ≡ []

-- no colour runs, and nothing is queued
abbrev pub IsDrained : List Entry → Type 0
IsDrained history = (c : Colour) → IsDrainedOf history c
