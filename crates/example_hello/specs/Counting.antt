-- What a run of the app leaves.
use Rattle.std.specs.Prelude.{◌≡◌, ◌-◌, ◌%◌, ◌^◌, ℕ, List, Some, map, length, min, slice_get}
use Rattle.mely_app.specs.declared.running.Ended.{Ended}
use Rattle.mely_event.specs.declared.colour.Colour.{Colour}
use Rattle.mely_history.specs.History.{registered_of}
use Rattle.mely_history.specs.Legal.{IsDrained}
use Rattle.mely_history.specs.declared.entry.Entry.{Entry}
use Rattle.example_hello.specs.declared.counter.Counter.{Counter}

-- the histories of its two shards
abbrev pub histories_of : Ended Counter → List (List Entry)
histories_of ended = map (λ history. history.items) ended.histories.items

-- as many events were counted as the history says were registered on the colour, as far as 64 bits
-- go
abbrev pub Counts : List Entry → Colour → Counter → Type 0
Counts history c state = state.count ≡ min (length (registered_of history c)) (2 ^ 64 - 1)

-- there are two colours and two histories, in which nothing runs or waits, and each colour has
-- counted all that was registered on it
pub record AllCounted (ended : Ended Counter) : Type 0 where
  pub colours : length ended.states.items ≡ 2
  pub shards : length (histories_of ended) ≡ 2
  pub drained : (shard : ℕ) (history : List Entry)
      → slice_get (histories_of ended) shard ≡ Some history → IsDrained history
  pub counted : (c : Colour) (state : Counter) (history : List Entry)
      → slice_get ended.states.items c.0 ≡ Some state
      → slice_get (histories_of ended) (c.0 % 2) ≡ Some history → Counts history c state

-- each colour has counted so many events: who greets greets so often, and who hears it hears
-- each greeting once
pub record AllGreeted (times : ℕ) (ended : Ended Counter) : Type 0 where
  pub colours : length ended.states.items ≡ 2
  pub each : (c : Colour) (state : Counter) → slice_get ended.states.items c.0 ≡ Some state
      → state.count ≡ times
