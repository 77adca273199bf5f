-- What a run leaves that came to its end.
use Rattle.std.specs.Prelude.{◌≡◌, ℕ, List, Some, length, slice_get}
use Rattle.mely_event.specs.declared.colour.Colour.{Colour}
use Rattle.mely_event.specs.declared.event.Event.{Event}
use Rattle.mely_event.specs.declared.trail.Trail.{Ghosts as TrailWords}
use Rattle.mely_history.specs.History.{registered_of}
use Rattle.mely_history.specs.Legal.{AreLegal, IsDrained}
use Rattle.mely_history.specs.Setup.{shape_of, colours_of}
use Rattle.mely_history.specs.declared.entry.Entry.{Entry}
use Rattle.mely_history.specs.declared.setup.Setup.{Setup}
use Rattle.mely_weave.specs.Side.{shard_of}
use Rattle.mely_crew.specs.Crew.{IsRegisteredIn}

-- The first event was registered, and every event that was registered was run. There is a legal
-- history for each shard, in which nothing runs or waits, and a state for each colour, of that
-- colour. What was run on the state is what its history says was registered on the colour: each
-- event once, in that order.
pub record RanAll {S F : Type 0} (t : TrailWords S F) (setup : Setup) (colour : Colour)
    (event : Event) (histories : List (List Entry)) (states : List S) : Type 0 where
  pub begun : (history : List Entry) → slice_get histories (shard_of setup colour) ≡ Some history
      → IsRegisteredIn setup colour event history
  pub legal : AreLegal setup histories
  pub shards : length histories ≡ (shape_of setup).shards
  pub drained : (shard : ℕ) (history : List Entry) → slice_get histories shard ≡ Some history
      → IsDrained history
  pub colours : length states ≡ colours_of setup
  pub coloured : (c : Colour) (state : S) → slice_get states c.0 ≡ Some state
      → t.colour_of state ≡ c
  pub ran : (c : Colour) (state : S) (history : List Entry) → slice_get states c.0 ≡ Some state
      → slice_get histories (shard_of setup c) ≡ Some history
      → t.trail_of state ≡ registered_of history c

-- the states that a run left have this frame
abbrev pub AllFramed : {S F : Type 0} → TrailWords S F → F → List S → Type 0
AllFramed {S} t frame states = (c : Colour) (state : S) → slice_get states c.0 ≡ Some state
    → t.frame_of state ≡ frame
