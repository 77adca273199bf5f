-- What a weave has of one colour.
use Rattle.std.specs.Prelude.{◌≡◌, ◌<◌, List, Option, None, Some, length, slice_get}
use Rattle.mely_event.specs.declared.colour.Colour.{Colour}
use Rattle.mely_history.specs.declared.setup.Setup.{Setup}
use Rattle.mely_history.specs.Setup.{colours_of}
use Rattle.mely_shard.specs.Shard.{ShardState, ColourState, lane_at}
use Rattle.mely_weave.specs.Side.{shard_of}

-- the lane of a colour in a shard, if there is one
abbrev pub lane_in : {S P : Type 0} → Option (ShardState S P) → Colour → Option (ColourState S P)
lane_in None c = None
lane_in (Some has) c = lane_at has c

-- the lane of a colour: its state where it is at home, the state that it was given at first,
-- and the events that wait
abbrev pub lane_for : {S P : Type 0} → Setup → List (ShardState S P) → Colour
    → Option (ColourState S P)
lane_for setup shards c = lane_in (slice_get shards (shard_of setup c)) c

-- something of each colour, in ascending order
pub record AreByColour {S P X : Type 0} (of : ColourState S P → X) (setup : Setup)
    (shards : List (ShardState S P)) (xs : List X) : Type 0 where
  pub many : length xs ≡ colours_of setup
  pub each : (c : Colour) (lane : ColourState S P) → c.0 < colours_of setup
      → lane_for setup shards c ≡ Some lane → slice_get xs c.0 ≡ Some (of lane)
