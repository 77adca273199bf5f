-- The state of a colour, as contracts see it.
use Rattle.std.specs.Prelude.{List}
use Rattle.mely_event.specs.declared.colour.Colour.{Colour}
use Rattle.mely_event.specs.declared.event.Event.{Event}
use Rattle.sws_handlers.specs.KeptLines.{KeptLinesState}
use Rattle.sws_handlers.specs.declared.place.Role.{Role}

-- colour, trail, lines, hall, the world as it was at first, and what the colour is for
pub record PlaceState (H W T : Type 0) : Type 0 where
  pub colour : Colour
  pub trail : List Event
  pub lines : KeptLinesState
  pub hall : H
  pub first : W
  pub role : Role W T
