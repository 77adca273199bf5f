-- A ready-made trail.
use Rattle.std.specs.Prelude.{List}
use Rattle.mely_event.specs.declared.colour.Colour.{Colour}
use Rattle.mely_event.specs.declared.event.Event.{Event}

-- a trail: the colour, and the events that were run on it
pub record TrailLogState : Type 0 where
  pub colour : Colour
  pub events : List Event
