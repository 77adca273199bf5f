-- How an event joins a trail.
use Rattle.std.specs.Prelude.{◌≡◌, ◌++◌, ◌∷◌, []}
use Rattle.mely_event.specs.declared.event.Event.{Event}
use Rattle.mely_event.specs.TrailLog.{TrailLogState}

-- the event stands last, and the colour stays
pub record Joins (event : Event) (before after : TrailLogState) : Type 0 where
  pub colour : after.colour ≡ before.colour
  pub trail : after.events ≡ before.events ++ event ∷ []
