-- The state of a colour of actors, as contracts see it.
use Rattle.std.specs.Prelude.{ℕ, List, Bool}
use Rattle.mely_event.specs.TrailLog.{TrailLogState}
use Rattle.mely_event.specs.declared.colour.Colour.{Colour}
use Rattle.mely_actor.specs.declared.load.Plan.{Plan}

-- the trail, what stays the same over the run, how many messages the trail has, what is still to be
-- sent, the value, and whether it has failed
pub record KeptState (A M V : Type 0) : Type 0 where
  pub log : TrailLogState
  pub plan : Plan A M
  pub count : ℕ
  pub waiting : List (Colour × M)
  pub value : V
  pub failed : Bool
