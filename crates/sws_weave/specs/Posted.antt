-- How a run on a weave begins: with one post on an initial weave.
use Rattle.std.specs.Prelude.{List, Option, Ok}
use Rattle.mely_event.specs.declared.colour.Colour.{Colour}
use Rattle.mely_event.specs.declared.event.Event.{Event}
use Rattle.mely_event.specs.declared.trail.Trail.{Ghosts as TrailWords}
use Rattle.mely_history.specs.declared.registered.Registered.{Registered}
use Rattle.mely_history.specs.declared.setup.Setup.{Setup}
use Rattle.mely_weave.specs.Making.{IsInitialWeave}
use Rattle.mely_weave.specs.StandsWell.{StandsWell}
use Rattle.mely_weave.specs.Weave.{WeaveState}
use Rattle.mely_weave.specs.WeaveRun.{PostCall}

-- the weave was made of these states, and the event posted on it
pub record IsPosted {S P F : Type 0} (t : TrailWords S F)
    (fits : F → Colour → Event → Option P → Type 0) (setup : Setup) (states : List S) (c : Colour)
    (event : Event) (load : Option P) (posted : WeaveState S P) : Type 0 where
  pub first : WeaveState S P
  pub reply : Registered
  pub made : IsInitialWeave setup states first
  pub well : StandsWell t fits first
  pub call : PostCall t fits c event load (Ok reply) first posted
