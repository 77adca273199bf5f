-- The runs of handlers that a weave made which has come to its end, with what caused each, and one
-- order of all of them.
use Rattle.std.specs.Prelude.{Option, map}
use Rattle.mely_event.specs.declared.colour.Colour.{Colour}
use Rattle.mely_event.specs.declared.event.Event.{Event}
use Rattle.mely_event.specs.declared.trail.Trail.{Ghosts as TrailWords}
use Rattle.mely_note.specs.Notes.{loaded_of}
use Rattle.mely_weave.specs.Weave.{WeaveState}
use Rattle.mely_worker.specs.declared.app.App.{Ghosts as AppWords}
use Rattle.mely_chain.specs.Ended.{RanInOrder}
use Rattle.mely_cause.specs.Causes.{AreCaused}
use Rattle.mely_cause.specs.Serial.{RanAsByOne}

-- the runs of the colours are in their order, what was registered has its causes among them, and
-- one thread might have made them all
pub record RanWithCauses {R S P F : Type 0} (t : TrailWords S F)
    (fits : F → Colour → Event → Option P → Type 0) (y : AppWords R P S F) (app : R)
    (weave : WeaveState S P) (begin : Colour × Event × Option P)
    (given left : Colour → Option S) : Type 0 where
  pub order : RanInOrder t fits y app weave begin given left
  pub caused : AreCaused begin (λ c. loaded_of (order.notes c) c)
      (λ c. map (λ run. run.1) (order.by_colour c))
  pub serial : RanAsByOne begin given left (λ c. map (λ run. run.1) (order.by_colour c))
