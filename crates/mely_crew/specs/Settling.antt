-- What is done with a weave by steps alone.
use Rattle.std.specs.Prelude.{List, Option}
use Rattle.mely_event.specs.declared.colour.Colour.{Colour}
use Rattle.mely_event.specs.declared.event.Event.{Event}
use Rattle.mely_event.specs.declared.trail.Trail.{Ghosts as TrailWords}
use Rattle.mely_worker.specs.declared.app.App.{Ghosts as AppWords}
use Rattle.mely_weave.specs.Runs.{CoreStep, Makes}
use Rattle.mely_weave.specs.Weave.{WeaveState}

-- some steps were made, of whatever cores, one after another
abbrev pub MakesSome : {R S P F : Type 0} → TrailWords S F
    → (F → Colour → Event → Option P → Type 0) → AppWords R P S F → R
    → WeaveState S P → WeaveState S P → Type 0
MakesSome t fits y app before after = (steps : List CoreStep)
    × Makes t fits y app steps before after
