-- What a worker has in hand.
use Rattle.std.specs.Prelude.{ℕ, List, [], ◌∷◌, Option, None, Some}
use Rattle.mely_event.specs.declared.colour.Colour.{Colour}
use Rattle.mely_worker.specs.declared.phase.Phase.{Phase}
use Rattle.mely_worker.specs.declared.phase.Phase.TheVariants.{Free, Popped, Picked, Landing, Pushing, Turning}
use Rattle.mely_worker.specs.declared.delivery.Delivery.{Delivery}
use Rattle.mely_worker.specs.declared.delivery.Delivery.TheVariants.{Nothing, PushMark, Report}
use Rattle.mely_worker.specs.Worker.{WorkerState}
use Rattle.mely_weave.specs.Marks.{Placed}

-- the mark of a turning worker
abbrev pub mark_in : Delivery → List Placed
mark_in Nothing = []
mark_in (PushMark core mark) = (core, mark) ∷ []
mark_in (Report core colour started worth) = []

-- the mark that a worker of a core holds, with the core that it is for: a popped mark is for the
-- worker's own, a picked one for the victim that it was taken from, and one that is to be pushed
-- for the core that it is to be pushed to
abbrev pub held_in : {S P : Type 0} → ℕ → Phase S P → List Placed
held_in core (Free place) = []
held_in core (Popped mark) = (core, mark) ∷ []
held_in core (Picked mark victim) = (victim, mark) ∷ []
held_in core (Landing mark) = (core, mark) ∷ []
held_in core (Pushing to mark) = (to, mark) ∷ []
held_in core (Turning turn hand puts) = mark_in hand

-- the marks that a worker has in its hand, each on its core
abbrev pub held_by : {S P : Type 0} → WorkerState S P → List Placed
held_by w = held_in w.core w.phase

-- the colour that a worker runs
abbrev pub colour_in : {S P : Type 0} → Phase S P → Option Colour
colour_in (Free place) = None
colour_in (Popped mark) = None
colour_in (Picked mark victim) = None
colour_in (Landing mark) = None
colour_in (Pushing to mark) = None
colour_in (Turning turn hand puts) = Some turn.colour

-- the colour that a worker runs, where it does
abbrev pub colour_run_by : {S P : Type 0} → WorkerState S P → Option Colour
colour_run_by w = colour_in w.phase
