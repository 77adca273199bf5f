-- What a step by the worker's rule asks of the worker's parts, and what it does to them.
use Rattle.std.specs.Prelude.{Option}
use Rattle.mely_event.specs.declared.colour.Colour.{Colour}
use Rattle.mely_event.specs.declared.event.Event.{Event}
use Rattle.mely_event.specs.declared.trail.Trail.{Ghosts as TrailWords}
use Rattle.mely_worker.specs.declared.access.Access.{Ghosts as AccessWords}
use Rattle.mely_worker.specs.declared.app.App.{Ghosts as AppWords}
use Rattle.mely_worker.specs.declared.worker_fields.WorkerFields.{WorkerFields}
use Rattle.mely_worker.specs.declared.made.Made.{Made}
use Rattle.mely_worker.specs.declared.phase.Phase.{Phase}
use Rattle.mely_worker.specs.Access.{Stays}
use Rattle.mely_worker.specs.Conditions.{MayStepAt, AppServesAt}
use Rattle.mely_worker.specs.WorkerFields.{worker_of, IsConsistent}
use Rattle.mely_worker.specs.Step.{Steps}

module _ {A R S P F : Type 0} (t : TrailWords S F) (fits : F → Colour → Event → Option P → Type 0)
    (x : AccessWords A S P F) (y : AppWords R P S F) (app : R) (before : A) (h : WorkerFields P)
    (phase : Phase S P) where
  -- the worker is well kept, and a step meets its conditions
  pub record StepsOn : Type 0 where
    pub kept : IsConsistent h phase
    pub may : MayStepAt t fits x before (worker_of h phase)
    pub served : AppServesAt x y before app

  -- the step was made by the table, the worker is well kept, and a next step meets its conditions
  pub record StepDone (step : Made) (after : A) (h' : WorkerFields P)
      (phase' : Phase S P) : Type 0 where
    pub kept : IsConsistent h' phase'
    pub steps : Steps x y app before (worker_of h phase) step after (worker_of h' phase')
    pub keeps : x.keeps before after
    pub same : Stays x.setup_of x.core_of x.frame_of before after
    pub may : MayStepAt t fits x after (worker_of h' phase')
