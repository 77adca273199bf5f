-- A worker at rest, as contracts see it, and the worker that it is when it goes on.
use Rattle.std.specs.Prelude.{ℕ, List, Option, Bool}
use Rattle.mely_event.specs.declared.colour.Colour.{Colour}
use Rattle.mely_event.specs.declared.event.Event.{Event}
use Rattle.mely_worker.specs.declared.phase.Phase.TheVariants.{Free}
use Rattle.mely_worker.specs.Worker.{WorkerState}

-- a free worker: all but a phase that holds something
pub record IdleWorkerState (P : Type 0) : Type 0 where
  pub core : ℕ
  pub batch : ℕ
  pub halted : Bool
  pub victims : List ℕ
  pub lost : List (Colour × Event × Option P)
  pub place : ℕ

-- the worker that rests, free at its place
abbrev pub resumed_worker : {S P : Type 0} → IdleWorkerState P → WorkerState S P
resumed_worker rest = record {
  core = rest.core;
  batch = rest.batch;
  halted = rest.halted;
  victims = rest.victims;
  lost = rest.lost;
  phase = Free rest.place;
}
