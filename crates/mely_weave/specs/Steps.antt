-- What the calls of a weave do: steps by the worker's rule, and posts.
use Rattle.std.specs.Prelude.{◌≡◌, ℕ, List, Option, Some, Result, slice_get, slice_set}
use Rattle.mely_event.specs.declared.colour.Colour.{Colour}
use Rattle.mely_event.specs.declared.event.Event.{Event}
use Rattle.mely_event.specs.declared.unregistered.Unregistered.{Unregistered}
use Rattle.mely_event.specs.declared.trail.Trail.{Ghosts as TrailWords}
use Rattle.mely_history.specs.declared.registered.Registered.{Registered}
use Rattle.mely_worker.specs.declared.made.Made.{Made}
use Rattle.mely_worker.specs.declared.app.App.{Ghosts as AppWords}
use Rattle.mely_worker.specs.Worker.{WorkerState}
use Rattle.mely_worker.specs.Step.{Steps}
use Rattle.mely_weave.specs.Side.{SideState}
use Rattle.mely_weave.specs.Calls.{weave_words}
use Rattle.mely_weave.specs.Posting.{PostAs}
use Rattle.mely_weave.specs.StandsWell.{side_of}
use Rattle.mely_weave.specs.Weave.{WeaveState}

-- the weave of a side and workers
abbrev pub with_workers : {S P : Type 0} → SideState S P → List (WorkerState S P) → WeaveState S P
with_workers a workers = record {
  setup = a.setup;
  given = a.given;
  shards = a.shards;
  chains = a.chains;
  workers = workers;
}

-- the worker of the core makes a step by its rule, on the weave's own shards and chains, a mark
-- that it pushes enters, and the other workers stay
pub record StepsAt {R S P F : Type 0} (t : TrailWords S F) (y : AppWords R P S F) (app : R)
    (before : WeaveState S P) (core : ℕ) (step : Made) (after : WeaveState S P) : Type 0 where
  pub worker : WorkerState S P
  pub was : slice_get before.workers core ≡ Some worker
  pub side : SideState S P
  pub becomes : WorkerState S P
  pub steps : Steps (weave_words t) y app (side_of before core) worker step side becomes
  pub leaves : after ≡ with_workers side (slice_set before.workers core becomes)

-- a post, and the workers stay
pub record PostsAt {S P F : Type 0} (t : TrailWords S F) (before : WeaveState S P) (c : Colour)
    (event : Event) (load : Option P) (answer : Result Registered (Unregistered P))
    (after : WeaveState S P) : Type 0 where
  pub side : SideState S P
  pub posts : PostAs (weave_words t) c event load answer (side_of before 0) side
  pub leaves : after ≡ with_workers side before.workers
