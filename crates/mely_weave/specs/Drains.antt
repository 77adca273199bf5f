-- When nothing is left to do, rounds of one step a core, and drains: rounds until then.
use Rattle.std.specs.Prelude.{◌≡◌, ℕ, zero, suc, Bool, true, false, List, [], Option, Some, map, slice_get}
use Rattle.std.specs.List.{range_with_len}
use Rattle.mely_event.specs.declared.colour.Colour.{Colour}
use Rattle.mely_event.specs.declared.event.Event.{Event}
use Rattle.mely_event.specs.declared.trail.Trail.{Ghosts as TrailWords}
use Rattle.mely_history.specs.Setup.{shape_of}
use Rattle.mely_history.specs.Legal.{IsDrained}
use Rattle.mely_shard.specs.Shard.{ShardState}
use Rattle.mely_core.specs.CoreQueue.{CoreQueueState}
use Rattle.mely_worker.specs.declared.made.Made.{Made}
use Rattle.mely_worker.specs.declared.app.App.{Ghosts as AppWords}
use Rattle.mely_worker.specs.Phase.{is_free}
use Rattle.mely_worker.specs.Worker.{WorkerState}
use Rattle.mely_weave.specs.declared.draining.Drained.{Drained}
use Rattle.mely_weave.specs.declared.draining.Drained.TheVariants as drained
use Rattle.mely_weave.specs.Weave.{WeaveState}
use Rattle.mely_weave.specs.Runs.{CoreStep, StepsWell, Makes}

module _ {S P : Type 0} (weave : WeaveState S P) where
  -- every worker is free: none has a mark in hand or is in a turn
  abbrev pub AllFree : Type 0
  AllFree = (core : ℕ) (w : WorkerState S P) → slice_get weave.workers core ≡ Some w
      → is_free w.phase ≡ true

  -- every chain is empty: no mark waits for a worker
  abbrev pub AllEmpty : Type 0
  AllEmpty = (core : ℕ) (queue : CoreQueueState) → slice_get weave.chains core ≡ Some queue
      → queue.chain ≡ []

  -- nothing is left to do: every worker is free and every chain is empty
  pub record IsQuiet : Type 0 where
    pub free : AllFree
    pub empty : AllEmpty

  -- some worker met want of memory
  pub record SomeHalted : Type 0 where
    pub core : ℕ
    pub worker : WorkerState S P
    pub there : slice_get weave.workers core ≡ Some worker
    pub halted : worker.halted ≡ true

  -- no worker met want of memory
  abbrev pub NoneHalted : Type 0
  NoneHalted = (core : ℕ) (w : WorkerState S P) → slice_get weave.workers core
      ≡ Some w → w.halted ≡ false

  -- whether the worker of the core is free
  pub record IsFreeAt (core : ℕ) (free : Bool) : Type 0 where
    pub worker : WorkerState S P
    pub there : slice_get weave.workers core ≡ Some worker
    pub is : is_free worker.phase ≡ free

  -- in no history a colour runs or an event is queued
  abbrev pub HistoriesAreDrained : Type 0
  HistoriesAreDrained = (number : ℕ) (has : ShardState S P) → slice_get weave.shards number
      ≡ Some has
      → IsDrained has.history

module _ {R S P F : Type 0} (t : TrailWords S F) (fits : F → Colour → Event → Option P → Type 0)
    (y : AppWords R P S F) (app : R) where
  -- one step of each of so many cores, in ascending order
  pub record MakesRound (cores : ℕ) (before after : WeaveState S P) : Type 0 where
    pub steps : List CoreStep
    pub makes : Makes t fits y app steps before after
    pub ascending : map (λ step. step.0) steps ≡ range_with_len 0 cores

  -- so many rounds, before each of which no worker was halted and something was left to do
  unfoldable pub Rounds : ℕ → WeaveState S P → WeaveState S P → Type 0
  Rounds zero before after = after ≡ before
  Rounds (suc n) before after = (between : WeaveState S P) × Rounds n before between
      × NoneHalted between
      × (IsQuiet between → ⊥) × MakesRound (shape_of before.setup).cores between after

  -- so many steps of the core, before each of which its worker wasn't free
  unfoldable pub Drives : ℕ → ℕ → WeaveState S P → WeaveState S P → Type 0
  Drives core zero before after = after ≡ before
  Drives core (suc n) before after = (between : WeaveState S P) × Drives core n before between
      × IsFreeAt between core false
      × ((step : Made) × StepsWell t fits y app between core step after)

  -- the worker of the core is driven until it is free
  pub record DrivesTo (core : ℕ) (before after : WeaveState S P) : Type 0 where
    pub count : ℕ
    pub drives : Drives core count before after
    pub free : IsFreeAt after core true

  -- the workers of so many cores are driven until they are free, in ascending order
  unfoldable pub AreDriven : ℕ → WeaveState S P → WeaveState S P → Type 0
  AreDriven zero before after = after ≡ before
  AreDriven (suc core) before after = (between : WeaveState S P) × AreDriven core before between
      × DrivesTo core between after

  -- a drain: rounds until nothing is left to do, or until a worker is halted; every worker is
  -- driven then until it is free
  abbrev pub Drains : WeaveState S P → Drained → WeaveState S P → Type 0
  Drains before drained.Empty after = (n : ℕ) × Rounds n before after × NoneHalted after
      × IsQuiet after × HistoriesAreDrained after
  Drains before drained.Memory after = (n : ℕ) × (between : WeaveState S P)
      × Rounds n before between
      × SomeHalted between × AreDriven (shape_of before.setup).cores between after
      × SomeHalted after × AllFree after
