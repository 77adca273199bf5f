-- Any list of posts and steps, and what holds after it.
use Rattle.std.specs.Prelude.{◌≡◌, ◌<◌, ℕ, zero, suc, List, ◌∷◌, [], ◌++◌, Option, Some, IsSome, Result, ◌⊎◌, slice_get}
use Rattle.mely_event.specs.declared.colour.Colour.{Colour}
use Rattle.mely_event.specs.declared.event.Event.{Event}
use Rattle.mely_event.specs.declared.unregistered.Unregistered.{Unregistered}
use Rattle.mely_event.specs.declared.trail.Trail.{Ghosts as TrailWords}
use Rattle.mely_history.specs.declared.registered.Registered.{Registered}
use Rattle.mely_history.specs.declared.entry.Entry.{Entry}
use Rattle.mely_history.specs.Setup.{shape_of}
use Rattle.mely_shard.specs.Shard.{ShardState}
use Rattle.mely_steal.specs.Marks.{mark_of}
use Rattle.mely_core.specs.CoreQueue.{CoreQueueState}
use Rattle.mely_worker.specs.declared.made.Made.{Made}
use Rattle.mely_worker.specs.declared.app.App.{Ghosts as AppWords}
use Rattle.mely_worker.specs.Access.{FitsSetup}
use Rattle.mely_worker.specs.Conditions.{MayStep}
use Rattle.mely_worker.specs.Worker.{WorkerState}
use Rattle.mely_weave.specs.Marks.{Placed}
use Rattle.mely_weave.specs.Hands.{held_by}
use Rattle.mely_weave.specs.Calls.{IsOut}
use Rattle.mely_weave.specs.SideStands.{SideStands}
use Rattle.mely_weave.specs.Weave.{WeaveState}
use Rattle.mely_weave.specs.Steps.{StepsAt, PostsAt}

-- a post, refused or not: event and load fit, and the shards and the chains keep
-- what each keeps for itself
pub record PostCall {S P F : Type 0} (t : TrailWords S F)
    (fits : F → Colour → Event → Option P → Type 0) (colour : Colour) (event : Event)
    (load : Option P) (answer : Result Registered (Unregistered P))
    (before after : WeaveState S P) : Type 0 where
  pub may : FitsSetup fits before.setup (t.frame_of before.given) (colour, event, load)
  pub posts : PostsAt t before colour event load answer after
  pub parts : SideStands t fits posts.side

module _ {R S P F : Type 0} (t : TrailWords S F) (fits : F → Colour → Event → Option P → Type 0)
    (y : AppWords R P S F) where
  -- a step of a core under an app: it is one of the cores, the shards and the chains keep what each
  -- keeps for itself, and the worker what its next step asks
  pub record StepCall (app : R) (core : ℕ) (step : Made)
      (before after : WeaveState S P) : Type 0 where
    pub there : core < (shape_of before.setup).cores
    pub steps : StepsAt t y app before core step after
    pub parts : SideStands t fits steps.side
    pub may : MayStep t fits steps.side.setup steps.side.core (t.frame_of steps.side.given)
        (IsOut steps.side) steps.becomes

  -- a step of some core under some app
  abbrev pub SomeStep : WeaveState S P → WeaveState S P → Type 0
  SomeStep before after = (app : R) × (core : ℕ) × (step : Made)
      × StepCall app core step before after

  -- a post of something, with some answer
  abbrev pub SomePost : WeaveState S P → WeaveState S P → Type 0
  SomePost before after = (colour : Colour) × (event : Event) × (load : Option P)
      × (answer : Result Registered (Unregistered P))
      × PostCall t fits colour event load answer before after

  -- one call on a weave: a step of one of its cores, or a post from outside
  abbrev pub Call : WeaveState S P → WeaveState S P → Type 0
  Call before after = SomeStep before after ⊎ SomePost before after

  -- so many calls, of whatever cores and colours
  unfoldable pub WeaveRun : ℕ → WeaveState S P → WeaveState S P → Type 0
  WeaveRun zero before after = after ≡ before
  WeaveRun (suc n) before after = (between : WeaveState S P)
      × WeaveRun n before between × Call between after

  -- some number of calls
  abbrev pub IsRun : WeaveState S P → WeaveState S P → Type 0
  IsRun before after = (count : ℕ) × WeaveRun count before after

module _ {S P : Type 0} where
  -- each history is an earlier one, and more
  abbrev pub HistoriesGrow : WeaveState S P → WeaveState S P → Type 0
  HistoriesGrow before after = (number : ℕ) (has : ShardState S P) → slice_get before.shards number
      ≡ Some has → (is : ShardState S P) × (slice_get after.shards number ≡ Some is)
      × ((more : List Entry) × (is.history ≡ has.history ++ more))

  -- no chain has a mark of a colour whose mark is in a hand, so that none of these
  -- marks is refused by a chain
  abbrev pub NoneIsThere : WeaveState S P → Type 0
  NoneIsThere weave = (core : ℕ) (w : WorkerState S P) (held : Placed)
      → slice_get weave.workers core
      ≡ Some w → held_by w ≡ held ∷ [] → (to : ℕ) (queue : CoreQueueState)
      → slice_get weave.chains to ≡ Some queue → IsSome (mark_of held.1.colour queue.chain) → ⊥
