-- Steps that are made one after another, and runs of a schedule.
use Rattle.std.specs.Prelude.{◌≡◌, ◌≢◌, ℕ, List, [], ◌∷◌, ◌++◌, Option, All, length, map, take}
use Rattle.mely_event.specs.declared.colour.Colour.{Colour}
use Rattle.mely_event.specs.declared.event.Event.{Event}
use Rattle.mely_event.specs.declared.trail.Trail.{Ghosts as TrailWords}
use Rattle.mely_worker.specs.declared.made.Made.{Made}
use Rattle.mely_worker.specs.declared.made.Made.TheVariants as made
use Rattle.mely_worker.specs.declared.app.App.{Ghosts as AppWords}
use Rattle.mely_weave.specs.declared.running.Went.{Went}
use Rattle.mely_weave.specs.declared.running.Went.TheVariants as went
use Rattle.mely_weave.specs.StandsWell.{StandsWell, WasntRefused}
use Rattle.mely_weave.specs.Weave.{WeaveState}
use Rattle.mely_weave.specs.WeaveRun.{StepCall}

-- the setup is as before, and so is the state that was given at first, which tells the frame
pub record KeepsSetup {S P : Type 0} (before after : WeaveState S P) : Type 0 where
  pub setup : after.setup ≡ before.setup
  pub given : after.given ≡ before.given

-- the core of a step that was made, and its name
abbrev pub CoreStep : Type 0
CoreStep = ℕ × Made

-- no step met want of memory
abbrev pub NoneMetWant : List CoreStep → Type 0
NoneMetWant steps = All (λ step. step.1 ≢ made.Memory) steps

-- only the last of so many steps met want of memory, and the cores are named in this order
pub record StopsAfter (cores : List ℕ) (steps : List CoreStep) (count : ℕ) : Type 0 where
  pub counted : length steps ≡ count
  pub front : map (λ step. step.0) steps ≡ take count cores
  pub earlier : List CoreStep
  pub core : ℕ
  pub last : steps ≡ earlier ++ (core, made.Memory) ∷ []
  pub none : NoneMetWant earlier

-- the steps are one of each of the cores in this order, or those up to the
-- first that met want of memory
abbrev pub Goes : List ℕ → List CoreStep → Went → Type 0
Goes cores steps went.All = (map (λ step. step.0) steps ≡ cores) × NoneMetWant steps
Goes cores steps (went.Memory count) = StopsAfter cores steps count

module _ {R S P F : Type 0} (t : TrailWords S F) (fits : F → Colour → Event → Option P → Type 0)
    (y : AppWords R P S F) (app : R) where
  -- a step of the core by its worker's rule, for which no mark was refused, and
  -- after which all stands well
  pub record StepsWell (before : WeaveState S P) (core : ℕ) (step : Made)
      (after : WeaveState S P) : Type 0 where
    pub call : StepCall t fits y app core step before after
    pub accepted : WasntRefused step
    pub stands : StandsWell t fits after

  -- these steps are made one after another
  unfoldable pub Makes : List CoreStep → WeaveState S P → WeaveState S P → Type 0
  Makes [] before after = after ≡ before
  Makes (step ∷ steps) before after = (between : WeaveState S P)
      × StepsWell before step.0 step.1 between
      × Makes steps between after

  -- a run over these cores
  pub record RunsTo (before : WeaveState S P) (cores : List ℕ) (went : Went)
      (after : WeaveState S P) : Type 0 where
    pub steps : List CoreStep
    pub makes : Makes steps before after
    pub goes : Goes cores steps went
