-- The runs that the workers of a weave made, core by core, as notes of its histories tell of them.
use Rattle.std.specs.Prelude.{◌≡◌, ◌<◌, ℕ, List, [], Option, Some, length, slice_get}
use Rattle.mely_event.specs.declared.colour.Colour.{Colour}
use Rattle.mely_event.specs.declared.event.Event.{Event}
use Rattle.mely_event.specs.declared.trail.Trail.{Ghosts as TrailWords}
use Rattle.mely_history.specs.Setup.{shape_of, shard_of}
use Rattle.mely_history.specs.declared.setup.Setup.{Setup}
use Rattle.mely_note.specs.declared.note.Note.{Note}
use Rattle.mely_note.specs.Notes.{Rise, loaded_of, notes_by}
use Rattle.mely_note.specs.ShowsNotes.{ShowsNotes}
use Rattle.mely_shard.specs.Shard.{ShardState, ColourState, lane_at}
use Rattle.mely_tally.specs.Account.{HandlerRun}
use Rattle.mely_weave.specs.Weave.{WeaveState}
use Rattle.mely_worker.specs.declared.app.App.{Ghosts as AppWords}
use Rattle.mely_worker.specs.Worker.{WorkerState}
use Rattle.mely_chain.specs.Runs.{puts_on}
use Rattle.mely_chain.specs.Told.{CoreTold}
use Rattle.mely_chain.specs.Deeds.{CoreDid}

-- the notes show what the shard of this number has, and its lanes have the states that were given
pub record ShardTold {S P : Type 0} (given : Colour → Option S) (setup : Setup) (number : ℕ)
    (has : ShardState S P) (notes : List (Note S P)) : Type 0 where
  pub shows : ShowsNotes has notes
  pub first : (c : Colour) (lane : ColourState S P) (state : S) → shard_of setup c ≡ number
      → lane_at has c ≡ Some lane → given c ≡ Some state → lane.given ≡ state

-- With these notes of each shard, whose stamps rise, each worker did what came to these runs.
pub record WeaveDid {S P : Type 0} (weave : WeaveState S P) (notes : ℕ → List (Note S P))
    (by_core : List (List (HandlerRun S P))) : Type 0 where
  pub rise : (number : ℕ) → Rise (notes number)
  pub did : (core : ℕ) (w : WorkerState S P) (runs : List (HandlerRun S P))
      → slice_get weave.workers core ≡ Some w → slice_get by_core core ≡ Some runs
      → CoreDid weave.setup core (λ c. notes (shard_of weave.setup c)) w runs

module _ {R S P F : Type 0} (t : TrailWords S F) (fits : F → Colour → Event → Option P → Type 0)
    (y : AppWords R P S F) (app : R) where
  -- With these notes of each shard, which show what it has, these are the runs that each worker
  -- made, in order; what the pass behind those of the cores registered are the posts, in order; and
  -- no other pass made a note.
  pub record WeaveTold (given : Colour → Option S) (posted : List (Colour × Event × Option P))
      (weave : WeaveState S P) (notes : ℕ → List (Note S P))
      (by_core : List (List (HandlerRun S P))) : Type 0 where
    pub shard : (number : ℕ) (has : ShardState S P) → slice_get weave.shards number ≡ Some has
        → ShardTold given weave.setup number has (notes number)
    pub cores : length by_core ≡ (shape_of weave.setup).cores
    pub told : (core : ℕ) (w : WorkerState S P) (runs : List (HandlerRun S P))
        → slice_get weave.workers core ≡ Some w → slice_get by_core core ≡ Some runs
        → CoreTold t fits y app weave.setup (t.frame_of weave.given) given core
        (λ c. notes (shard_of weave.setup c)) w runs
    pub posts : (c : Colour) → loaded_of (notes_by (shape_of weave.setup).cores
        (notes (shard_of weave.setup c))) c
        ≡ puts_on c posted
    pub no_other : (number n : ℕ) → (shape_of weave.setup).cores < n
        → notes_by n (notes number) ≡ []

  -- there are notes that tell some runs of the weave's workers, where these were posted
  abbrev pub IsTold : (Colour → Option S) → List (Colour × Event × Option P) → WeaveState S P
      → Type 0
  IsTold given posted weave = (notes : ℕ → List (Note S P)) × (by_core : List (List
      (HandlerRun S P)))
      × WeaveTold given posted weave notes by_core × WeaveDid weave notes by_core
