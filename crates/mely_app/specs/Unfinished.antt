-- What a run hands back for which there was no memory.
use Rattle.std.specs.Prelude.{◌≡◌, ◌+◌, ◌<◌, ◌∷◌, ℕ, List, [], Option, Some, Result, Ok, Err, length, map, take, flat_map, sum_by, slice_get}
use Rattle.std.specs.List.{AllByRecursion}
use Rattle.mely_event.specs.declared.colour.Colour.{Colour}
use Rattle.mely_event.specs.declared.event.Event.{Event}
use Rattle.mely_event.specs.declared.trail.Trail.{Ghosts as TrailWords}
use Rattle.mely_history.specs.History.{registered_of, begun_of, ended_of, queued_of, ran_of}
use Rattle.mely_history.specs.Legal.{AreLegal}
use Rattle.mely_history.specs.Setup.{shape_of, colours_of}
use Rattle.mely_history.specs.declared.entry.Entry.{Entry}
use Rattle.mely_history.specs.declared.setup.Setup.{Setup}
use Rattle.mely_note.specs.declared.note.Note.{Note}
use Rattle.mely_note.specs.Notes.{entries_of, loaded_of, waiting_of, notes_by}
use Rattle.mely_tally.specs.Account.{HandlerRun, IsRunOf, count_put, count_puts, count_run, sum_along}
use Rattle.mely_weave.specs.Making.{AreInitial}
use Rattle.mely_weave.specs.Side.{shard_of}
use Rattle.mely_worker.specs.Access.{FitsSetup}
use Rattle.mely_worker.specs.declared.app.App.{Ghosts as AppWords}
use Rattle.mely_chain.specs.InOrder.{made_by}
use Rattle.mely_chain.specs.Runs.{RunThrough, runs_on, puts_on, puts_of}
use Rattle.mely_crew.specs.Crew.{IsRegisteredIn}
use Rattle.mely_app.specs.declared.run_error.RunError.{RunError}
use Rattle.mely_app.specs.declared.run_error.RunError.TheVariants.{NotStarted, CutShort}
use Rattle.mely_app.specs.declared.run_error.Unfinished.{Unfinished}

-- so it is of the load that a run hands back which didn't start
abbrev pub IfNotStarted : {A S P : Type 0} → Result A (RunError S P) → (Option P → Type 0) → Type 0
IfNotStarted (Ok ended) holds = Unit {0}
IfNotStarted (Err (NotStarted load)) holds = holds load
IfNotStarted (Err (CutShort left)) holds = Unit {0}

-- so it is of what is left of a run that was cut short
abbrev pub IfCutShort : {A S P : Type 0} → Result A (RunError S P) → (Unfinished S P → Type 0)
    → Type 0
IfCutShort (Ok ended) holds = Unit {0}
IfCutShort (Err (NotStarted load)) holds = Unit {0}
IfCutShort (Err (CutShort left)) holds = holds left

-- the histories that it leaves, and what waits on each colour
abbrev pub histories_left : {S P : Type 0} → Unfinished S P → List (List Entry)
histories_left left = map (λ history. history.items) left.histories.items

abbrev pub waiting_left : {S P : Type 0} → Unfinished S P → List (List (Event × Option P))
waiting_left left = map (λ queue. queue.items) left.waiting.items

-- The first event was registered. There is a legal history for each shard, by which no colour runs,
-- and for each colour a state, of that colour and of the frame, and a queue. What was run on the
-- state is what its history says was run, and what waits in the queue is what it says is queued:
-- each event once, in the order in which they were registered. What waits fits with its load, and
-- what was refused is of a colour and a handler that there are, and fits.
pub record RanInPart {S P F : Type 0} (t : TrailWords S F)
    (fits : F → Colour → Event → Option P → Type 0) (setup : Setup) (frame : F) (colour : Colour)
    (event : Event) (histories : List (List Entry)) (states : List S)
    (waiting : List (List (Event × Option P)))
    (refused : List (Colour × Event × Option P)) : Type 0 where
  pub begun : (history : List Entry) → slice_get histories (shard_of setup colour) ≡ Some history
      → IsRegisteredIn setup colour event history
  pub legal : AreLegal setup histories
  pub shards : length histories ≡ (shape_of setup).shards
  pub at_rest : (c : Colour) (history : List Entry)
      → slice_get histories (shard_of setup c) ≡ Some history
      → c.0 < colours_of setup → begun_of history c ≡ ended_of history c
  pub colours : length states ≡ colours_of setup
  pub coloured : (c : Colour) (state : S) → slice_get states c.0 ≡ Some state
      → t.colour_of state ≡ c
  pub framed : (c : Colour) (state : S) → slice_get states c.0 ≡ Some state
      → t.frame_of state ≡ frame
  pub ran : (c : Colour) (state : S) (history : List Entry) → slice_get states c.0 ≡ Some state
      → slice_get histories (shard_of setup c) ≡ Some history
      → t.trail_of state ≡ ran_of history c
  pub queues : length waiting ≡ colours_of setup
  pub waits : (c : Colour) (events : List (Event × Option P)) (history : List Entry)
      → slice_get waiting c.0 ≡ Some events
      → slice_get histories (shard_of setup c) ≡ Some history
      → map (λ e. e.0) events ≡ queued_of history c
  pub fit : (c : Colour) (events : List (Event × Option P)) → slice_get waiting c.0 ≡ Some events
      → AllByRecursion (λ e. fits frame c e.0 e.1) events
  pub refused_fit : AllByRecursion (FitsSetup fits setup frame) refused

module _ {R S P F : Type 0} (t : TrailWords S F) (fits : F → Colour → Event → Option P → Type 0)
    (y : AppWords R P S F) (app : R) (setup : Setup) (frame : F) where
  -- These are the runs of the app's handlers, by its relation. What they put, with the first event,
  -- is what the histories say was registered and what was refused; and they were run on what the
  -- histories say was run: on each colour it counts the same, whatever number an event has.
  pub record PutsAreInPart (begin : Colour × Event × Option P) (histories : List (List Entry))
      (refused : List (Colour × Event × Option P)) (runs : List (HandlerRun S P)) : Type 0 where
    pub each : AllByRecursion (IsRunOf t fits y app setup frame) runs
    pub put : (c : Colour) (history : List Entry) → slice_get histories (shard_of setup c)
        ≡ Some history → (number : Event → ℕ)
        → sum_by number (registered_of history c) + count_puts c number refused
        ≡ count_put c number begin + sum_by (λ run. count_puts c number run.puts) runs
    pub ran : (c : Colour) (history : List Entry) → slice_get histories (shard_of setup c)
        ≡ Some history → c.0 < colours_of setup → (number : List Event → Event → ℕ)
        → sum_by (count_run t c number) runs ≡ sum_along number [] (ran_of history c)

  -- some runs of the app's handlers put all that was registered or refused, but for the first event
  abbrev pub HasPutInPart : Colour × Event × Option P → List (List Entry)
      → List (Colour × Event × Option P) → Type 0
  HasPutInPart begin histories refused = (runs : List (HandlerRun S P))
      × PutsAreInPart begin histories refused runs

  -- The handlers ran in order as far as the run came. Notes of each shard say what its history
  -- says, and with it each load and state. On each colour the runs are one after another, on those
  -- events of it that were run, with their loads, from the state that was given to the one that is
  -- handed out; and what waits has the loads of the events behind those. The runs of a core are in
  -- the order in which it made them; where nothing of it was refused, it registered what they put,
  -- in that order. The first event was registered by the pass behind those of the cores, and nothing
  -- by any other.
  pub record RanInOrderSoFar (begin : Colour × Event × Option P) (first : List S)
      (histories : List (List Entry)) (states : List S) (waiting : List (List (Event × Option P)))
      (refused : List (Colour × Event × Option P)) : Type 0 where
    pub notes : ℕ → List (Note S P)
    pub by_core : List (List (HandlerRun S P))
    pub by_colour : Colour → List (ℕ × HandlerRun S P)
    pub refused_by : List (List (Colour × Event × Option P))
    pub of_histories : (shard : ℕ) (history : List Entry)
        → slice_get histories shard ≡ Some history → history ≡ entries_of (notes shard)
    pub of_refused : refused ≡ flat_map (λ put. put) refused_by
    pub cores : length by_core ≡ (shape_of setup).cores
    pub cores_refused : length refused_by ≡ (shape_of setup).cores
    pub each : (n : ℕ) (runs : List (HandlerRun S P)) → slice_get by_core n ≡ Some runs
        → AllByRecursion (IsRunOf t fits y app setup frame) runs
    pub on_colour : (c : Colour) (from to : S) → slice_get first c.0 ≡ Some from
        → slice_get states c.0 ≡ Some to → let here = notes (shard_of setup c) in
        RunThrough from (take (ended_of (entries_of here) c) (loaded_of here c)) to
        (map (λ run. run.1) (by_colour c))
    pub waits : (c : Colour) (events : List (Event × Option P))
        → slice_get waiting c.0 ≡ Some events → events ≡ waiting_of (notes (shard_of setup c)) c
    pub of_core : (c : Colour) (n : ℕ) (runs : List (HandlerRun S P))
        → slice_get by_core n ≡ Some runs → made_by n (by_colour c) ≡ runs_on c runs
    pub by_cores : (c : Colour) → AllByRecursion (λ run. run.0 < (shape_of setup).cores)
        (by_colour c)
    pub puts : (c : Colour) (n : ℕ) (runs : List (HandlerRun S P))
        → slice_get by_core n ≡ Some runs → slice_get refused_by n ≡ Some []
        → loaded_of (notes_by n (notes (shard_of setup c))) c ≡ puts_on c (puts_of runs)
    pub begun : (c : Colour)
        → loaded_of (notes_by (shape_of setup).cores (notes (shard_of setup c))) c
        ≡ puts_on c (begin ∷ [])
    pub no_other : (shard n : ℕ) → (shape_of setup).cores < n → notes_by n (notes shard) ≡ []

  -- the same from some initial states
  abbrev pub RanFromInitialSoFar : Colour × Event × Option P → List (List Entry) → List S
      → List (List (Event × Option P)) → List (Colour × Event × Option P) → Type 0
  RanFromInitialSoFar begin histories states waiting refused = (first : List S)
      × AreInitial t setup first × RanInOrderSoFar begin first histories states waiting refused
