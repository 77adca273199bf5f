-- The runs of one core, as the notes tell of them.
use Rattle.std.specs.Prelude.{◌≡◌, ◌≢◌, ◌++◌, ◌∷◌, ℕ, List, [], Option, Some, take, drop, map}
use Rattle.std.specs.List.{AllByRecursion}
use Rattle.std.specs.declared.snapshot.Snapshot.{Snapshot}
use Rattle.mely_event.specs.declared.colour.Colour.{Colour}
use Rattle.mely_event.specs.declared.event.Event.{Event}
use Rattle.mely_event.specs.declared.trail.Trail.{Ghosts as TrailWords}
use Rattle.mely_history.specs.declared.setup.Setup.{Setup}
use Rattle.mely_history.specs.declared.entry.Entry.TheVariants as entries
use Rattle.mely_history.specs.History.{ended_of}
use Rattle.mely_history.specs.Owing.{last_change}
use Rattle.mely_note.specs.declared.note.Note.{Note}
use Rattle.mely_note.specs.declared.note.Note.TheVariants.{Fin}
use Rattle.mely_note.specs.declared.stamp.Stamp.{Stamp}
use Rattle.mely_note.specs.Notes.{entries_of, loaded_of, home_of, notes_by}
use Rattle.mely_queue.specs.Turn.{TurnState}
use Rattle.mely_tally.specs.Account.{HandlerRun, IsRunOf, puts_left}
use Rattle.mely_worker.specs.declared.app.App.{Ghosts as AppWords}
use Rattle.mely_worker.specs.declared.phase.Phase.{Phase}
use Rattle.mely_worker.specs.declared.phase.Phase.TheVariants.{Free, Popped, Picked, Landing, Pushing, Turning}
use Rattle.mely_worker.specs.Worker.{WorkerState}
use Rattle.mely_chain.specs.Runs.{RunThrough, Follow, given_to, runs_on, puts_on, puts_of}

-- how many events of a colour a pass has finished
abbrev pub finished_by : {S P : Type 0} → ℕ → List (Note S P) → Colour → ℕ
finished_by n notes c = ended_of (entries_of (notes_by n notes)) c

-- the events with their loads of the turn that is out on a colour, or of the next one: so many of
-- those that were registered behind the ones that were finished
abbrev pub turn_of : {S P : Type 0} → List (Note S P) → Colour → ℕ → List (Event × Option P)
turn_of notes c count = take count (drop (ended_of (entries_of notes) c) (loaded_of notes c))

module _ {S P : Type 0} (first : S) (n : ℕ) (c : Colour) (notes : List (Note S P))
    (runs : List (HandlerRun S P)) where
  -- Where the pass finished a turn of the colour, the next of its runs there are on the events of
  -- that turn, from the state that was at home to the one that was brought home.
  abbrev pub TellTurns : Type 0
  TellTurns = (before after : List (Note S P)) (count : ℕ) (state : Snapshot S)
      (at : Snapshot Stamp) → notes ≡ before ++ Fin c n count state at ∷ after
      → RunThrough (home_of first before c) (turn_of before c count) state.value
      (take count (drop (finished_by n before c) runs))

  -- those of its runs that are of no finished turn
  abbrev pub runs_out : List (HandlerRun S P)
  runs_out = drop (finished_by n notes c) runs

  -- the turn is out on the pass, and those runs are what was run of it
  pub record TellTurnOut (turn : TurnState S P) : Type 0 where
    pub taken : last_change n c (entries_of notes) ≡ Some (entries.Take c n turn.count)
    pub events : map given_to runs_out ++ turn.events ≡ turn_of notes c turn.count
    pub follow : Follow (home_of first notes c) runs_out turn.state

  -- they are of the worker's turn, where that is of the colour, and else there are none
  abbrev pub TellOut : Phase S P → Type 0
  TellOut (Free place) = runs_out ≡ []
  TellOut (Popped mark) = runs_out ≡ []
  TellOut (Picked mark victim) = runs_out ≡ []
  TellOut (Landing mark) = runs_out ≡ []
  TellOut (Pushing core mark) = runs_out ≡ []
  TellOut (Turning turn hand puts) = (turn.colour ≡ c → TellTurnOut turn)
      × (turn.colour ≢ c → runs_out ≡ [])

module _ {R S P F : Type 0} (t : TrailWords S F) (fits : F → Colour → Event → Option P → Type 0)
    (y : AppWords R P S F) (app : R) (setup : Setup) (frame : F) (given : Colour → Option S) where
  -- These are the runs that the worker of core n made, in order, as the notes of each colour's
  -- shard tell of them: by turns on each colour, of which one may be out; and what the pass
  -- registered on a colour is what they put there, in order, but for what is left of the worker's
  -- turn. That is said where nothing was refused for want of memory.
  pub record CoreTold (n : ℕ) (notes : Colour → List (Note S P)) (w : WorkerState S P)
      (runs : List (HandlerRun S P)) : Type 0 where
    pub each : AllByRecursion (IsRunOf t fits y app setup frame) runs
    pub turns : (c : Colour) (first : S) → given c ≡ Some first
        → TellTurns first n c (notes c) (runs_on c runs)
    pub out : (c : Colour) (first : S) → given c ≡ Some first
        → TellOut first n c (notes c) (runs_on c runs) w.phase
    pub puts : (c : Colour) → w.lost ≡ [] → loaded_of (notes_by n (notes c)) c
        ++ puts_on c (puts_left w.phase) ≡ puts_on c (puts_of runs)
