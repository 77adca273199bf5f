-- What one core did, in its own order: the notes that its pass made, and the events that it ran.
use Rattle.std.specs.Prelude.{◌≡◌, ◌==◌, ℕ, suc, List, [], ◌∷◌, Option, Some, None, length, filter, filter_map}
use Rattle.std.specs.declared.snapshot.Snapshot.{Snapshot}
use Rattle.mely_event.specs.declared.colour.Colour.{Colour}
use Rattle.mely_event.specs.declared.event.Event.{Event}
use Rattle.mely_history.specs.declared.setup.Setup.{Setup}
use Rattle.mely_history.specs.Entries.{colour_of}
use Rattle.mely_history.specs.Setup.{shard_of}
use Rattle.mely_note.specs.declared.note.Note.{Note}
use Rattle.mely_note.specs.declared.note.Note.TheVariants.{Reg, Take, Fin, Steal}
use Rattle.mely_note.specs.declared.stamp.Stamp.{Stamp}
use Rattle.mely_note.specs.Notes.{Rise, entry_of, notes_by}
use Rattle.mely_tally.specs.Account.{HandlerRun}
use Rattle.mely_worker.specs.declared.phase.Phase.{Phase}
use Rattle.mely_worker.specs.declared.phase.Phase.TheVariants.{Free, Popped, Picked, Landing, Pushing, Turning}
use Rattle.mely_worker.specs.Worker.{WorkerState}

-- a note was made, or an event was run
pub data Deed (S P : Type 0) : Type 0 where
  noted : Note S P → Deed S P
  ran : HandlerRun S P → Deed S P

-- what a core is at: it rests, or it has a turn of a colour, of so many events, of which so many
-- are left to run, and of what the last one put this is left to register
pub data Doing (P : Type 0) : Type 0 where
  rests : Doing P
  turns : Colour → ℕ → ℕ → List (Colour × Event × Option P) → Doing P

module _ {S P : Type 0} where
  abbrev pub note_in : Deed S P → Option (Note S P)
  note_in (noted note) = Some note
  note_in (ran run) = None

  abbrev pub run_in : Deed S P → Option (HandlerRun S P)
  run_in (noted note) = None
  run_in (ran run) = Some run

  -- the notes among them
  abbrev pub notes_in : List (Deed S P) → List (Note S P)
  notes_in deeds = filter_map note_in deeds

  -- the runs among them
  abbrev pub runs_in : List (Deed S P) → List (HandlerRun S P)
  runs_in deeds = filter_map run_in deeds

  -- of these notes those in the history of the shard of a colour
  abbrev pub notes_at : Setup → Colour → List (Note S P) → List (Note S P)
  notes_at setup c notes =
      filter (λ note. shard_of setup (colour_of (entry_of note)) == shard_of setup c) notes

  -- What a core of this number may do next: it takes a turn; it steals; it runs the next event of
  -- its turn, once all that the one before put is registered; it registers the next of what that
  -- put; and it finishes the turn, once all its events were run.
  pub data Does (n : ℕ) (before : Doing P) (deed : Deed S P) (after : Doing P) : Type 0 where
    takes : (c : Colour) (count : ℕ) (at : Snapshot Stamp) → before ≡ rests
        → deed ≡ noted (Take c n count at) → after ≡ turns c count count []
        → Does n before deed after
    steals : (c : Colour) (from : ℕ) (at : Snapshot Stamp) → before ≡ rests
        → deed ≡ noted (Steal c from n at) → after ≡ rests → Does n before deed after
    runs : (run : HandlerRun S P) (count left : ℕ) → before ≡ turns run.colour count (suc left) []
        → deed ≡ ran run → after ≡ turns run.colour count left run.puts → Does n before deed after
    registers : (c : Colour) (count left : ℕ) (put : Colour × Event × Option P)
        (more : List (Colour × Event × Option P)) (load : Snapshot (Option P)) (at : Snapshot Stamp)
        → before ≡ turns c count left (put ∷ more) → load.value ≡ put.2
        → deed ≡ noted (Reg put.0 put.1 load n at) → after ≡ turns c count left more
        → Does n before deed after
    finishes : (c : Colour) (count : ℕ) (state : Snapshot S) (at : Snapshot Stamp)
        → before ≡ turns c count 0 [] → deed ≡ noted (Fin c n count state at) → after ≡ rests
        → Does n before deed after

  -- it did these, one after another
  abbrev pub Did : ℕ → Doing P → List (Deed S P) → Doing P → Type 0
  Did n before [] after = after ≡ before
  Did n before (deed ∷ more) after = (then : Doing P) × Does n before deed then
      × Did n then more after

  -- what the worker of a core is at
  abbrev pub doing_of : Phase S P → Doing P
  doing_of (Free place) = rests
  doing_of (Popped mark) = rests
  doing_of (Picked mark victim) = rests
  doing_of (Landing mark) = rests
  doing_of (Pushing core mark) = rests
  doing_of (Turning turn hand puts) = turns turn.colour turn.count (length turn.events) puts

  -- What the worker of core n did came to these runs. Its notes are, shard by shard, those of its
  -- pass in the histories, and their stamps rise over all shards. That it did one thing after
  -- another, as `Does` says, is said where nothing was refused for want of memory.
  pub record CoreDid (setup : Setup) (n : ℕ) (notes : Colour → List (Note S P))
      (w : WorkerState S P) (all : List (HandlerRun S P)) : Type 0 where
    pub deeds : List (Deed S P)
    pub came : runs_in deeds ≡ all
    pub noted_at : (c : Colour) → notes_at setup c (notes_in deeds) ≡ notes_by n (notes c)
    pub rise : Rise (notes_in deeds)
    pub did : w.lost ≡ [] → Did n rests deeds (doing_of w.phase)
