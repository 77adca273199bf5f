-- What a call does at its point in the history of a shard: the notes as the call found them.
use Rattle.std.specs.Prelude.{◌≡◌, ◌<◌, ℕ, List, [], ◌∷◌, ◌++◌, ◌↔◌, Bool, IsTrue, Option, Some, Result, Ok, Err, take}
use Rattle.mely_event.specs.declared.colour.Colour.{Colour}
use Rattle.mely_event.specs.declared.event.Event.{Event}
use Rattle.mely_event.specs.declared.unregistered.Unregistered.{Unregistered}
use Rattle.mely_event.specs.declared.trail.Trail.{Ghosts as TrailWords}
use Rattle.mely_history.specs.declared.setup.Setup.{Setup}
use Rattle.mely_history.specs.declared.entry.Entry.{Entry}
use Rattle.mely_history.specs.declared.registered.Registered.{Registered}
use Rattle.mely_history.specs.declared.no_take.NoTake.{NoTake}
use Rattle.mely_history.specs.declared.no_steal.NoSteal.{NoSteal}
use Rattle.mely_history.specs.declared.stolen.Stolen.{Stolen}
use Rattle.mely_history.specs.declared.after.After.{After}
use Rattle.mely_history.specs.History.{begun_of, ran_of, worth_of}
use Rattle.mely_history.specs.Legal.{IsDrained, IsLegal, MayTake, MaySteal}
use Rattle.mely_note.specs.declared.note.Note.{Note}
use Rattle.mely_note.specs.declared.note.Note.TheVariants.{Reg, Take, Fin, Steal}
use Rattle.std.specs.declared.snapshot.Snapshot.{Snapshot}
use Rattle.mely_note.specs.declared.stamp.Stamp.{Stamp}
use Rattle.mely_note.specs.Notes.{Rise, snapshot_of, entries_of, noted_by, stamp_of, waiting_of, home_of}
use Rattle.mely_queue.specs.Turn.{TurnState, EachFits}
use Rattle.mely_shard.specs.Shard.{RegisteredAs, NoTakeAs, NoStealAs, AfterAs}
use Rattle.mely_lock.specs.Seen.{OthersSince}

-- a call makes this note, with some stamp
abbrev pub Notes : {S P : Type 0} → (Snapshot Stamp → Note S P) → List (Note S P)
    → List (Note S P) → Type 0
Notes note point after = (at : Snapshot Stamp) × (after ≡ point ++ note at ∷ [])

-- a registration by the pass n: the note has the load
abbrev pub RegistersAt : {S P : Type 0} → Setup → ℕ → Colour → Event → Option P
    → Result Registered (Unregistered P) → List (Note S P) → List (Note S P) → Type 0
RegistersAt setup n c event load (Ok reply) point after =
    Notes (Reg c event (snapshot_of load) n) point after
    × RegisteredAs setup (entries_of point) (entries_of after) c reply
RegistersAt setup n c event load (Err back) point after = (after ≡ point)
    × (back.event ≡ event) × (back.load ≡ load)

-- the turn that a take by the core gives: the first events that waited, with the loads that they
-- were registered with, on the very state that the last finish brought home, or on the given one
-- where there was none; on it was run what the history says, and it has the frame
pub record IsGiven {S P F : Type 0} (t : TrailWords S F)
    (fits : F → Colour → Event → Option P → Type 0) (setup : Setup) (frame : F) (given : Option S)
    (point : List (Note S P)) (c : Colour) (core : ℕ) (turn : TurnState S P) : Type 0 where
  pub allowed : MayTake setup (entries_of point) c core turn.count
  pub of_colour : turn.colour ≡ c
  pub of_core : turn.core ≡ core
  pub events : turn.events ≡ take turn.count (waiting_of point c)
  pub state : (first : S) → given ≡ Some first → turn.state ≡ home_of first point c
  pub trailed : t.trail_of turn.state ≡ ran_of (entries_of point) c
  pub coloured : t.colour_of turn.state ≡ c
  pub framed : t.frame_of turn.state ≡ frame
  pub fit : EachFits (fits frame c) turn.events

-- a take by the core n of a colour that was given this state at first
abbrev pub TakesAt : {S P F : Type 0} → TrailWords S F → (F → Colour → Event → Option P → Type 0)
    → Setup → F → Option S → ℕ → Colour → Result (TurnState S P) NoTake → List (Note S P)
    → List (Note S P) → Type 0
TakesAt t fits setup frame given n c (Ok turn) point after =
    Notes (Take c n turn.count) point after × IsGiven t fits setup frame given point c n turn
TakesAt t fits setup frame given n c (Err why) point after = (after ≡ point)
    × NoTakeAs setup (entries_of point) c n why

-- a finish by the core n: the note has the state that it brings home
abbrev pub FinishesAt : {S P : Type 0} → Setup → ℕ → TurnState S P → After → List (Note S P)
    → List (Note S P) → Type 0
FinishesAt setup n turn answer point after =
    Notes (Fin turn.colour n turn.count (snapshot_of turn.state)) point after
    × AfterAs setup (entries_of after) turn.colour answer

-- a steal by the core n
abbrev pub StealsAt : {S P : Type 0} → Setup → ℕ → Colour → Result Stolen NoSteal
    → List (Note S P) → List (Note S P) → Type 0
StealsAt setup n c (Ok stolen) point after = Notes (Steal c stolen.from n) point after
    × MaySteal setup (entries_of point) c stolen.from n
    × (stolen.started ≡ begun_of (entries_of after) c)
    × (stolen.worth ≡ worth_of setup (entries_of after) c)
StealsAt setup n c (Err why) point after = (after ≡ point)
    × NoStealAs setup (entries_of point) c n why

-- a look, which leaves the history as it is
abbrev pub LooksAt : {S P : Type 0} → List (Note S P) → List (Note S P) → Type 0
LooksAt point after = after ≡ point

-- the answer of a look: whether the shard is drained
pub record IsDrainedAs (answer : Bool) (history : List Entry) : Type 0 where
  pub drained : IsTrue answer ↔ IsDrained history

-- a call by the pass n, which knows of stamps up to this one: its point begins with what the pass
-- had seen and goes on by notes of others alone; what the call does there ends in the history that
-- the pass has seen afterwards; that is legal, its stamps rise, and the stamp of a note that the
-- call made is above all that the pass knew of
pub record IsSeen {S P : Type 0} (setup : Setup) (n known : ℕ) (front after : List (Note S P))
    (Does : List (Note S P) → List (Note S P) → Type 0) : Type 0 where
  pub point : List (Note S P)
  pub others : OthersSince noted_by n front point
  pub does : Does point after
  pub legal : IsLegal setup (entries_of after)
  pub rise : Rise after
  pub above : (note : Note S P) → after ≡ point ++ note ∷ [] → known < stamp_of note
