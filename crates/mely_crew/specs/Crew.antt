-- What a whole run on threads has registered, and what it ran behind its gate.
use Rattle.std.specs.Prelude.{◌≡◌, ◌≤◌, ◌+◌, ◌++◌, ◌∷◌, ℕ, List, [], Option, Some, length, slice_get}
use Rattle.mely_event.specs.declared.colour.Colour.{Colour}
use Rattle.mely_event.specs.declared.event.Event.{Event}
use Rattle.mely_history.specs.declared.entry.Entry.{Entry}
use Rattle.mely_history.specs.declared.entry.Entry.TheVariants.{Reg}
use Rattle.mely_history.specs.declared.setup.Setup.{Setup}
use Rattle.mely_history.specs.Setup.{shape_of}
use Rattle.mely_shard.specs.Shard.{ShardState}
use Rattle.mely_weave.specs.Side.{shard_of}
use Rattle.mely_weave.specs.Weave.{WeaveState}
use Rattle.mely_weave.specs.Drains.{Drains}
use Rattle.mely_weave.specs.declared.draining.Drained.{Drained}
use Rattle.mely_worker.specs.declared.app.App.{Ghosts as AppWords}
use Rattle.mely_worker.specs.Gated.{behind}
use Rattle.mely_event.specs.declared.trail.Trail.{Ghosts as TrailWords}
use Rattle.mely_chain.specs.WeaveTold.{IsTold}
use Rattle.mely_note.specs.declared.note.Note.{Note}
use Rattle.mely_worker.specs.IdleWorker.{IdleWorkerState}
use Rattle.mely_weave.specs.Dealing.{AtEach}
use Rattle.mely_kept.specs.declared.kept_shard.ShardFrame.{ShardFrame}
use Rattle.mely_kept.specs.Frames.{shard_frame}
use Rattle.mely_kept.specs.KeptShard.{KeptShardState}
use Rattle.mely_fleet.specs.declared.fleet.FleetOf.{FleetOf}
use Rattle.mely_fleet.specs.declared.passes.PassesOf.{PassesOf}
use Rattle.mely_fleet.specs.declared.seat.SeatOf.{SeatOf}
use Rattle.mely_fleet.specs.Calls.{front_in}
use Rattle.mely_fleet.specs.Fleets.{frame_in, given_in}
use Rattle.mely_fleet.specs.Rows.{fronts}
use Rattle.mely_fleet.specs.Seats.{IsFresh, IsOutsider, IsSeatOf}
use Rattle.mely_crew.specs.Settling.{MakesSome}

-- a fleet of a setup and these states, with a seat for each core and the passes of one other caller;
-- all workers are free, and nothing was seen yet
pub record IsManned {S P F : Type 0} {g : _} (frame_of : S → F)
    (fits : F → Colour → Event → Option P → Type 0) (setup : Setup) (states : List S)
    (fleet : FleetOf (KeptShardState S P) (Note S P) (ShardFrame S F))
    (home : List (SeatOf (KeptShardState S P) (Option (IdleWorkerState P)) (Note S P)
    (ShardFrame S F) g))
    (other : PassesOf (KeptShardState S P) (Note S P) (ShardFrame S F) g) : Type 0 where
  pub of_setup : fleet.setup ≡ setup
  pub framed : (state : S) → slice_get states 0 ≡ Some state
      → frame_of state ≡ frame_in (shard_frame frame_of) fleet
  pub given : (c : Colour) → given_in (shard_frame frame_of) fleet c ≡ slice_get states c.0
  pub callers : fleet.passes ≡ (shape_of setup).cores + 1
  pub cores : length home ≡ (shape_of setup).cores
  pub seats : AtEach (λ n seat. IsSeatOf frame_of fits fleet n seat.passes seat.worker) home
  pub fresh : AtEach (λ n seat. IsFresh seat.passes seat.worker) home
  pub outside : IsOutsider (shard_frame frame_of) fleet other
  pub numbered : other.number ≡ (shape_of setup).cores
  pub unseen : (k : ℕ) → front_in (fronts other.shards.items) k ≡ []

-- the history has the registration of the event on the colour by a caller that is no core
pub record IsRegisteredIn (setup : Setup) (colour : Colour) (event : Event)
    (history : List Entry) : Type 0 where
  pub by : ℕ
  pub outside : (shape_of setup).cores ≤ by
  pub before : List Entry
  pub after : List Entry
  pub is : history ≡ before ++ Reg colour event by ∷ after

-- so has that of the colour's shard
pub record IsRegistered {S P : Type 0} (colour : Colour) (event : Event)
    (weave : WeaveState S P) : Type 0 where
  pub has : ShardState S P
  pub there : slice_get weave.shards (shard_of weave.setup colour) ≡ Some has
  pub registered : IsRegisteredIn weave.setup colour event has.history

-- some core has passed with an event of a colour
abbrev pub SomeHasPassed : (ℕ → Colour → Event → Type 0) → Colour → Event → Type 0
SomeHasPassed passed c event = (core : ℕ) × passed core c event

-- The threads left a weave when their fleet was closed: what they ran is told by its notes, and some
-- core has passed the gate before each handler. What was left over was run after that, by steps of
-- the app which pass no gate.
pub record RanBehind {R S P F : Type 0} (t : TrailWords S F)
    (fits : F → Colour → Event → Option P → Type 0) (y : AppWords R P S F) (app : R)
    (passed : ℕ → Colour → Event → Type 0) (given : Colour → Option S)
    (posted : List (Colour × Event × Option P)) (drained : Drained)
    (weave : WeaveState S P) : Type 0 where
  pub closed : WeaveState S P
  pub told : IsTold t fits (behind t (SomeHasPassed passed) y) app given posted closed
  pub settled : WeaveState S P
  pub settles : MakesSome t fits y app closed settled
  pub drains : Drains t fits y app settled drained weave
