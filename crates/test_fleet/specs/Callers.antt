-- The setup of the tests, and the callers of a fleet.
use Rattle.std.specs.Prelude.{◌≡◌, ◌<◌, ◌≤◌, ◌++◌, ℕ, List, Option, Some, length, slice_get}
use Rattle.mely_event.specs.HandlerTable.{rows_of}
use Rattle.mely_event.specs.declared.colour.Colour.{Colour}
use Rattle.mely_event.specs.declared.event.Event.{Event}
use Rattle.mely_event.specs.declared.trail.Trail.{Ghosts as TrailWords}
use Rattle.mely_history.specs.declared.setup.Setup.{Setup}
use Rattle.mely_history.specs.Setup.{shape_of, colours_of, handlers_of}
use Rattle.mely_queue.specs.Turn.{TurnState}
use Rattle.mely_weave.specs.Dealing.{AtEach}
use Rattle.mely_worker.specs.Access.{IsColour, events_of}
use Rattle.mely_worker.specs.IdleWorker.{IdleWorkerState}
use Rattle.mely_note.specs.declared.note.Note.{Note}
use Rattle.mely_fleet.specs.declared.fleet.FleetOf.{FleetOf}
use Rattle.mely_fleet.specs.declared.passes.PassesOf.{PassesOf}
use Rattle.mely_fleet.specs.declared.room.RoomOf.{RoomOf}
use Rattle.mely_fleet.specs.declared.seat.SeatOf.{SeatOf}
use Rattle.mely_kept.specs.declared.kept_shard.ShardFrame.{ShardFrame}
use Rattle.mely_kept.specs.Frames.{shard_frame}
use Rattle.mely_kept.specs.KeptShard.{KeptShardState}
use Rattle.mely_fleet.specs.Fleets.{ArePasses, frame_in, owed_by}
use Rattle.mely_fleet.specs.Opening.{AreInitialPasses}
use Rattle.mely_fleet.specs.Seats.{MaySit}

-- so many cores and colours, and one handler
pub record IsRow (some_cores some_colours : ℕ) (setup : Setup) : Type 0 where
  pub cores : (shape_of setup).cores ≡ some_cores
  pub colours : colours_of setup ≡ some_colours
  pub handlers : length (rows_of (handlers_of setup)) ≡ 1

-- the passes of so many callers of a fleet of this setup, by number, that have seen nothing
pub record AreCallers {S P V F : Type 0} {g : _} (kept_frame : V → ShardFrame S F) (setup : Setup)
    (count : ℕ) (fleet : FleetOf V (Note S P) (ShardFrame S F))
    (all : List (PassesOf V (Note S P) (ShardFrame S F) g)) : Type 0 where
  pub of_setup : fleet.setup ≡ setup
  pub of_count : fleet.passes ≡ count
  pub many : length all ≡ count
  pub each : (n : ℕ) (own : PassesOf V (Note S P) (ShardFrame S F) g) → slice_get all n ≡ Some own
      → AreInitialPasses kept_frame fleet n own

-- the caller of this number: its passes, and where it is a core its worker at rest
pub record IsCaller {S P F : Type 0} {g : _} (frame_of : S → F)
    (fits : F → Colour → Event → Option P → Type 0)
    (fleet : FleetOf (KeptShardState S P) (Note S P) (ShardFrame S F)) (n : ℕ)
    (own : PassesOf (KeptShardState S P) (Note S P) (ShardFrame S F) g)
    (worker : Option (IdleWorkerState P)) : Type 0 where
  pub passes : ArePasses (shard_frame frame_of) fleet own
  pub numbered : own.number ≡ n
  pub sits : n < (shape_of fleet.setup).cores → MaySit frame_of fits fleet own worker

-- a fleet of this setup with all its callers, and room to close it
pub record IsOpen {S P F : Type 0} {f : _} {t : _} {g : _} (frame_of : S → F)
    (fits : F → Colour → Event → Option P → Type 0) (setup : Setup)
    (room : RoomOf S P (KeptShardState S P) F (Note S P) (ShardFrame S F) f t g)
    (fleet : FleetOf (KeptShardState S P) (Note S P) (ShardFrame S F))
    (callers : List (SeatOf (KeptShardState S P) (Option (IdleWorkerState P)) (Note S P)
    (ShardFrame S F) g)) : Type 0 where
  pub of_setup : fleet.setup ≡ setup
  pub room_setup : room.setup ≡ setup
  pub room_passes : room.passes ≡ fleet.passes
  pub least : (shape_of setup).cores ≤ fleet.passes
  pub many : length callers ≡ fleet.passes
  pub each : AtEach (λ n caller. IsCaller frame_of fits fleet n caller.passes caller.worker) callers

-- the turn may be finished with these passes once its events were run
pub record MayFinish {S P F : Type 0} {g : _} (t : TrailWords S F)
    (fleet : FleetOf (KeptShardState S P) (Note S P) (ShardFrame S F))
    (own : PassesOf (KeptShardState S P) (Note S P) (ShardFrame S F) g)
    (turn : TurnState S P) : Type 0 where
  pub colour : IsColour fleet.setup turn.colour
  pub owed : owed_by fleet own turn.colour turn.core turn.count (t.trail_of turn.state
      ++ events_of turn.events)
  pub coloured : t.colour_of turn.state ≡ turn.colour
  pub framed : t.frame_of turn.state ≡ frame_in (shard_frame t.frame_of) fleet
