-- A fleet that is closed into a weave, once the threads of its cores are back.
use Rattle.mely_note.specs.declared.note.Note.{Note}
use Rattle.std.specs.Prelude.{◌≡◌, ℕ, ◌+◌, ◌++◌, List, Option, Some, IsTrue, length, map, option_map}
use Rattle.mely_event.specs.declared.colour.Colour.{Colour}
use Rattle.mely_event.specs.declared.event.Event.{Event}
use Rattle.mely_event.specs.declared.trail.Trail.{Ghosts as TrailWords}
use Rattle.mely_shard.specs.Shard.{givens}
use Rattle.mely_history.specs.Setup.{shape_of}
use Rattle.mely_worker.specs.IdleWorker.{IdleWorkerState, resumed_worker}
use Rattle.mely_worker.specs.Phase.{is_free}
use Rattle.mely_weave.specs.Dealing.{AtEach}
use Rattle.mely_weave.specs.Gathering.{AreChainedAnew, MayGatherShard}
use Rattle.mely_weave.specs.StandsWell.{StandsWell}
use Rattle.mely_weave.specs.Weave.{WeaveState}
use Rattle.mely_fleet.specs.declared.fleet.FleetOf.{FleetOf}
use Rattle.mely_fleet.specs.declared.passes.PassesOf.{PassesOf}
use Rattle.mely_fleet.specs.declared.room.RoomOf.{RoomOf}
use Rattle.mely_fleet.specs.declared.seat.SeatOf.{SeatOf}
use Rattle.mely_kept.specs.declared.kept_shard.ShardFrame.{ShardFrame}
use Rattle.mely_fleet.specs.Closed.{IsClosedShard, IsLeftByOthers}
use Rattle.mely_fleet.specs.Fleets.{frame_in, givens_in}
use Rattle.mely_kept.specs.Frames.{shard_frame}
use Rattle.mely_kept.specs.KeptShard.{KeptShardState}
use Rattle.mely_fleet.specs.Seats.{IsSeatOf, IsOutsider}

-- the fleet may be closed with this room, a seat for each core and the passes of the other callers:
-- the room is one for its setup and number of passes, and no passes are missing
pub record MayCloseHome {S P F : Type 0} {f : _} {t : _} {g : _} (frame_of : S → F)
    (fits : F → Colour → Event → Option P → Type 0)
    (fleet : FleetOf (KeptShardState S P) (Note S P) (ShardFrame S F))
    (room : RoomOf S P (KeptShardState S P) F (Note S P) (ShardFrame S F) f t g)
    (home : List (SeatOf (KeptShardState S P) (Option (IdleWorkerState P)) (Note S P)
    (ShardFrame S F) g))
    (others : List (PassesOf (KeptShardState S P) (Note S P) (ShardFrame S F) g)) : Type 0 where
  pub of_setup : room.setup ≡ fleet.setup
  pub of_passes : room.passes ≡ fleet.passes
  pub cores : length home ≡ (shape_of fleet.setup).cores
  pub all : length others + length home ≡ fleet.passes
  pub seats : AtEach (λ n seat. IsSeatOf frame_of fits fleet n seat.passes seat.worker) home
  pub outsiders : AtEach (λ n own. IsOutsider (shard_frame frame_of) fleet own) others

-- the weave that a fleet is closed into, where these are the passes of all callers: there are notes
-- of each history, which begin with what each caller had seen of it and show the loads and states
-- that the shard has, and the states that were given at first are those of the fleet; where the
-- cores' passes have seen a shard drained, what waits there was registered since, by others; no
-- colour runs, and each that is ready is chained anew
pub record IsClosedInto {S P F : Type 0} {g : _} (t : TrailWords S F)
    (fits : F → Colour → Event → Option P → Type 0)
    (fleet : FleetOf (KeptShardState S P) (Note S P) (ShardFrame S F))
    (callers : List (PassesOf (KeptShardState S P) (Note S P) (ShardFrame S F) g))
    (weave : WeaveState S P) : Type 0 where
  pub setup : weave.setup ≡ fleet.setup
  pub notes : ℕ → List (Note S P)
  pub histories : AtEach (λ k has. IsClosedShard fleet.passes k callers has (notes k)) weave.shards
  pub givens : AtEach (λ k has. givens has
      ≡ givens_in (shard_frame t.frame_of) fleet k) weave.shards
  pub left : AtEach (λ k has. IsLeftByOthers fleet.setup k callers has.history) weave.shards
  pub shards : AtEach (λ k has. MayGatherShard t fleet.setup
      (frame_in (shard_frame t.frame_of) fleet) k has) weave.shards
  pub chains : AreChainedAnew weave.setup weave.shards weave.chains
  pub stands : StandsWell t fits weave

-- the weave that a fleet is closed into with these seats and the passes of the other callers: its
-- workers are those of the seats, awake and free
pub record IsClosedHome {S P F : Type 0} {g : _} (t : TrailWords S F)
    (fits : F → Colour → Event → Option P → Type 0)
    (fleet : FleetOf (KeptShardState S P) (Note S P) (ShardFrame S F))
    (home : List (SeatOf (KeptShardState S P) (Option (IdleWorkerState P)) (Note S P)
    (ShardFrame S F) g))
    (others : List (PassesOf (KeptShardState S P) (Note S P) (ShardFrame S F) g))
    (weave : WeaveState S P) : Type 0 where
  pub closed : IsClosedInto t fits fleet (others ++ map (λ seat. seat.passes) home) weave
  pub free : AtEach (λ core w. IsTrue (is_free w.phase)) weave.workers
  pub workers : map (λ w. Some w) weave.workers
      ≡ map (λ rest. option_map (λ r. resumed_worker r) rest) (map (λ seat. seat.worker) home)
