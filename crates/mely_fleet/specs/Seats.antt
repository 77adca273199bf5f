-- The threads of a fleet's cores.
use Rattle.mely_note.specs.declared.note.Note.{Note}
use Rattle.std.specs.Prelude.{◌≡◌, ◌<◌, ◌≤◌, ℕ, false, List, [], Option, None, Some, slice_get}
use Rattle.mely_event.specs.declared.colour.Colour.{Colour}
use Rattle.mely_event.specs.declared.event.Event.{Event}
use Rattle.mely_event.specs.declared.trail.Trail.{Ghosts as TrailWords}
use Rattle.mely_history.specs.Setup.{shape_of}
use Rattle.mely_worker.specs.declared.app.App.{Ghosts as AppWords}
use Rattle.mely_worker.specs.IdleWorker.{IdleWorkerState, resumed_worker}
use Rattle.mely_weave.specs.Dealing.{AtEach}
use Rattle.mely_weave.specs.Gathering.{MayGatherWorker}
use Rattle.mely_fleet.specs.declared.fleet.FleetOf.{FleetOf}
use Rattle.mely_fleet.specs.declared.passes.PassesOf.{PassesOf}
use Rattle.mely_fleet.specs.declared.seat.SeatOf.{SeatOf}
use Rattle.mely_kept.specs.declared.kept_shard.ShardFrame.{ShardFrame}
use Rattle.mely_fleet.specs.Calls.{front_in}
use Rattle.mely_kept.specs.Frames.{shard_frame}
use Rattle.mely_kept.specs.KeptShard.{KeptShardState}
use Rattle.mely_fleet.specs.Fleets.{ArePasses, frame_in}
use Rattle.mely_fleet.specs.Rows.{fronts}
use Rattle.mely_fleet.specs.Work.{HasFinishedBut, MakesOn, standpoint}

-- a core's passes and its worker at rest: the passes are of the fleet, with the finish of each turn
-- that the core took, and the worker is the setup's for this core
pub record MaySit {S P F : Type 0} {g : _} (frame_of : S → F)
    (fits : F → Colour → Event → Option P → Type 0)
    (fleet : FleetOf (KeptShardState S P) (Note S P) (ShardFrame S F))
    (own : PassesOf (KeptShardState S P) (Note S P) (ShardFrame S F) g)
    (worker : Option (IdleWorkerState P)) : Type 0 where
  pub passes : ArePasses (shard_frame frame_of) fleet own
  pub core : own.number < (shape_of fleet.setup).cores
  pub finished : HasFinishedBut (standpoint (shard_frame frame_of) fleet own) None
  pub rest : IdleWorkerState P
  pub rested : worker ≡ Some rest
  pub may : MayGatherWorker {S = S} fits fleet.setup (frame_in (shard_frame frame_of) fleet)
      own.number (resumed_worker rest)

-- passes and a worker of the core of this number, as `MaySit` says
pub record IsSeatOf {S P F : Type 0} {g : _} (frame_of : S → F)
    (fits : F → Colour → Event → Option P → Type 0)
    (fleet : FleetOf (KeptShardState S P) (Note S P) (ShardFrame S F)) (n : ℕ)
    (own : PassesOf (KeptShardState S P) (Note S P) (ShardFrame S F) g)
    (worker : Option (IdleWorkerState P)) : Type 0 where
  pub sits : MaySit frame_of fits fleet own worker
  pub numbered : own.number ≡ n

-- passes of the fleet that are no core's
pub record IsOutsider {S P V F : Type 0} {g : _} (kept_frame : V → ShardFrame S F)
    (fleet : FleetOf V (Note S P) (ShardFrame S F))
    (own : PassesOf V (Note S P) (ShardFrame S F) g) : Type 0 where
  pub passes : ArePasses kept_frame fleet own
  pub outside : (shape_of fleet.setup).cores ≤ own.number

-- passes that have seen nothing, and a worker at rest that isn't halted and was refused nothing
pub record IsFresh {S P V F : Type 0} {g : _} (own : PassesOf V (Note S P) (ShardFrame S F) g)
    (worker : Option (IdleWorkerState P)) : Type 0 where
  pub unseen : (k : ℕ) → front_in (fronts own.shards.items) k ≡ []
  pub rest : IdleWorkerState P
  pub rested : worker ≡ Some rest
  pub awake : rest.halted ≡ false
  pub none_lost : rest.lost ≡ []

-- the worker at rest made steps with these passes, and rests again
pub record HasMade {R S P F : Type 0} {g : _} (t : TrailWords S F)
    (fits : F → Colour → Event → Option P → Type 0) (y : AppWords R P S F) (app : R)
    (fleet : FleetOf (KeptShardState S P) (Note S P) (ShardFrame S F))
    (before : PassesOf (KeptShardState S P) (Note S P) (ShardFrame S F) g)
    (worker : Option (IdleWorkerState P))
    (after : PassesOf (KeptShardState S P) (Note S P) (ShardFrame S F) g)
    (worker_after : Option (IdleWorkerState P)) : Type 0 where
  pub rest : IdleWorkerState P
  pub rested : worker ≡ Some rest
  pub again : IdleWorkerState P
  pub rests : worker_after ≡ Some again
  pub makes : MakesOn t fits y app fleet before (resumed_worker rest) after (resumed_worker again)

-- each seat made steps, by the app's words for the core of its place, as it stood there before
abbrev pub HaveMade : {R S P F : Type 0} {g : _} → TrailWords S F
    → (F → Colour → Event → Option P → Type 0) → (ℕ → AppWords R P S F) → R
    → FleetOf (KeptShardState S P) (Note S P) (ShardFrame S F)
    → List (SeatOf (KeptShardState S P) (Option (IdleWorkerState P)) (Note S P) (ShardFrame S F) g)
    → List (SeatOf (KeptShardState S P) (Option (IdleWorkerState P)) (Note S P) (ShardFrame S F) g)
    → Type 0
HaveMade t fits y app fleet before after = AtEach (λ n seat. (old : _)
    × (slice_get before n ≡ Some old)
    × HasMade t fits (y n) app fleet old.passes old.worker seat.passes seat.worker) after
