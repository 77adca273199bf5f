-- What a stretch of a worker's work needs and leaves.
use Rattle.mely_note.specs.declared.note.Note.{Note}
use Rattle.std.specs.Prelude.{◌≡◌, ◌++◌, List, Option, true}
use Rattle.mely_event.specs.declared.colour.Colour.{Colour}
use Rattle.mely_event.specs.declared.event.Event.{Event}
use Rattle.mely_event.specs.declared.trail.Trail.{Ghosts as TrailWords}
use Rattle.mely_worker.specs.Worker.{WorkerState, IsSameWorker}
use Rattle.mely_fleet.specs.declared.fleet.FleetOf.{FleetOf}
use Rattle.mely_fleet.specs.declared.passes.PassesOf.{PassesOf}
use Rattle.mely_kept.specs.declared.kept_shard.ShardFrame.{ShardFrame}
use Rattle.mely_fleet.specs.Fleets.{ArePasses}
use Rattle.mely_kept.specs.Frames.{shard_frame}
use Rattle.mely_kept.specs.KeptShard.{KeptShardState}
use Rattle.mely_fleet.specs.Work.{MayWork, Works}

-- the worker may work with these passes: they are passes of the fleet, and outside, and the worker
-- may make a step with them
pub record MayWorkOn {S P F : Type 0} {g : _} (t : TrailWords S F)
    (fits : F → Colour → Event → Option P → Type 0)
    (fleet : FleetOf (KeptShardState S P) (Note S P) (ShardFrame S F))
    (own : PassesOf (KeptShardState S P) (Note S P) (ShardFrame S F) g)
    (w : WorkerState S P) : Type 0 where
  pub passes : ArePasses (shard_frame t.frame_of) fleet own
  pub may : MayWork t fits fleet own w

-- what a worker has lost it doesn't find again, and a halted one stays halted
pub record KeepsLosses {S P : Type 0} (before after : WorkerState S P) : Type 0 where
  pub lost : (more : List (Colour × Event × Option P)) × (after.lost ≡ before.lost ++ more)
  pub halted : before.halted ≡ true → after.halted ≡ true

-- what a stretch of work leaves of the passes and the worker: they may work on, the number is the
-- same, the worker has its core, batch and victims still, more was seen, and each take has its
-- finish still, but that of the worker's turn
pub record HasWorked {S P F : Type 0} {g : _} (t : TrailWords S F)
    (fits : F → Colour → Event → Option P → Type 0)
    (fleet : FleetOf (KeptShardState S P) (Note S P) (ShardFrame S F))
    (before : PassesOf (KeptShardState S P) (Note S P) (ShardFrame S F) g) (w : WorkerState S P)
    (after : PassesOf (KeptShardState S P) (Note S P) (ShardFrame S F) g)
    (v : WorkerState S P) : Type 0 where
  pub still : MayWorkOn t fits fleet after v
  pub number : after.number ≡ before.number
  pub worker : IsSameWorker w v
  pub works : Works t.frame_of fleet before w after v
