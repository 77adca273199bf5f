-- Stretches of a worker's work, one after another.
use Rattle.std.proofs.Common.{◌≡◌, ◌∙◌, Option, None, refl}
use Rattle.std.specs.Prelude.{IsTrue}
use Rattle.mely_note.specs.declared.note.Note.{Note}
use Rattle.mely_event.specs.declared.colour.Colour.{Colour}
use Rattle.mely_event.specs.declared.event.Event.{Event}
use Rattle.mely_event.specs.declared.trail.Trail.{Ghosts as TrailWords}
use Rattle.mely_worker.specs.Phase.{is_free}
use Rattle.mely_worker.specs.Worker.{WorkerState}
use Rattle.mely_fleet.specs.declared.fleet.FleetOf.{FleetOf}
use Rattle.mely_fleet.specs.declared.passes.PassesOf.{PassesOf}
use Rattle.mely_kept.specs.declared.kept_shard.ShardFrame.{ShardFrame}
use Rattle.mely_fleet.specs.Fleets.{ArePasses, frame_in}
use Rattle.mely_kept.specs.Frames.{shard_frame}
use Rattle.mely_kept.specs.KeptShard.{KeptShardState}
use Rattle.mely_fleet.specs.Work.{HasFinishedBut, SeesMore, Standpoint, standpoint}
use Rattle.mely_fleet.specs.Working.{MayWorkOn, HasWorked}
use Rattle.mely_fleet.proofs.WorkLemmas.{free_may, works_free, works_none, works_onward}

module _ {S P F : Type 0} {g : _} (t : TrailWords S F) (fits : F → Colour → Event → Option P → Type 0) (fleet : FleetOf (KeptShardState S P) (Note S P) (ShardFrame S F)) where
  abbrev at : PassesOf (KeptShardState S P) (Note S P) (ShardFrame S F) g → Standpoint S P F
  at own = standpoint (shard_frame t.frame_of) fleet own

  -- nothing was done
  pub worked_none : (own : PassesOf (KeptShardState S P) (Note S P) (ShardFrame S F) g) (w : WorkerState S P) → MayWorkOn t fits fleet own w → HasWorked t fits fleet own w own w
  worked_none own w may = record { still = may; number = refl; worker = record { core = refl; batch = refl; victims = refl }; works = works_none (at own) w }

  -- one stretch after another
  pub worked_onward : (a b c : PassesOf (KeptShardState S P) (Note S P) (ShardFrame S F) g) (u v w : WorkerState S P) → HasWorked t fits fleet a u b v → HasWorked t fits fleet b v c w → HasWorked t fits fleet a u c w
  worked_onward a b c u v w one other = record {
    still = other.still;
    number = other.number ∙ one.number;
    worker = record { core = other.worker.core ∙ one.worker.core; batch = other.worker.batch ∙ one.worker.batch; victims = other.worker.victims ∙ one.worker.victims };
    works = works_onward (at a) (at b) (at c) u v w one.works other.works;
  }

  -- a free worker looked at the shards
  pub worked_free : (own back : PassesOf (KeptShardState S P) (Note S P) (ShardFrame S F) g) (w : WorkerState S P) → IsTrue (is_free w.phase) → MayWorkOn t fits fleet own w → ArePasses (shard_frame t.frame_of) fleet back → back.number ≡ own.number → SeesMore (at own) (at back) → (HasFinishedBut (at own) None → HasFinishedBut (at back) None)
      → HasWorked t fits fleet own w back w
  worked_free own back w free may passes number more finished = record {
    still = record { passes = passes; may = free_may t fits fleet.setup own.number back.number (frame_in (shard_frame t.frame_of) fleet) _ _ w number free may.may };
    number = number;
    worker = record { core = refl; batch = refl; victims = refl };
    works = works_free (at own) (at back) w free more finished;
  }
