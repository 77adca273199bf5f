-- What a seat made under one app's words it made under another's that say no more.
use Rattle.std.proofs.Common.{List, [], ◌∷◌, Option}
use Rattle.mely_event.specs.declared.colour.Colour.{Colour}
use Rattle.mely_event.specs.declared.event.Event.{Event}
use Rattle.mely_event.specs.declared.trail.Trail.{Ghosts as TrailWords}
use Rattle.mely_note.specs.declared.note.Note.{Note}
use Rattle.mely_kept.specs.declared.kept_shard.ShardFrame.{ShardFrame}
use Rattle.mely_kept.specs.KeptShard.{KeptShardState}
use Rattle.mely_worker.specs.IdleWorker.{IdleWorkerState}
use Rattle.mely_worker.specs.declared.app.App.{Ghosts as AppWords}
use Rattle.mely_worker.specs.declared.made.Made.{Made}
use Rattle.mely_worker.specs.Worker.{WorkerState}
use Rattle.mely_worker.proofs.GateLemmas.{NextTells, steps_tell}
use Rattle.mely_fleet.specs.declared.fleet.FleetOf.{FleetOf}
use Rattle.mely_fleet.specs.declared.passes.PassesOf.{PassesOf}
use Rattle.mely_fleet.specs.Seats.{HasMade}
use Rattle.mely_fleet.specs.Work.{Standpoint, words, StepsOn, MakesSteps}

module _ {R S P F : Type 0} (t : TrailWords S F) (fits : F → Colour → Event → Option P → Type 0) (y y' : AppWords R P S F) (app : R) (tells : (w : WorkerState S P) → NextTells y y' app w) where
  step_tells : (a : Standpoint S P F) (w : WorkerState S P) (step : Made) (b : Standpoint S P F) (v : WorkerState S P) → StepsOn t fits y app a w step b v → StepsOn t fits y' app a w step b v
  step_tells a w step b v on = record {
    steps = steps_tell (words t fits) y y' app a w step b v (tells w) on.steps;
    stays = on.stays;
    given = on.given;
    may = on.may;
    may_then = on.may_then;
  }

  makes_tell : (steps : List Made) (a b : Standpoint S P F) (w v : WorkerState S P) → MakesSteps t fits y app steps a w b v → MakesSteps t fits y' app steps a w b v
  makes_tell [] a b w v made = made
  makes_tell (step ∷ later) a b w v (c, d, u, first, one, rest) = (c, d, u, first, step_tells c w step d u one, makes_tell later d b u v rest)

  -- what a seat made
  pub made_tells : {g : _} (fleet : FleetOf (KeptShardState S P) (Note S P) (ShardFrame S F)) (before after : PassesOf (KeptShardState S P) (Note S P) (ShardFrame S F) g) (worker again : Option (IdleWorkerState P)) → HasMade t fits y app fleet before worker after again → HasMade t fits y' app fleet before worker after again
  made_tells fleet before after worker again made = record {
    rest = made.rest;
    rested = made.rested;
    again = made.again;
    rests = made.rests;
    makes = (made.makes.0, makes_tell made.makes.0 _ _ _ _ made.makes.1);
  }
