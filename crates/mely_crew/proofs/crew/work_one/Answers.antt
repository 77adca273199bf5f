use Rattle.std.proofs.Common.{[], refl}
use Rattle.mely_kept.specs.Frames.{shard_frame}
use Rattle.mely_fleet.specs.Work.{standpoint}
use Rattle.mely_fleet.proofs.MakesLemmas.{looked_itself}
use Rattle.mely_crew.proofs.crew.work_one.Goals as goal

-- a seat that was left as it was
pub returns-then-load-clause-made : goal.returns-then-load-clause-made
returns-then-load-clause-made g c = record {
  rest = c.requires.seat.sits.rest;
  rested = c.requires.seat.sits.rested;
  again = c.requires.seat.sits.rest;
  rests = c.requires.seat.sits.rested;
  makes = ([], (looked_itself (standpoint (shard_frame g.S.Trail.frame_of) c.args.fleet.now c.args.seat.now.passes), refl));
}
