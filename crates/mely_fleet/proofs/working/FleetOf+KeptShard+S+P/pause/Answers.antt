use Rattle.mely_kept.specs.Frames.{shard_frame}
use Rattle.mely_fleet.specs.Work.{HasLooked, standpoint}
use Rattle.mely_fleet.specs.Working.{HasWorked}
use Rattle.mely_fleet.proofs.MakesLemmas.{looked_itself}
use Rattle.mely_fleet.proofs.WorkedLemmas.{worked_free, worked_none}
use Rattle.mely_fleet.proofs.working.FleetOf+KeptShard+S+P.pause.Goals as goal
use Rattle.mely_fleet.proofs.working.FleetOf+KeptShard+S+P.pause.Goals.{After-are_drained, Start}

-- it looked at the shards
looked : (g : _) (c : After-are_drained g) → HasWorked g.S.Trail g.S.Fits.fits_under c.args.self.now c.args.passes.now c.args.worker.now c.are_drained.new.passes c.args.worker.now
looked g c = worked_free g.S.Trail g.S.Fits.fits_under c.args.self.now c.args.passes.now c.are_drained.new.passes c.args.worker.now (c.is_free.ensures.0 c.if-not-is_free.false) c.requires.may c.are_drained.ensures.passes c.are_drained.ensures.number c.are_drained.ensures.more c.are_drained.ensures.finished

pub returns-then-are_drained-clause-quiet : goal.returns-then-are_drained-clause-quiet
returns-then-are_drained-clause-quiet g c is = c.are_drained.ensures.drained c.if-are_drained.true

pub returns-then-are_drained-clause-worked : goal.returns-then-are_drained-clause-worked
returns-then-are_drained-clause-worked g c = looked g (goal.at.returns-then-are_drained-clause-worked g c).After-are_drained

pub returns-then-is_idle-clause-worked : goal.returns-then-is_idle-clause-worked
returns-then-is_idle-clause-worked g c = looked g (goal.at.returns-then-is_idle-clause-worked g c).After-are_drained

-- nothing was seen and nothing done
seen : (g : _) (c : Start g) → HasLooked (standpoint (shard_frame g.S.Trail.frame_of) c.args.self.now c.args.passes.now) (standpoint (shard_frame g.S.Trail.frame_of) c.args.self.now c.args.passes.now)
seen g c = looked_itself (standpoint (shard_frame g.S.Trail.frame_of) c.args.self.now c.args.passes.now)

rested : (g : _) (c : Start g) → HasWorked g.S.Trail g.S.Fits.fits_under c.args.self.now c.args.passes.now c.args.worker.now c.args.passes.now c.args.worker.now
rested g c = worked_none g.S.Trail g.S.Fits.fits_under c.args.self.now c.args.passes.now c.args.worker.now c.requires.may

pub returns-then-not-is_free-clause-looked : goal.returns-then-not-is_free-clause-looked
returns-then-not-is_free-clause-looked g c = seen g (goal.at.returns-then-not-is_free-clause-looked g c).Start

pub returns-then-not-is_free-clause-worked : goal.returns-then-not-is_free-clause-worked
returns-then-not-is_free-clause-worked g c = rested g (goal.at.returns-then-not-is_free-clause-worked g c).Start

pub returns-then-is_halted-clause-looked : goal.returns-then-is_halted-clause-looked
returns-then-is_halted-clause-looked g c = seen g (goal.at.returns-then-is_halted-clause-looked g c).Start

pub returns-then-is_halted-clause-worked : goal.returns-then-is_halted-clause-worked
returns-then-is_halted-clause-worked g c = rested g (goal.at.returns-then-is_halted-clause-worked g c).Start

pub returns-then-is_stopped-clause-looked : goal.returns-then-is_stopped-clause-looked
returns-then-is_stopped-clause-looked g c = seen g (goal.at.returns-then-is_stopped-clause-looked g c).Start

pub returns-then-is_stopped-clause-worked : goal.returns-then-is_stopped-clause-worked
returns-then-is_stopped-clause-worked g c = rested g (goal.at.returns-then-is_stopped-clause-worked g c).Start

pub returns-then-is_over-clause-looked : goal.returns-then-is_over-clause-looked
returns-then-is_over-clause-looked g c = seen g (goal.at.returns-then-is_over-clause-looked g c).Start

pub returns-then-is_over-clause-worked : goal.returns-then-is_over-clause-worked
returns-then-is_over-clause-worked g c = rested g (goal.at.returns-then-is_over-clause-worked g c).Start

pub returns-then-not-is_hunted-clause-looked : goal.returns-then-not-is_hunted-clause-looked
returns-then-not-is_hunted-clause-looked g c = seen g (goal.at.returns-then-not-is_hunted-clause-looked g c).Start

pub returns-then-not-is_hunted-clause-worked : goal.returns-then-not-is_hunted-clause-worked
returns-then-not-is_hunted-clause-worked g c = rested g (goal.at.returns-then-not-is_hunted-clause-worked g c).Start

pub returns-then-rest-clause-looked : goal.returns-then-rest-clause-looked
returns-then-rest-clause-looked g c = seen g (goal.at.returns-then-rest-clause-looked g c).Start

pub returns-then-rest-clause-worked : goal.returns-then-rest-clause-worked
returns-then-rest-clause-worked g c = rested g (goal.at.returns-then-rest-clause-worked g c).Start

pub returns-clause-looked : goal.returns-clause-looked
returns-clause-looked g c = seen g (goal.at.returns-clause-looked g c).Start

pub returns-clause-worked : goal.returns-clause-worked
returns-clause-worked g c = rested g (goal.at.returns-clause-worked g c).Start
