use Rattle.std.proofs.Common.{◌≡◌, take, length}
use Rattle.mely_weave.specs.StandsWell.{StandsWell}
use Rattle.mely_weave.specs.Runs.{RunsTo}
use Rattle.mely_history.specs.Schedules.{spelled_out}
use Rattle.mely_weave.specs.declared.running.Went.TheVariants as went
use Rattle.mely_weave.proofs.weave.Weave.run.Given as goal

abbrev pub invariant-loop-core : goal.invariant-loop-core
invariant-loop-core g l = record {
  runs : RunsTo g.S.Trail g.S.Fits.fits_under g.R.App l.app l.fn.self (spelled_out (take l.core-index l.schedule)) went.All l.self;
  counted : l.made ≡ length (spelled_out (take l.core-index l.schedule));
  stands : StandsWell g.S.Trail g.S.Fits.fits_under l.self;
}
