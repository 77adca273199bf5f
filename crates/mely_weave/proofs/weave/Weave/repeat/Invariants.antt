use Rattle.std.proofs.Common.{replicate}
use Rattle.mely_weave.specs.StandsWell.{StandsWell}
use Rattle.mely_weave.specs.Runs.{RunsTo}
use Rattle.mely_weave.specs.declared.running.Went.TheVariants as went
use Rattle.mely_weave.proofs.weave.Weave.repeat.Given as goal

abbrev pub invariant-loop-number : goal.invariant-loop-number
invariant-loop-number g l = record {
  runs : RunsTo g.S.Trail g.S.Fits.fits_under g.R.App l.app l.fn.self (replicate l.number l.core) went.All l.self;
  stands : StandsWell g.S.Trail g.S.Fits.fits_under l.self;
}
