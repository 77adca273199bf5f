use Rattle.mely_weave.specs.Drains.{AreDriven}
use Rattle.mely_weave.specs.StandsWell.{StandsWell}
use Rattle.mely_weave.proofs.weave.Weave.drive_all.Given as goal

abbrev pub invariant-loop-core : goal.invariant-loop-core
invariant-loop-core g l = record {
  driven : AreDriven g.S.Trail g.S.Fits.fits_under g.R.App l.app l.core l.fn.self l.self;
  stands : StandsWell g.S.Trail g.S.Fits.fits_under l.self;
}
