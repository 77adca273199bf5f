use Rattle.std.proofs.Common.{ℕ}
use Rattle.mely_weave.specs.Drains.{Drives}
use Rattle.mely_weave.specs.StandsWell.{StandsWell}
use Rattle.mely_weave.proofs.weave.Weave.drive.Given as goal

abbrev pub invariant-loop : goal.invariant-loop
invariant-loop g l = record {
  drives : (count : ℕ) × Drives g.S.Trail g.S.Fits.fits_under g.R.App l.app l.core count l.fn.self l.self;
  stands : StandsWell g.S.Trail g.S.Fits.fits_under l.self;
}
