use Rattle.std.proofs.Common.{ℕ}
use Rattle.mely_weave.specs.Drains.{Rounds}
use Rattle.mely_weave.specs.StandsWell.{StandsWell}
use Rattle.mely_weave.proofs.weave.Weave.drain.Given as goal

abbrev pub invariant-loop : goal.invariant-loop
invariant-loop g l = record {
  rounds : (n : ℕ) × Rounds g.S.Trail g.S.Fits.fits_under g.R.App l.app n l.fn.self l.self;
  stands : StandsWell g.S.Trail g.S.Fits.fits_under l.self;
}
