use Rattle.mely_crew.specs.Settling.{MakesSome}
use Rattle.mely_crew.proofs.settling.settle.Given as goal

abbrev pub invariant-rounds : goal.invariant-rounds
invariant-rounds g l = MakesSome g.S.Trail g.S.Fits.fits_under g.A.App l.app l.fn.weave l.weave
