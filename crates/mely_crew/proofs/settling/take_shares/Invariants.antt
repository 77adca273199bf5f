use Rattle.mely_crew.specs.Settling.{MakesSome}
use Rattle.mely_crew.proofs.settling.take_shares.Given as goal

abbrev pub invariant-cores : goal.invariant-cores
invariant-cores g l = MakesSome g.S.Trail g.S.Fits.fits_under g.A.App l.app l.fn.weave l.weave
