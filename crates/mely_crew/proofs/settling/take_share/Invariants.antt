use Rattle.mely_crew.specs.Settling.{MakesSome}
use Rattle.mely_crew.proofs.settling.take_share.Given as goal

abbrev pub invariant-steps : goal.invariant-steps
invariant-steps g l = MakesSome g.S.Trail g.S.Fits.fits_under g.A.App l.app l.fn.weave l.weave
