use Rattle.std.proofs.Common.{sym, subst}
use Rattle.mely_fleet.specs.ClosesHome.{MayCloseHome, IsClosedHome}
use Rattle.mely_fleet.proofs.seat.FleetOf+KeptShard+S+P.close_seats.Goals as goal

pub close_home-requires-clause-home : goal.close_home-requires-clause-home
close_home-requires-clause-home g c = subst (λ l. MayCloseHome g.S.Trail.frame_of g.S.Fits.fits_under c.args.self c.args.room c.args.seats.items l) (sym c.make_lists.ensures.callers) c.requires.home

pub returns-in-Ok-clause-home : goal.returns-in-Ok-clause-home
returns-in-Ok-clause-home g c = subst (λ l. IsClosedHome g.S.Trail g.S.Fits.fits_under c.args.self c.args.seats.items l c.close_home.result) c.make_lists.ensures.callers c.close_home.ensures.home
