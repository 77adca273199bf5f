use Rattle.std.proofs.Common.{◌≡◌, ◌∙◌, Some, ap, refl, sym, subst, arith}
use Rattle.std.proofs.lemmas.Option.{slice_get_within}
use Rattle.mely_weave.proofs.Wholes.GatherLemmas.{get_there}
use Rattle.mely_weave.specs.Making.{initial_idle_worker}
use Rattle.mely_kept.specs.Frames.{shard_frame}
use Rattle.mely_fleet.specs.Opening.{AreInitialPasses}
use Rattle.mely_fleet.proofs.SeatLemmas.{first_seat}
use Rattle.mely_fleet.proofs.seat.FleetOf+KeptShard+S+P.seats.Goals as goal

pub returns-clause-each : goal.returns-clause-each
returns-clause-each g c = λ n seat at.
    let fleet = c.args.self.now in
    let made = c.in_ok-seats in
    let low = slice_get_within made.seats.items n seat at in
    let many = made.ensures.many in
    let cores = c.requires.many in
    let rested_many = c.in-Ok.ensures.many in
    let own = get_there c.args.passes.items n (omega (arith, low, many)) in
    let rest = get_there c.in-Ok.rested.items n (omega (arith, low, many, cores, rested_many)) in
    let passes_is : seat.passes ≡ own.0 = made.ensures.passes n own.0 seat own.1 at in
    let worker_is : seat.worker ≡ Some (initial_idle_worker fleet.setup n) = made.ensures.workers n rest.0 seat rest.1 at ∙ ap (λ r. Some r) (c.in-Ok.ensures.first n rest.0 rest.1) in
    first_seat g.S.Trail g.S.Fits.fits_under fleet n seat.passes seat.worker (omega (arith, low, many, cores))
    (subst (AreInitialPasses (shard_frame g.S.Trail.frame_of) fleet n) (sym passes_is) (c.requires.first n own.0 own.1)) worker_is

pub returns-clause-fresh : goal.returns-clause-fresh
returns-clause-fresh g c = λ n seat at.
    let fleet = c.args.self.now in
    let made = c.in_ok-seats in
    let low = slice_get_within made.seats.items n seat at in
    let many = made.ensures.many in
    let cores = c.requires.many in
    let rested_many = c.in-Ok.ensures.many in
    let own = get_there c.args.passes.items n (omega (arith, low, many)) in
    let rest = get_there c.in-Ok.rested.items n (omega (arith, low, many, cores, rested_many)) in
    let passes_is : seat.passes ≡ own.0 = made.ensures.passes n own.0 seat own.1 at in
    let first = subst (AreInitialPasses (shard_frame g.S.Trail.frame_of) fleet n) (sym passes_is) (c.requires.first n own.0 own.1) in
    record {
      unseen = first.unseen;
      rest = initial_idle_worker fleet.setup n;
      rested = made.ensures.workers n rest.0 seat rest.1 at ∙ ap (λ r. Some r) (c.in-Ok.ensures.first n rest.0 rest.1);
      awake = refl;
      none_lost = refl;
    }
