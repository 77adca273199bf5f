use denote.Param.Send.{sendable}
use Rattle.std.proofs.Crossing.{crosses}
use Rattle.mely_event.proofs.trail_log.TrailLog.TheSendSync as trail
use Rattle.mely_fleet.proofs.fleet.FleetOf.TheSendSync as fleet
use Rattle.mely_fleet.proofs.seat.SeatOf.TheSendSync as seat
use Rattle.mely_fleet.proofs.CrossingLemmas.{kept_crosses}
use Rattle.std.proofs.Common.{◌<◌, ◌∙◌, Some, ap, sym, subst, length, arith}
use Rattle.std.proofs.lemmas.Option.{slice_get-get_or, slice_get_within, get_or_from_slice_get}
use Rattle.mely_fleet.specs.Seats.{IsSeatOf}
use Rattle.measure.proofs.fleet.crew.work_all.Goals as goal

pub for_each_mut-requires-send-T : goal.for_each_mut-requires-send-T
for_each_mut-requires-send-T g c κs within =
    search (crosses, sendable, seat.the_send, kept_crosses, trail.the_send) depth 60 fits 20000

pub for_each_mut-requires-sync-F : goal.for_each_mut-requires-sync-F
for_each_mut-requires-sync-F g c κs within =
    let runtime = c.type_bounds.sync-R in
    search (crosses, sendable, fleet.the_sync, kept_crosses, trail.the_send) depth 60 fits 20000

pub for_each_mut-requires-clause-accepts : goal.for_each_mut-requires-clause-accepts
for_each_mut-requires-clause-accepts g c = λ _ _ i p low is. (c.requires.shaped, c.requires.seats i p.now (slice_get-get_or _ i p.now low ∙ ap (λ own. Some own) (sym is)))

pub returns : goal.returns
returns g c place seat there =
    let same = c.for_each_mut.auto.s in
    let low_new = slice_get_within _ place seat there in
    let low : place < length c.args.seats.now = omega (arith, same, low_new) in
    let change = (c.for_each_mut.ensures place seat low).1 in
    let is = get_or_from_slice_get _ place seat seat there in
    subst (λ s. IsSeatOf (λ s. tt) (λ f c e l. Unit {0}) c.args.fleet.now place s.passes s.worker) (change.left ∙ is) change.call
