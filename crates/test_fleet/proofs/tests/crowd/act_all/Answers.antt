use denote.Param.Send.{sendable}
use Rattle.std.proofs.Crossing.{crosses}
use Rattle.mely_event.proofs.trail_log.TrailLog.TheSendSync as trail
use Rattle.mely_fleet.proofs.fleet.FleetOf.TheSendSync as fleet
use Rattle.mely_fleet.proofs.seat.SeatOf.TheSendSync as seat
use Rattle.mely_fleet.proofs.CrossingLemmas.{kept_crosses}
use Rattle.std.proofs.Common.{◌≡◌, ◌<◌, ◌∙◌, ap, arith, length, subst, sym}
use Rattle.std.specs.Prelude.{slice_get}
use Rattle.std.proofs.lemmas.Option.{slice_get_within, get_or_from_slice_get}
use Rattle.test_fleet.specs.Callers.{IsCaller}
use Rattle.test_fleet.proofs.RowLemmas.{written_back}
use Rattle.test_fleet.proofs.tests.crowd.act_all.Goals as goal

pub for_each_mut-requires-send-T : goal.for_each_mut-requires-send-T
for_each_mut-requires-send-T g c κs within =
    search (crosses, sendable, seat.the_send, kept_crosses, trail.the_send) depth 60 fits 20000

pub for_each_mut-requires-sync-F : goal.for_each_mut-requires-sync-F
for_each_mut-requires-sync-F g c κs within =
    let runtime = c.type_bounds.sync-R in
    search (crosses, sendable, fleet.the_sync, kept_crosses, trail.the_send) depth 60 fits 20000

pub returns-clause-callers : goal.returns-clause-callers
returns-clause-callers g c place caller there =
    let written = c.for_each_mut.new.s in
    let many = c.for_each_mut.auto.s in
    let lent = ap length c.deref_mut.ensures.value in
    let counted = c.args.callers.now.ok in
    let same : length written ≡ c.args.callers.now.len = omega (arith, many, lent, counted) in
    let kept = ap (λ l. slice_get l place) (sym (written_back written c.args.callers.now.items c.args.callers.now.len same)) ∙ there in
    let within = slice_get_within written place caller kept in
    let low : place < length c.deref_mut.result.now = omega (arith, many, within) in
    let change = (c.for_each_mut.ensures place caller low).1 in
    let is = get_or_from_slice_get written place caller caller kept in
    subst (λ one. IsCaller (λ s. tt) (λ f c e l. Unit {0}) c.args.fleet.now place one.passes one.worker) (change.left ∙ is) change.call
