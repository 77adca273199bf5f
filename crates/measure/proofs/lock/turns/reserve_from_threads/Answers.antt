use denote.Param.Send.{sendable}
use Rattle.std.proofs.Crossing.{crosses}
use Rattle.mely_event.proofs.trail_log.TrailLog.TheSendSync as trail
use Rattle.mely_fleet.proofs.fleet.FleetOf.TheSendSync as fleet
use Rattle.mely_fleet.proofs.passes.PassesOf.TheSendSync as passes
use Rattle.mely_fleet.proofs.CrossingLemmas.{kept_crosses}
use Rattle.std.proofs.Common.{◌∙◌, Some, ap, sym}
use Rattle.std.proofs.lemmas.Option.{slice_get-get_or}
use Rattle.measure.proofs.lock.turns.reserve_from_threads.Goals as goal

pub for_each_mut-requires-send-T : goal.for_each_mut-requires-send-T
for_each_mut-requires-send-T g c κs within =
    search (crosses, sendable, passes.the_send, kept_crosses, trail.the_send) depth 60 fits 20000

pub for_each_mut-requires-sync-F : goal.for_each_mut-requires-sync-F
for_each_mut-requires-sync-F g c κs within =
    let runtime = c.type_bounds.sync-R in
    search (crosses, sendable, fleet.the_sync, kept_crosses, trail.the_send) depth 60 fits 20000

pub for_each_mut-requires-clause-accepts : goal.for_each_mut-requires-clause-accepts
for_each_mut-requires-clause-accepts g c = λ _ _ i p low is. (c.requires.some, c.requires.passes.each i p.now (slice_get-get_or _ i p.now low ∙ ap (λ own. Some own) (sym is)))
