use denote.Param.{param}
use denote.Param.Send.{sendable}
use Rattle.std.proofs.Common.{◌<◌, ◌∙◌, [], Some, ap, refl, sym, subst, length, arith}
use Rattle.std.proofs.Crossing.{crosses}
use Rattle.std.proofs.lemmas.Option.{slice_get-get_or, slice_get_within, get_or_from_slice_get}
use Rattle.mely_fleet.proofs.fleet.FleetOf.TheSendSync as fleet
use Rattle.mely_fleet.proofs.seat.SeatOf.TheSendSync as seat
use Rattle.mely_weave.proofs.Wholes.GatherLemmas.{get_there}
use Rattle.mely_worker.specs.Gated.{behind}
use Rattle.mely_kept.specs.Frames.{shard_frame}
use Rattle.mely_fleet.specs.Work.{standpoint}
use Rattle.mely_fleet.proofs.MakesLemmas.{looked_itself}
use Rattle.mely_fleet.specs.Seats.{IsSeatOf, HasMade}
use Rattle.mely_fleet.proofs.CrossingLemmas.{kept_crosses}
use Rattle.mely_crew.proofs.crew.work_all.Goals as goal

pub for_each_mut-requires-send-T : goal.for_each_mut-requires-send-T
for_each_mut-requires-send-T g c κs within =
    let load = c.type_bounds.send-P in
    let kept = kept_crosses (param 1 g.row.S) (param 2 g.row.P) (param 5 g.row.S-Frame) g.S.Fits g.S.Trail c.type_bounds.send-S load in
    search (crosses, sendable, seat.the_send) depth 60 fits 20000

pub for_each_mut-requires-sync-F : goal.for_each_mut-requires-sync-F
for_each_mut-requires-sync-F g c κs within =
    let kept = kept_crosses (param 1 g.row.S) (param 2 g.row.P) (param 5 g.row.S-Frame) g.S.Fits g.S.Trail c.type_bounds.send-S c.type_bounds.send-P in
    let runtime = c.type_bounds.sync-R in
    let app = c.type_bounds.sync-A in
    let gate = c.type_bounds.sync-G in
    search (crosses, sendable, fleet.the_sync) depth 60 fits 20000

pub for_each_mut-requires-clause-accepts : goal.for_each_mut-requires-clause-accepts
for_each_mut-requires-clause-accepts g c = λ _ _ i p low is. (c.requires.seats i p.now (slice_get-get_or _ i p.now low ∙ ap (λ own. Some own) (sym is)), c.requires.served)

pub returns-clause-seats : goal.returns-clause-seats
returns-clause-seats g c place seat there =
    let same = c.for_each_mut.auto.s in
    let low_new = slice_get_within _ place seat there in
    let low : place < length c.args.seats.now = omega (arith, same, low_new) in
    let change = (c.for_each_mut.ensures place seat low).1 in
    let is = get_or_from_slice_get _ place seat seat there in
    subst (λ s. IsSeatOf g.S.Trail.frame_of g.S.Fits.fits_under c.args.fleet.now place s.passes s.worker) (change.left ∙ is) change.call.0

pub returns-clause-made : goal.returns-clause-made
returns-clause-made g c place seat there =
    let same = c.for_each_mut.auto.s in
    let low_new = slice_get_within _ place seat there in
    let low : place < length c.args.seats.now = omega (arith, same, low_new) in
    let change = (c.for_each_mut.ensures place seat low).1 in
    let is = get_or_from_slice_get _ place seat seat there in
    let old = get_there c.args.seats.now place low in
    let was = get_or_from_slice_get c.args.seats.now place old.0 seat old.1 in (
      old.0,
      old.1,
      subst (λ s. HasMade g.S.Trail g.S.Fits.fits_under (behind g.S.Trail (g.G.Gate.passes c.args.gate.now place) g.A.App) c.args.app.now c.args.fleet.now old.0.passes old.0.worker s.passes s.worker) (change.left ∙ is)
          (subst (λ s. HasMade g.S.Trail g.S.Fits.fits_under (behind g.S.Trail (g.G.Gate.passes c.args.gate.now place) g.A.App) c.args.app.now c.args.fleet.now s.passes s.worker change.after_call.now.passes change.after_call.now.worker) (change.argument_is ∙ was) change.call.1),
    )

-- seats that were left as they were
pub returns-then-leaves_all-clause-made : goal.returns-then-leaves_all-clause-made
returns-then-leaves_all-clause-made g c place seat there =
    let sits = (c.requires.seats place seat there).sits in (
      seat,
      there,
      record {
        rest = sits.rest;
        rested = sits.rested;
        again = sits.rest;
        rests = sits.rested;
        makes = ([], (looked_itself (standpoint (shard_frame g.S.Trail.frame_of) c.args.fleet.now seat.passes), refl));
      },
    )
