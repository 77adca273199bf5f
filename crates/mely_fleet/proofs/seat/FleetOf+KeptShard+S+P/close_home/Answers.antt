use Rattle.std.proofs.Common.{◌≡◌, ◌++◌, ◌<◌, None, Some, length, map, ap, ◌∙◌, sym, subst, refl, arith, length-append}
use Rattle.std.specs.Prelude.{IsSome, option_map, IsTrue, slice_get}
use Rattle.std.proofs.lemmas.List.{length-map}
use Rattle.mely_history.specs.Setup.{shape_of}
use Rattle.mely_worker.specs.IdleWorker.{resumed_worker}
use Rattle.mely_worker.specs.Phase.{is_free}
use Rattle.mely_weave.specs.Dealing.{AtEach}
use Rattle.mely_fleet.specs.ClosesHome.{IsClosedInto}
use Rattle.mely_kept.specs.Frames.{shard_frame}
use Rattle.mely_fleet.specs.Fleets.{ArePasses}
use Rattle.mely_fleet.specs.Work.{HasFinishedBut, standpoint}
use Rattle.mely_fleet.proofs.SeatLemmas.{each_append, each_mapped, seated_worker, some_mapped}
use Rattle.mely_fleet.proofs.seat.FleetOf+KeptShard+S+P.close_home.Goals as goal

pub leave_all-callers-requires-clause-rest : goal.leave_all-callers-requires-clause-rest
leave_all-callers-requires-clause-rest g c = λ n seat at. let sits = (c.requires.home.seats n seat at).sits in subst IsSome (sym sits.rested) refl

pub wake_all-workers-requires-clause-room : goal.wake_all-workers-requires-clause-room
wake_all-workers-requires-clause-room g c =
    let rested = c.leave_all-callers.result.1.items in
    let many : length rested ≡ length c.args.seats.items = sym (length-map rested (λ rest. Some rest)) ∙ ap length c.leave_all-callers.ensures.rested ∙ length-map c.args.seats.items (λ seat. seat.worker) in
    let room = c.requires.workers_room in
    omega (arith, many, room)

-- all callers
callers_are : (g : _) (c : goal.After-wake_all-workers g) → c.leave_all-callers.result.0.items ≡ c.args.outsiders.items ++ map (λ seat. seat.passes) c.args.seats.items
callers_are g c = c.leave_all-callers.ensures.passes

pub close-requires-clause-all : goal.close-requires-clause-all
close-requires-clause-all g c =
    let is = ap length (callers_are g c) in
    let both = length-append c.args.outsiders.items (map (λ seat. seat.passes) c.args.seats.items) in
    let many = length-map c.args.seats.items (λ seat. seat.passes) in
    let all = c.requires.home.all in
    omega (arith, is, both, many, all)

pub close-requires-clause-each : goal.close-requires-clause-each
close-requires-clause-each g c = λ n own at.
    each_append (ArePasses (shard_frame g.S.Trail.frame_of) c.args.self) c.args.outsiders.items (map (λ seat. seat.passes) c.args.seats.items)
    (λ i x is. (c.requires.home.outsiders i x is).passes)
    (each_mapped (ArePasses (shard_frame g.S.Trail.frame_of) c.args.self) (λ seat. seat.passes) c.args.seats.items (λ i x is. (c.requires.home.seats i x is).sits.passes))
    n own (ap (λ l. slice_get l n) (sym (callers_are g c)) ∙ at)

pub close-requires-clause-finished : goal.close-requires-clause-finished
close-requires-clause-finished g c = λ n own at.
    each_append (λ own. own.number < (shape_of c.args.self.setup).cores → HasFinishedBut (standpoint (shard_frame g.S.Trail.frame_of) c.args.self own) None) c.args.outsiders.items (map (λ seat. seat.passes) c.args.seats.items)
    (λ i x is low. absurd (let high = (c.requires.home.outsiders i x is).outside in omega (arith, low, high)))
    (each_mapped (λ own. own.number < (shape_of c.args.self.setup).cores → HasFinishedBut (standpoint (shard_frame g.S.Trail.frame_of) c.args.self own) None) (λ seat. seat.passes) c.args.seats.items (λ i x is low. (c.requires.home.seats i x is).sits.finished))
    n own (ap (λ l. slice_get l n) (sym (callers_are g c)) ∙ at)

pub close-requires-clause-worker_count : goal.close-requires-clause-worker_count
close-requires-clause-worker_count g c =
    let rested = c.leave_all-callers.result.1.items in
    ap length c.wake_all-workers.ensures ∙ length-map rested (λ rest. resumed_worker rest) ∙ sym (length-map rested (λ rest. Some rest)) ∙ ap length c.leave_all-callers.ensures.rested ∙ length-map c.args.seats.items (λ seat. seat.worker) ∙ c.requires.home.cores

pub close-requires-clause-workers : goal.close-requires-clause-workers
close-requires-clause-workers g c = λ n w at.
    seated_worker g.S.Trail g.S.Fits.fits_under c.args.self (λ seat. seat.passes) (λ seat. seat.worker) c.args.seats.items c.requires.home.seats c.leave_all-callers.result.1.items c.leave_all-callers.ensures.rested n w (ap (λ l. slice_get l n) (sym c.wake_all-workers.ensures) ∙ at)

pub returns : goal.returns
returns g c =
    let rested = c.leave_all-callers.result.1.items in
    let awake = c.close.ensures.workers ∙ c.wake_all-workers.ensures in
    record {
      home = record {
        closed = subst (λ l. IsClosedInto g.S.Trail g.S.Fits.fits_under c.args.self l c.close.result) c.leave_all-callers.ensures.passes c.close.ensures.closed;
        free = subst (λ ws. AtEach (λ core w. IsTrue (is_free w.phase)) ws) (sym awake)
            (each_mapped (λ w. IsTrue (is_free w.phase)) (λ rest. resumed_worker rest) rested (λ i x is. refl));
        workers = ap (map (λ w. Some w)) awake ∙ some_mapped (λ rest. resumed_worker rest) rested ∙ ap (map (option_map (λ rest. resumed_worker rest))) c.leave_all-callers.ensures.rested;
      };
    }
