use Rattle.std.proofs.Common.{◌≡◌, ◌≤◌, ◌+◌, ◌++◌, ◌∷◌, [], Some, map, length, take, drop, ap, ◌∙◌, sym, subst, arith}
use Rattle.std.specs.Prelude.{slice_get}
use Rattle.mely_history.specs.declared.setup.Setup.{Setup}
use Rattle.mely_history.specs.Setup.{shape_of, colours_of}
use Rattle.mely_worker.specs.Access.{FitsSetup}
use Rattle.mely_worker.specs.Conditions.{AppServes}
use Rattle.mely_worker.specs.Gated.{behind}
use Rattle.mely_worker.specs.Worker.{WorkerState}
use Rattle.mely_worker.proofs.GateLemmas.{NextTells}
use Rattle.mely_fleet.proofs.GateLemmas.{made_tells}
use Rattle.mely_crew.specs.Crew.{SomeHasPassed}
use Rattle.mely_fleet.specs.Fleets.{frame_in}
use Rattle.mely_note.specs.declared.note.Note.TheVariants.{Reg}
use Rattle.mely_note.specs.Notes.{entries_of}
use Rattle.mely_kept.specs.Frames.{shard_frame}
use Rattle.mely_note.specs.Notes.{snapshot_of}
use Rattle.mely_fleet.proofs.FrontLemmas.{others_of_entries, entries_more}
use Rattle.mely_fleet.specs.Seats.{IsOutsider}
use Rattle.mely_weave.specs.Side.{shard_of}
use Rattle.mely_tally.specs.Account.{IsAccounted}
use Rattle.mely_tally.proofs.AccountLemmas.{account_drain}
use Rattle.mely_fleet.specs.Calls.{SeesAt, front_in}
use Rattle.mely_fleet.specs.Rows.{fronts}
use Rattle.mely_weave.specs.Runs.{KeepsSetup}
use Rattle.mely_weave.proofs.Runs.CallRunsLemmas.{runs_on}
use Rattle.mely_weave.proofs.Runs.RunLemmas.{serves_on}
use Rattle.mely_weave.proofs.Runs.WeaveRunLemmas.{run_grows}
use Rattle.mely_crew.proofs.SettlingLemmas.{some_same, some_stand, some_run, some_account, some_told}
use Rattle.mely_crew.proofs.BegunLemmas.{registered_after, first_of}
use Rattle.mely_crew.proofs.CrewAccountLemmas.{Enters, HasRun, closed_account}
use Rattle.mely_chain.specs.WeaveTold.{IsTold}
use Rattle.mely_chain.proofs.WeaveToldLemmas.{told_drain_of}
use Rattle.mely_crew.proofs.ToldCrewLemmas.{closed_told}
use Rattle.mely_crew.proofs.CrewLemmas.{there_of, the_only, refilled, gathered_frame}
use Rattle.mely_crew.proofs.crew.run_made.Goals as goal
use Rattle.mely_crew.proofs.crew.run_made.Goals.{In-Ok, After-push_reserved, After-close_home-weave, After-settle}

-- what holds of the setup and the frame of each first state holds of the fleet's
of_fleet : (g : _) (c : In-Ok g) (Has : Setup → _ → Type 0) → ((state : _) → slice_get c.args.states.items 0 ≡ Some state → Has c.args.setup.now (g.S.Trail.frame_of state)) → Has c.in-Ok.crew.manned.fleet.setup (frame_in (shard_frame g.S.Trail.frame_of) c.in-Ok.crew.manned.fleet)
of_fleet g c Has first =
    let some : 1 ≤ colours_of c.args.setup.now = c.args.setup.now.colours_in.0 in
    let all = c.requires.first.all in
    let state = there_of c.args.states.items 0 (omega (arith, some, all)) in
    subst (λ (k : Setup). Has k (frame_in (shard_frame g.S.Trail.frame_of) c.in-Ok.crew.manned.fleet)) (sym c.in-Ok.ensures.manned.of_setup)
    (subst (Has c.args.setup.now) (c.in-Ok.ensures.manned.framed state.0 state.1) (first state.0 state.1))

pub post-requires-clause-fits : goal.post-requires-clause-fits
post-requires-clause-fits g c = of_fleet g (goal.at.post-requires-clause-fits g c).In-Ok (λ k f. FitsSetup g.S.Fits.fits_under k f c.args.begin) c.requires.fits

pub work_all-requires-clause-seats : goal.work_all-requires-clause-seats
work_all-requires-clause-seats g c = λ _ _ k own there. c.in-Ok.ensures.manned.seats k own (ap (λ l. slice_get l k) (sym c.deref_mut.ensures.value) ∙ there)

pub work_all-requires-clause-served : goal.work_all-requires-clause-served
work_all-requires-clause-served g c = λ _ _. of_fleet g (goal.at.work_all-requires-clause-served g c).In-Ok (λ k f. AppServes g.A.App k f c.args.app.now) c.requires.served

-- the seats are those that came back from the threads
seats_are : (g : _) (c : After-push_reserved g) → take c.in-Ok.crew.manned.seats.len (c.work_all.new.seats ++ drop (length c.work_all.new.seats) c.in-Ok.crew.manned.seats.items) ≡ c.work_all.new.seats
seats_are g c = refilled c.work_all.new.seats c.in-Ok.crew.manned.seats.items c.in-Ok.crew.manned.seats.len c.in-Ok.crew.manned.seats.ok.0 (c.work_all.auto.seats ∙ ap length c.deref_mut.ensures.value)

-- one for each core
seat_count : (g : _) (c : After-push_reserved g) → length (take c.in-Ok.crew.manned.seats.len (c.work_all.new.seats ++ drop (length c.work_all.new.seats) c.in-Ok.crew.manned.seats.items)) ≡ (shape_of c.args.setup.now).cores
seat_count g c = ap length (seats_are g c) ∙ c.work_all.auto.seats ∙ ap length c.deref_mut.ensures.value ∙ c.in-Ok.ensures.manned.cores

pub close_home-weave-requires-clause-home : goal.close_home-weave-requires-clause-home
close_home-weave-requires-clause-home g c =
    let one = c.push_reserved.ensures.items ∙ ap (λ l. l ++ c.post.new.passes ∷ []) c.in-Ok.ensures.outsiders.0 in
    let many = seat_count g c in
    record {
      of_setup = c.in-Ok.ensures.room.0 ∙ sym c.in-Ok.ensures.manned.of_setup;
      of_passes = c.in-Ok.ensures.room.1 ∙ sym c.in-Ok.ensures.manned.callers;
      cores = many ∙ ap (λ (k : Setup). (shape_of k).cores) (sym c.in-Ok.ensures.manned.of_setup);
      all = let single = ap length one in let callers = c.in-Ok.ensures.manned.callers in omega (arith, many, single, callers);
      seats = λ place seat at. c.work_all.ensures.seats place seat (ap (λ l. slice_get l place) (sym (seats_are g c)) ∙ at);
      outsiders = λ place own at.
          let is = the_only c.post.new.passes own place (ap (λ l. slice_get l place) (sym one) ∙ at) in
          let same = c.in_default-post.ensures.same in
          let beyond = c.in-Ok.ensures.manned.outside.outside in
          subst (λ p. IsOutsider (shard_frame g.S.Trail.frame_of) c.in-Ok.crew.manned.fleet p) is (record { passes = c.in_default-post.ensures.passes; outside = omega (arith, same, beyond) });
    }

pub close_home-weave-requires-clause-callers_room : goal.close_home-weave-requires-clause-callers_room
close_home-weave-requires-clause-callers_room g c =
    let many = seat_count g c in
    let len = c.push_reserved.ensures.len in
    let cap = c.push_reserved.ensures.capacity in
    let none = c.in-Ok.crew.spare.outsiders.ok.0 ∙ ap length c.in-Ok.ensures.outsiders.0 in
    let room = c.in-Ok.ensures.outsiders.1 in
    omega (arith, many, len, cap, none, room)

pub close_home-weave-requires-clause-rested_room : goal.close_home-weave-requires-clause-rested_room
close_home-weave-requires-clause-rested_room g c =
    let many = seat_count g c in
    let room = c.in-Ok.ensures.rested.1 in
    omega (arith, many, room)

pub close_home-weave-requires-clause-workers_room : goal.close_home-weave-requires-clause-workers_room
close_home-weave-requires-clause-workers_room g c =
    let many = seat_count g c in
    let room = c.in-Ok.ensures.workers.1 in
    omega (arith, many, room)

-- the weave has the frame of the fleet
weave_framed : (g : _) (c : After-close_home-weave g) → g.S.Trail.frame_of c.close_home-weave.result.given ≡ frame_in (shard_frame g.S.Trail.frame_of) c.in-Ok.crew.manned.fleet
weave_framed g c =
    let closed = c.close_home-weave.ensures.home.closed in
    gathered_frame g.S.Trail g.S.Fits.fits_under c.close_home-weave.result c.in-Ok.crew.manned.fleet.setup (frame_in (shard_frame g.S.Trail.frame_of) c.in-Ok.crew.manned.fleet) closed.stands closed.shards

-- the app serves the weave
weave_served : (g : _) (c : After-close_home-weave g) → AppServes g.A.App c.in-Ok.crew.manned.fleet.setup (frame_in (shard_frame g.S.Trail.frame_of) c.in-Ok.crew.manned.fleet) c.args.app.now
    → AppServes g.A.App c.close_home-weave.result.setup (g.S.Trail.frame_of c.close_home-weave.result.given) c.args.app.now
weave_served g c served =
    subst (λ (k : Setup). AppServes g.A.App k (g.S.Trail.frame_of c.close_home-weave.result.given) c.args.app.now) (sym c.close_home-weave.ensures.home.closed.setup)
    (subst (λ f. AppServes g.A.App c.in-Ok.crew.manned.fleet.setup f c.args.app.now) (sym (weave_framed g c)) served)

pub settle-requires-clause-cores : goal.settle-requires-clause-cores
settle-requires-clause-cores g c =
    let asked = c.cores.ensures.value in
    let same = ap (λ (k : Setup). (shape_of k).cores) (c.close_home-weave.ensures.home.closed.setup ∙ c.in-Ok.ensures.manned.of_setup) in
    omega (arith, asked, same)

pub settle-requires-clause-served : goal.settle-requires-clause-served
settle-requires-clause-served g c =
    let at = goal.at.settle-requires-clause-served g c in
    weave_served g at.After-close_home-weave (of_fleet g at.In-Ok (λ k f. AppServes g.A.App k f c.args.app.now) c.requires.served)

-- what was settled keeps the setup
settled_same : (g : _) (c : After-settle g) → KeepsSetup c.close_home-weave.result c.settle.new.weave
settled_same g c = some_same g.S.Trail g.S.Fits.fits_under g.A.App c.args.app.now c.close_home-weave.result c.settle.new.weave c.settle.ensures

pub drain-drained-requires : goal.drain-drained-requires
drain-drained-requires g c =
    let at = goal.at.drain-drained-requires g c in
    let served = weave_served g at.After-close_home-weave (of_fleet g at.In-Ok (λ k f. AppServes g.A.App k f c.args.app.now) c.requires.served) in
    record { served = serves_on g.S.Trail.frame_of g.A.App c.args.app.now c.close_home-weave.result c.settle.new.weave (settled_same g at.After-settle) served }

pub returns-clause-of_setup : goal.returns-clause-of_setup
returns-clause-of_setup g c = c.drain-drained.ensures.same.setup ∙ (settled_same g (goal.at.returns-clause-of_setup g c).After-settle).setup ∙ c.close_home-weave.ensures.home.closed.setup ∙ c.in-Ok.ensures.manned.of_setup

pub returns-clause-framed : goal.returns-clause-framed
returns-clause-framed g c = λ state at. ap g.S.Trail.frame_of (c.drain-drained.ensures.same.given ∙ (settled_same g (goal.at.returns-clause-framed g c).After-settle).given) ∙ weave_framed g (goal.at.returns-clause-framed g c).After-close_home-weave ∙ sym (c.in-Ok.ensures.manned.framed state at)

pub returns-clause-begun : goal.returns-clause-begun
returns-clause-begun g c =
    let one = c.push_reserved.ensures.items ∙ ap (λ l. l ++ c.post.new.passes ∷ []) c.in-Ok.ensures.outsiders.0 in
    let closed = c.close_home-weave.ensures.home.closed in
    let sees = c.in_default-post.ensures.sees in
    let by = c.in-Ok.crew.manned.outside.number in
    let weave = c.close_home-weave.result in
    let seen = fronts c.post.new.passes.shards.items in
    let run = runs_on g.S.Trail g.S.Fits.fits_under g.A.App weave c.settle.new.weave c.drain-drained.new.self (some_run g.S.Trail g.S.Fits.fits_under g.A.App c.args.app.now weave c.settle.new.weave c.settle.ensures) c.drain-drained.ensures.calls in
    registered_after c.args.begin.0 c.args.begin.1 by weave c.drain-drained.new.self (entries_of (front_in seen (shard_of c.in-Ok.crew.manned.fleet.setup c.args.begin.0))) (entries_of sees.seen.point)
    (c.drain-drained.ensures.same.setup ∙ (settled_same g (goal.at.returns-clause-begun g c).After-settle).setup) closed.stands.shards
    (subst (λ (s : Setup). (shape_of s).cores ≤ by) (sym closed.setup) c.in-Ok.ensures.manned.outside.outside)
    (entries_more sees.seen.point _ (Reg c.args.begin.0 c.args.begin.1 (snapshot_of c.args.begin.2) by sees.seen.does.0.0) sees.seen.does.0.1)
    (λ has at.
    let shard = shard_of weave.setup c.args.begin.0 in
    let its = closed.histories shard has at in
    let since = others_of_entries c.post.new.passes.number (front_in seen shard) (closed.notes shard) (its.over.seen 0 c.post.new.passes (first_of _ _ _ one)) in
    (since.0, subst (λ (s : Setup). has.history ≡ entries_of (front_in seen (shard_of s c.args.begin.0)) ++ since.0) closed.setup (its.shows.entries ∙ since.1)))
    (run_grows g.S.Trail g.S.Fits.fits_under g.A.App run.0 weave c.drain-drained.new.self run.1)

-- the registration of the first event entered the history of its shard
entered : (g : _) (c : After-close_home-weave g) → SeesAt c.in-Ok.crew.manned.fleet.setup c.post.new.passes.number (shard_of c.in-Ok.crew.manned.fleet.setup c.args.begin.0) (fronts c.in-Ok.crew.manned.outside.shards.items) (fronts c.post.new.passes.shards.items) (Enters c.args.begin.0 c.args.begin.1 c.args.begin.2 c.post.new.passes.number)
entered g c =
    let fleet = c.in-Ok.crew.manned.fleet in
    let sees = c.in_default-post.ensures.sees in
    subst (λ n. SeesAt fleet.setup n (shard_of fleet.setup c.args.begin.0) (fronts c.in-Ok.crew.manned.outside.shards.items) (fronts c.post.new.passes.shards.items) (Enters c.args.begin.0 c.args.begin.1 c.args.begin.2 n)) (sym c.in_default-post.ensures.same) (record {
      seen = record { point = sees.seen.point; others = sees.seen.others; does = sees.seen.does.0; legal = sees.seen.legal; rise = sees.seen.rise; above = sees.seen.above };
      others = sees.others;
    })

-- each seat that is closed has run, and its worker was fresh before, by words that say no more than
-- those of the app behind the gate
seat_ran_by : (g : _) (c : After-close_home-weave g) (y : _) → ((n : _) (w : WorkerState _ _) → NextTells (behind g.S.Trail (g.G.Gate.passes c.args.gate.now n) g.A.App) y c.args.app.now w) → take c.in-Ok.crew.manned.seats.len (c.work_all.new.seats ++ drop (length c.work_all.new.seats) c.in-Ok.crew.manned.seats.items) ≡ c.work_all.new.seats → (i : _) (seat : _) → slice_get (take c.in-Ok.crew.manned.seats.len (c.work_all.new.seats ++ drop (length c.work_all.new.seats) c.in-Ok.crew.manned.seats.items)) i ≡ Some seat
    → HasRun g.S.Trail g.S.Fits.fits_under y c.args.app.now c.in-Ok.crew.manned.fleet (λ seat. seat.passes) (λ seat. seat.worker) i seat
seat_ran_by g c y tells back i seat at =
    let there = ap (λ l. slice_get l i) (sym back) ∙ at in
    let made = c.work_all.ensures.made i seat there in
    let was = ap (λ l. slice_get l i) (sym c.deref_mut.ensures.value) ∙ made.1 in
    record {
      before = made.0.passes;
      worker = made.0.worker;
      numbered = (c.in-Ok.ensures.manned.seats i made.0 was).numbered;
      number = (c.work_all.ensures.seats i seat there).numbered;
      fresh = c.in-Ok.ensures.manned.fresh i made.0 was;
      made = made_tells g.S.Trail g.S.Fits.fits_under (behind g.S.Trail (g.G.Gate.passes c.args.gate.now i) g.A.App) y c.args.app.now (tells i) c.in-Ok.crew.manned.fleet made.0.passes seat.passes made.0.worker seat.worker made.2;
    }

-- so it has by those of the app alone
seat_ran : (g : _) (c : After-close_home-weave g) → take c.in-Ok.crew.manned.seats.len (c.work_all.new.seats ++ drop (length c.work_all.new.seats) c.in-Ok.crew.manned.seats.items) ≡ c.work_all.new.seats → (i : _) (seat : _) → slice_get (take c.in-Ok.crew.manned.seats.len (c.work_all.new.seats ++ drop (length c.work_all.new.seats) c.in-Ok.crew.manned.seats.items)) i ≡ Some seat
    → HasRun g.S.Trail g.S.Fits.fits_under g.A.App c.args.app.now c.in-Ok.crew.manned.fleet (λ seat. seat.passes) (λ seat. seat.worker) i seat
seat_ran g c = seat_ran_by g c g.A.App (λ n w turn event rest state puts is left ran. ran.0)

-- what runs before the closing put and ran is accounted for by the weave that it gives
closed_accounted : (g : _) (c : After-close_home-weave g) → take c.in-Ok.crew.manned.seats.len (c.work_all.new.seats ++ drop (length c.work_all.new.seats) c.in-Ok.crew.manned.seats.items) ≡ c.work_all.new.seats → length (take c.in-Ok.crew.manned.seats.len (c.work_all.new.seats ++ drop (length c.work_all.new.seats) c.in-Ok.crew.manned.seats.items)) ≡ (shape_of c.args.setup.now).cores
    → IsAccounted g.S.Trail g.S.Fits.fits_under g.A.App c.args.app.now (c.args.begin ∷ []) c.close_home-weave.result
closed_accounted g c back many =
    let fleet = c.in-Ok.crew.manned.fleet in
    let weave = c.close_home-weave.result in
    let home = c.close_home-weave.ensures.home in
    let closed = home.closed in
    let one = c.push_reserved.ensures.items ∙ ap (λ l. l ++ c.post.new.passes ∷ []) c.in-Ok.ensures.outsiders.0 in
    let seats = take c.in-Ok.crew.manned.seats.len (c.work_all.new.seats ++ drop (length c.work_all.new.seats) c.in-Ok.crew.manned.seats.items) in
    let cores = ap (λ (k : Setup). (shape_of k).cores) (sym (closed.setup ∙ c.in-Ok.ensures.manned.of_setup)) in
    closed_account g.S.Trail g.S.Fits.fits_under g.A.App c.args.app.now fleet (λ seat. seat.passes) (λ seat. seat.worker) c.args.begin.0 c.args.begin.1 c.args.begin.2 seats weave (record {
      callers = _;
      count = fleet.passes;
      outside = c.post.new.passes;
      unseen = fronts c.in-Ok.crew.manned.outside.shards.items;
      well = closed.stands;
      of_setup = sym closed.setup;
      of_frame = sym (weave_framed g c);
      notes = closed.notes;
      closed = closed.histories;
      counted = c.in-Ok.ensures.manned.callers ∙ ap (λ n. n + 1) cores;
      are = ap (λ l. l ++ map (λ seat. seat.passes) seats) one;
      many = many ∙ cores;
      workers = home.workers;
      seats = seat_ran g c back;
      outside_number = c.in_default-post.ensures.same ∙ c.in-Ok.ensures.manned.numbered ∙ cores;
      nothing = c.in-Ok.ensures.manned.unseen;
      posted = entered g c;
    })

pub returns-clause-accounted : goal.returns-clause-accounted
returns-clause-accounted g c =
    let weave = c.close_home-weave.result in
    let at = goal.at.returns-clause-accounted g c in
    let well = c.close_home-weave.ensures.home.closed.stands in
    let settled = c.settle.ensures in
    account_drain g.S.Trail g.S.Fits.fits_under g.A.App c.args.app.now (c.args.begin ∷ []) c.settle.new.weave c.drain-drained.new.self c.drain-drained.result
    (some_stand g.S.Trail g.S.Fits.fits_under g.A.App c.args.app.now weave c.settle.new.weave settled well) c.drain-drained.ensures.drains
    (some_account g.S.Trail g.S.Fits.fits_under g.A.App c.args.app.now (c.args.begin ∷ []) weave c.settle.new.weave settled well
    (closed_accounted g at.After-close_home-weave (seats_are g at.After-push_reserved) (seat_count g at.After-push_reserved)))

-- what runs before the closing ran is told by the notes of the weave that it gives, by such words
closed_is_told_by : (g : _) (c : After-close_home-weave g) (y : _) → ((n : _) (w : WorkerState _ _) → NextTells (behind g.S.Trail (g.G.Gate.passes c.args.gate.now n) g.A.App) y c.args.app.now w) → take c.in-Ok.crew.manned.seats.len (c.work_all.new.seats ++ drop (length c.work_all.new.seats) c.in-Ok.crew.manned.seats.items) ≡ c.work_all.new.seats → length (take c.in-Ok.crew.manned.seats.len (c.work_all.new.seats ++ drop (length c.work_all.new.seats) c.in-Ok.crew.manned.seats.items)) ≡ (shape_of c.args.setup.now).cores
    → IsTold g.S.Trail g.S.Fits.fits_under y c.args.app.now (λ k. slice_get c.args.states.items k.0) (c.args.begin ∷ []) c.close_home-weave.result
closed_is_told_by g c y tells back many =
    let fleet = c.in-Ok.crew.manned.fleet in
    let weave = c.close_home-weave.result in
    let home = c.close_home-weave.ensures.home in
    let closed = home.closed in
    let one = c.push_reserved.ensures.items ∙ ap (λ l. l ++ c.post.new.passes ∷ []) c.in-Ok.ensures.outsiders.0 in
    let seats = take c.in-Ok.crew.manned.seats.len (c.work_all.new.seats ++ drop (length c.work_all.new.seats) c.in-Ok.crew.manned.seats.items) in
    let cores = ap (λ (k : Setup). (shape_of k).cores) (sym (closed.setup ∙ c.in-Ok.ensures.manned.of_setup)) in
    closed_told g.S.Trail g.S.Fits.fits_under y c.args.app.now fleet (λ seat. seat.passes) (λ seat. seat.worker) c.args.begin.0 c.args.begin.1 c.args.begin.2 (λ k. slice_get c.args.states.items k.0) seats weave (record {
      outside = c.post.new.passes;
      callers = _;
      unseen = fronts c.in-Ok.crew.manned.outside.shards.items;
      closed = closed;
      of_frame = sym (weave_framed g c);
      of_given = c.in-Ok.ensures.manned.given;
      counted = c.in-Ok.ensures.manned.callers ∙ ap (λ n. n + 1) cores;
      are = ap (λ l. l ++ map (λ seat. seat.passes) seats) one;
      many = many ∙ cores;
      workers = home.workers;
      seats = seat_ran_by g c y tells back;
      number = c.in_default-post.ensures.same ∙ c.in-Ok.ensures.manned.numbered ∙ cores;
      nothing = c.in-Ok.ensures.manned.unseen;
      posted = entered g c;
    })

pub returns-clause-told : goal.returns-clause-told
returns-clause-told g c =
    let weave = c.close_home-weave.result in
    let at = goal.at.returns-clause-told g c in
    let well = c.close_home-weave.ensures.home.closed.stands in
    let settled = c.settle.ensures in
    told_drain_of g.S.Trail g.S.Fits.fits_under g.A.App c.args.app.now (λ k. slice_get c.args.states.items k.0) (c.args.begin ∷ []) c.settle.new.weave c.drain-drained.new.self c.drain-drained.result
    (some_stand g.S.Trail g.S.Fits.fits_under g.A.App c.args.app.now weave c.settle.new.weave settled well) c.drain-drained.ensures.drains
    (some_told g.S.Trail g.S.Fits.fits_under g.A.App c.args.app.now (λ k. slice_get c.args.states.items k.0) (c.args.begin ∷ []) weave c.settle.new.weave settled well
    (closed_is_told_by g at.After-close_home-weave g.A.App (λ n w turn event rest state puts is left ran. ran.0) (seats_are g at.After-push_reserved) (seat_count g at.After-push_reserved)))

pub returns-clause-gated : goal.returns-clause-gated
returns-clause-gated g c =
    let at = goal.at.returns-clause-gated g c in
    record {
      closed = c.close_home-weave.result;
      told = closed_is_told_by g at.After-close_home-weave (behind g.S.Trail (SomeHasPassed (g.G.Gate.passes c.args.gate.now)) g.A.App) (λ n w turn event rest state puts is left ran. (ran.0, (n, ran.1))) (seats_are g at.After-push_reserved) (seat_count g at.After-push_reserved);
      settled = c.settle.new.weave;
      settles = c.settle.ensures;
      drains = c.drain-drained.ensures.drains;
    }
