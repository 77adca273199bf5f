-- What a seat needs for its work, and what it has afterwards.
use Rattle.std.proofs.Common.{◌≡◌, ℕ, ◌<◌, List, [], ◌∷◌, Option, None, Some, slice_get, refl, sym, ◌∙◌, ap, subst}
use Rattle.std.specs.Prelude.{IsTrue, option_map}
use Rattle.std.proofs.Common.{◌++◌, map, get_or, arith}
use Rattle.std.proofs.Math.ListN.{get_or-append}
use Rattle.std.proofs.lemmas.List.{length-map}
use Rattle.std.proofs.lemmas.Option.{slice_get_within, slice_get-map, get_or_from_slice_get}
use Rattle.std.specs.List.{AllByRecursion}
use Rattle.mely_note.specs.declared.note.Note.{Note}
use Rattle.mely_event.specs.declared.colour.Colour.{Colour}
use Rattle.mely_event.specs.declared.event.Event.{Event}
use Rattle.mely_event.specs.declared.trail.Trail.{Ghosts as TrailWords}
use Rattle.mely_history.specs.declared.setup.Setup.{Setup}
use Rattle.mely_note.specs.Notes.{entries_of}
use Rattle.mely_history.specs.declared.entry.Entry.TheVariants.{Take}
use Rattle.mely_history.specs.Owing.{last_change}
use Rattle.mely_history.specs.Setup.{shape_of}
use Rattle.mely_steal.specs.Victims.{victims_of}
use Rattle.mely_worker.specs.Access.{IsCore}
use Rattle.mely_worker.specs.Phase.{is_free}
use Rattle.mely_worker.specs.IdleWorker.{IdleWorkerState, resumed_worker}
use Rattle.mely_worker.specs.Worker.{WorkerState}
use Rattle.mely_weave.specs.Gathering.{MayGatherWorker}
use Rattle.mely_weave.specs.Hands.{colour_run_by}
use Rattle.mely_weave.specs.Making.{initial_idle_worker}
use Rattle.mely_weave.specs.Side.{shard_of}
use Rattle.mely_weave.proofs.Marks.VictimLemmas.{IsOther, victims_are_others, all_at, all_append}
use Rattle.mely_weave.proofs.Wholes.GatherLemmas.{get_there}
use Rattle.std.proofs.lemmas.List.{append-nil}
use Rattle.std.proofs.Common.{length}
use Rattle.mely_fleet.proofs.OpeningLemmas.{all_from_places}
use Rattle.mely_fleet.proofs.GatherClosedLemmas.{from_map}
use Rattle.mely_fleet.specs.declared.fleet.FleetOf.{FleetOf}
use Rattle.mely_fleet.specs.declared.passes.PassesOf.{PassesOf}
use Rattle.mely_kept.specs.declared.kept_shard.ShardFrame.{ShardFrame}
use Rattle.mely_kept.specs.Frames.{shard_frame}
use Rattle.mely_kept.specs.KeptShard.{KeptShardState}
use Rattle.mely_fleet.specs.Fleets.{frame_in}
use Rattle.mely_fleet.specs.Opening.{AreInitialPasses}
use Rattle.mely_fleet.specs.Work.{HasFinishedBut, standpoint}
use Rattle.mely_fleet.specs.Working.{MayWorkOn, HasWorked}
use Rattle.mely_fleet.specs.Seats.{MaySit, IsSeatOf}
use Rattle.mely_fleet.proofs.WorkLemmas.{free_runs}

victims_are_cores : (setup : Setup) (core : ℕ) (victims : List ℕ) → AllByRecursion (IsOther core (shape_of setup).cores) victims → AllByRecursion (IsCore setup) victims
victims_are_cores setup core [] all = tt
victims_are_cores setup core (victim ∷ victims) all = (all.0.1, victims_are_cores setup core victims all.1)

module _ {S P F : Type 0} {g : _} (t : TrailWords S F) (fits : F → Colour → Event → Option P → Type 0) (fleet : FleetOf (KeptShardState S P) (Note S P) (ShardFrame S F)) where
  -- its worker may work with its passes
  pub seat_may : (own : PassesOf (KeptShardState S P) (Note S P) (ShardFrame S F) g) (worker : Option (IdleWorkerState P)) (rested : IdleWorkerState P) (w : WorkerState S P) → MaySit t.frame_of fits fleet own worker → worker ≡ Some rested → w ≡ resumed_worker rested → MayWorkOn t fits fleet own w
  seat_may own worker rested w sits taken is =
      let both : Some sits.rest ≡ Some rested = sym sits.rested ∙ taken in
      let same : sits.rest ≡ rested = cc in
      let may = subst (λ (r : IdleWorkerState P). MayGatherWorker {S = S} fits fleet.setup (frame_in (shard_frame t.frame_of) fleet) own.number (resumed_worker r)) same sits.may in
      subst (λ (v : WorkerState S P). MayWorkOn t fits fleet own v) (sym is) (record {
        passes = sits.passes;
        may = record {
          own_core = sym may.own_core;
          core = subst (λ k. k < (shape_of fleet.setup).cores) (sym may.own_core) sits.core;
          batch = may.batch;
          victims = subst (AllByRecursion (IsCore fleet.setup)) (sym may.victims) (victims_are_cores fleet.setup own.number _ (victims_are_others own.number (shape_of fleet.setup).cores (shape_of fleet.setup).group sits.core));
          phase = tt;
          lost = may.lost;
        };
      })

  -- it may sit again after its work
  pub seat_back : (own back : PassesOf (KeptShardState S P) (Note S P) (ShardFrame S F) g) (worker : Option (IdleWorkerState P)) (rested rest : IdleWorkerState P) (w v : WorkerState S P) → MaySit t.frame_of fits fleet own worker → worker ≡ Some rested → w ≡ resumed_worker rested
      → HasWorked t fits fleet own w back v → IsTrue (is_free v.phase) → resumed_worker rest ≡ v → MaySit t.frame_of fits fleet back (Some rest)
  seat_back own back worker rested rest w v sits taken is worked free rests =
      let number = worked.number in
      let may = worked.still.may in
      let both : Some sits.rest ≡ Some rested = sym sits.rested ∙ taken in
      let one : sits.rest ≡ rested = cc in
      let before : w ≡ resumed_worker sits.rest = is ∙ ap (λ (r : IdleWorkerState P). resumed_worker r) (sym one) in
      let ran : colour_run_by w ≡ None = ap (λ (x : WorkerState S P). colour_run_by x) before in
      let runs : colour_run_by v ≡ None = free_runs v.phase free in
      record {
        passes = worked.still.passes;
        core = subst (λ k. k < (shape_of fleet.setup).cores) (sym number) sits.core;
        finished = subst (HasFinishedBut (standpoint (shard_frame t.frame_of) fleet back)) runs (worked.works.finished (subst (HasFinishedBut (standpoint (shard_frame t.frame_of) fleet own)) (sym ran) sits.finished));
        rest = rest;
        rested = refl;
        may = subst (λ (x : WorkerState S P). MayGatherWorker {S = S} fits fleet.setup (frame_in (shard_frame t.frame_of) fleet) back.number x) (sym rests) (record {
          own_core = sym may.own_core;
          batch = may.batch;
          victims = worked.worker.victims ∙ ap (λ (x : WorkerState S P). x.victims) before ∙ sits.may.victims ∙ ap (λ k. victims_of k (shape_of fleet.setup).cores (shape_of fleet.setup).group) (sym number);
          free = free;
          lost = may.lost;
        });
      }

  -- a seat at first
  pub first_seat : (n : ℕ) (own : PassesOf (KeptShardState S P) (Note S P) (ShardFrame S F) g) (worker : Option (IdleWorkerState P)) → n < (shape_of fleet.setup).cores → AreInitialPasses (shard_frame t.frame_of) fleet n own → worker ≡ Some (initial_idle_worker fleet.setup n) → IsSeatOf t.frame_of fits fleet n own worker
  first_seat n own worker low first is = record {
    sits = record {
      passes = first.are;
      core = subst (λ k. k < (shape_of fleet.setup).cores) (sym first.numbered) low;
      finished = λ c core count taken.
          let none : None ≡ Some (Take c core count) = ap (λ h. last_change own.number c (entries_of h)) (sym (first.unseen (shard_of fleet.setup c))) ∙ taken in
          cc;
      rest = initial_idle_worker fleet.setup n;
      rested = is;
      may = subst (λ k. MayGatherWorker {S = S} fits fleet.setup (frame_in (shard_frame t.frame_of) fleet) k (resumed_worker (initial_idle_worker fleet.setup n))) (sym first.numbered) (record { own_core = refl; batch = refl; victims = refl; free = refl; lost = tt });
    };
    numbered = first.numbered;
  }

-- what stands at one place of two lists, where one begins as the other does
pub joined_at : {A B C : Type 0} (f : A → C) (h : B → C) (xs : List A) (more : List C) (ys : List B) → map f xs ++ more ≡ map h ys → (n : ℕ) (x : A) (y : B) → slice_get xs n ≡ Some x → slice_get ys n ≡ Some y → f x ≡ h y
joined_at f h xs more ys same n x y at_x at_y =
    let within = slice_get_within xs n x at_x in
    let many = length-map xs f in
    sym (get_or_from_slice_get (map f xs) n (f x) (f x) (slice_get-map f xs n ∙ ap (option_map f) at_x))
    ∙ sym (get_or-append (map f xs) more (f x) n (omega (arith, within, many)))
    ∙ ap (λ l. get_or l n (f x)) same
    ∙ get_or_from_slice_get (map h ys) n (h y) (f x) (slice_get-map h ys n ∙ ap (option_map h) at_y)

-- what holds at each place of two lists holds at each place of one behind the other
pub each_append : {A : Type 0} (Has : A → Type 0) (xs ys : List A) → ((i : ℕ) (x : A) → slice_get xs i ≡ Some x → Has x) → ((i : ℕ) (x : A) → slice_get ys i ≡ Some x → Has x) → (i : ℕ) (x : A) → slice_get (xs ++ ys) i ≡ Some x → Has x
each_append Has xs ys first second i x is = all_at Has (xs ++ ys) i x (all_append Has xs ys (all_from_places Has xs first) (all_from_places Has ys second)) is

-- and of one that is mapped
pub each_mapped : {A B : Type 0} (Has : B → Type 0) (f : A → B) (xs : List A) → ((i : ℕ) (x : A) → slice_get xs i ≡ Some x → Has (f x)) → (i : ℕ) (y : B) → slice_get (map f xs) i ≡ Some y → Has y
each_mapped Has f xs each i y is = let from = from_map f xs i y is in subst Has from.2 (each i from.0 from.1)

module _ {S P F : Type 0} {g : _} (t : TrailWords S F) (fits : F → Colour → Event → Option P → Type 0) (fleet : FleetOf (KeptShardState S P) (Note S P) (ShardFrame S F)) {X : Type 0} (passes_of : X → PassesOf (KeptShardState S P) (Note S P) (ShardFrame S F) g) (worker_of : X → Option (IdleWorkerState P)) (seats : List X)
    (sit : (n : ℕ) (seat : X) → slice_get seats n ≡ Some seat → IsSeatOf t.frame_of fits fleet n (passes_of seat) (worker_of seat)) where
  -- a worker of the seats may be gathered
  pub seated_worker : (rested : List (IdleWorkerState P)) → map (λ rest. Some rest) rested ≡ map worker_of seats → (n : ℕ) (w : WorkerState S P) → slice_get (map (λ (rest : IdleWorkerState P). resumed_worker rest) rested) n ≡ Some w → MayGatherWorker {S = S} fits fleet.setup (frame_in (shard_frame t.frame_of) fleet) n w
  seated_worker rested same n w is =
      let from = from_map (λ (rest : IdleWorkerState P). resumed_worker rest) rested n w is in
      let within = slice_get_within rested n from.0 from.1 in
      let many : length rested ≡ length seats = sym (length-map rested (λ (rest : IdleWorkerState P). Some rest)) ∙ ap length same ∙ length-map seats worker_of in
      let seat = get_there seats n (omega (arith, within, many)) in
      let its : Some from.0 ≡ worker_of seat.0 = joined_at (λ (rest : IdleWorkerState P). Some rest) worker_of rested [] seats (append-nil (map (λ (rest : IdleWorkerState P). Some rest) rested) ∙ same) n from.0 seat.0 from.1 seat.1 in
      let sits = sit n seat.0 seat.1 in
      let both : Some sits.sits.rest ≡ Some from.0 = sym sits.sits.rested ∙ sym its in
      let one : sits.sits.rest ≡ from.0 = cc in
      subst (MayGatherWorker {S = S} fits fleet.setup (frame_in (shard_frame t.frame_of) fleet) n) from.2
      (subst (λ (r : IdleWorkerState P). MayGatherWorker {S = S} fits fleet.setup (frame_in (shard_frame t.frame_of) fleet) n (resumed_worker r)) one
      (subst (λ k. MayGatherWorker {S = S} fits fleet.setup (frame_in (shard_frame t.frame_of) fleet) k (resumed_worker sits.sits.rest)) sits.numbered sits.sits.may))

-- what is made of each rested worker, where each is there
pub some_mapped : {A B : Type 0} (f : A → B) (xs : List A) → map (λ x. Some x) (map f xs) ≡ map (option_map f) (map (λ x. Some x) xs)
some_mapped f [] = refl
some_mapped f (x ∷ xs) = ap (λ rest. Some (f x) ∷ rest) (some_mapped f xs)
