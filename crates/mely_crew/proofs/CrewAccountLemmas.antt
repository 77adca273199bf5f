-- What all workers of a fleet put and ran on threads, against the histories of the weave that the
-- fleet is closed into.
use Rattle.std.proofs.Common.{◌≡◌, ℕ, zero, suc, ◌+◌, ◌≤◌, List, [], ◌∷◌, ◌++◌, Option, Some, length, map, refl, sym, ◌∙◌, ap, subst, arith, append-nil}
use Rattle.std.proofs.lemmas.List.Sums.{sum_by-append, sum_by-cons}
use Rattle.std.proofs.lemmas.Option.{slice_get_within, slice_get-map}
use Rattle.std.specs.List.{AllByRecursion}
use Rattle.std.specs.Prelude.{sum_by, slice_get, option_map}
use Rattle.mely_event.specs.declared.colour.Colour.{Colour}
use Rattle.mely_event.specs.declared.event.Event.{Event}
use Rattle.mely_event.specs.declared.trail.Trail.{Ghosts as TrailWords}
use Rattle.mely_history.specs.declared.entry.Entry.{Entry}
use Rattle.mely_history.specs.declared.entry.Entry.TheVariants as entries
use Rattle.mely_note.specs.declared.note.Note.{Note}
use Rattle.mely_note.specs.declared.note.Note.TheVariants.{Reg}
use Rattle.mely_note.specs.Notes.{entries_of}
use Rattle.mely_note.proofs.NoteLemmas.{no_entries_by}
use Rattle.mely_note.specs.Notes.{snapshot_of}
use Rattle.mely_fleet.proofs.FrontLemmas.{others_of_entries}
use Rattle.mely_history.specs.declared.setup.Setup.{Setup}
use Rattle.mely_history.specs.Entries.{pass_of, entries_by}
use Rattle.mely_history.specs.Legal.{IsLegal}
use Rattle.mely_history.specs.Setup.{shape_of}
use Rattle.mely_lock.specs.Seen.{OthersSince}
use Rattle.mely_shard.specs.Shard.{ShardState}
use Rattle.mely_worker.specs.declared.app.App.{Ghosts as AppWords}
use Rattle.mely_worker.specs.IdleWorker.{IdleWorkerState, resumed_worker}
use Rattle.mely_worker.specs.Worker.{WorkerState}
use Rattle.mely_weave.specs.Side.{history_in, shard_of}
use Rattle.mely_weave.specs.StandsWell.{StandsWell}
use Rattle.mely_weave.specs.Weave.{WeaveState}
use Rattle.mely_weave.proofs.Wholes.GatherLemmas.{get_there}
use Rattle.mely_tally.specs.Account.{HandlerRun, IsRunOf, IsAccounted, count_put, count_puts, count_run, count_due, count_left, sum_along}
use Rattle.mely_tally.proofs.HistoryCountsLemmas.{share_put, share_take, put_along, take_along}
use Rattle.mely_tally.proofs.WeaveAccountLemmas.{all-append}
use Rattle.mely_fleet.specs.declared.fleet.FleetOf.{FleetOf}
use Rattle.mely_fleet.specs.declared.passes.PassesOf.{PassesOf}
use Rattle.mely_kept.specs.declared.kept_shard.ShardFrame.{ShardFrame}
use Rattle.mely_kept.specs.Calls.{Notes}
use Rattle.mely_fleet.specs.Calls.{SeesAt, front_in}
use Rattle.mely_fleet.specs.Closed.{IsClosedShard}
use Rattle.mely_fleet.specs.Fleets.{frame_in}
use Rattle.mely_kept.specs.Frames.{shard_frame}
use Rattle.mely_kept.specs.KeptShard.{KeptShardState}
use Rattle.mely_fleet.specs.Rows.{fronts}
use Rattle.mely_fleet.specs.Seats.{IsFresh, HasMade}
use Rattle.mely_fleet.specs.Work.{standpoint}
use Rattle.mely_crew.proofs.OwnLemmas.{own, own_in, sees_more, others_same, sum_from, all_own}
use Rattle.mely_fleet.proofs.SeatLemmas.{joined_at}
use Rattle.mely_crew.proofs.WorkerAccountLemmas.{steps_account, elsewhere}

-- the last of so many numbers
from_last : (of : List Entry → Entry → ℕ) (from many : ℕ) (f : ℕ → ℕ) → sum_from of from (suc many) f ≡ sum_from of from many f + f (from + many)
from_last of from zero f = let low : from + 0 ≡ from = omega arith in let same : f (from + 0) ≡ f from = ap f low in omega (arith, same)
from_last of from (suc many) f =
    let rest = from_last of (suc from) many f in
    let low : from + suc many ≡ suc from + many = omega arith in
    let same : f (from + suc many) ≡ f (suc from + many) = ap f low in
    omega (arith, rest, same)

module _ {R S P F : Type 0} (t : TrailWords S F) (fits : F → Colour → Event → Option P → Type 0) (y : AppWords R P S F) (app : R) (setup : Setup) (frame : F) (histories : ℕ → List Entry) where
  -- what a pass registered and took, by the histories, is what runs of its worker put and were run
  -- on, but for what the worker has left
  record PassTotal (n : ℕ) (w : WorkerState S P) : Type 0 where
    pub runs : List (HandlerRun S P)
    pub each : AllByRecursion (IsRunOf t fits y app setup frame) runs
    pub put : (c : Colour) (number : Event → ℕ) → sum_along (own n (λ _ entry. share_put c number entry)) [] (histories (shard_of setup c)) + count_due c number w ≡ sum_by (λ run. count_puts c number run.puts) runs
    pub ran : (c : Colour) (number : List Event → Event → ℕ) → sum_by (count_run t c number) runs + count_left t c number w.phase ≡ sum_along (own n (share_take c number)) [] (histories (shard_of setup c))

  -- so of many passes
  record PassesTotal (from : ℕ) (ws : List (WorkerState S P)) : Type 0 where
    pub runs : List (HandlerRun S P)
    pub each : AllByRecursion (IsRunOf t fits y app setup frame) runs
    pub put : (c : Colour) (number : Event → ℕ) → sum_from (λ _ entry. share_put c number entry) from (length ws) (λ n. sum_along (own n (λ _ entry. share_put c number entry)) [] (histories (shard_of setup c))) + sum_by (λ w. count_due c number w) ws ≡ sum_by (λ run. count_puts c number run.puts) runs
    pub ran : (c : Colour) (number : List Event → Event → ℕ) → sum_by (count_run t c number) runs + sum_by (λ w. count_left t c number w.phase) ws ≡ sum_from (share_take c number) from (length ws) (λ n. sum_along (own n (share_take c number)) [] (histories (shard_of setup c)))

  passes_total : (from : ℕ) (ws : List (WorkerState S P)) → ((i : ℕ) (w : WorkerState S P) → slice_get ws i ≡ Some w → PassTotal (from + i) w) → PassesTotal from ws
  passes_total from [] each = record { runs = []; each = tt; put = λ c number. refl; ran = λ c number. refl }
  passes_total from (w ∷ ws) each =
      let zero_on : from + 0 ≡ from = omega arith in
      let on : (i : ℕ) → from + suc i ≡ suc from + i = λ i. omega arith in
      let first = subst (λ n. PassTotal n w) zero_on (each 0 w refl) in
      let rest = passes_total (suc from) ws (λ i v at. subst (λ n. PassTotal n v) (on i) (each (suc i) v at)) in
      record {
        runs = first.runs ++ rest.runs;
        each = all-append (IsRunOf t fits y app setup frame) first.runs rest.runs first.each rest.each;
        put = λ c number.
            let one = first.put c number in
            let more = rest.put c number in
            let both = sum_by-append (λ (run : HandlerRun S P). count_puts c number run.puts) first.runs rest.runs in
            let due = sum_by-cons (λ (x : WorkerState S P). count_due c number x) w ws in
            omega (arith, one, more, both, due);
        ran = λ c number.
            let one = first.ran c number in
            let more = rest.ran c number in
            let both = sum_by-append (count_run t c number) first.runs rest.runs in
            let left = sum_by-cons (λ (x : WorkerState S P). count_left t c number x.phase) w ws in
            omega (arith, one, more, both, left);
      }

map_twice : {A B C : Type 0} (f : A → B) (h : B → C) (xs : List A) → map h (map f xs) ≡ map (λ x. h (f x)) xs
map_twice f h [] = refl
map_twice f h (x ∷ xs) = ap (λ l. h (f x) ∷ l) (map_twice f h xs)

-- a registration enters a history
abbrev pub Enters : {S P : Type 0} → Colour → Event → Option P → ℕ → List (Note S P) → List (Note S P) → Type 0
Enters colour event load n point after = Notes (Reg colour event (snapshot_of load) n) point after

-- of what was never seen nothing is counted
unseen_none : {S P : Type 0} (of : List Entry → Entry → ℕ) (n k : ℕ) (seen : List (List (Note S P))) → front_in seen k ≡ [] → own_in of n seen k ≡ 0
unseen_none of n k seen none = ap (λ h. sum_along (own n of) [] (entries_of h)) none

module _ {R S P F : Type 0} (t : TrailWords S F) (fits : F → Colour → Event → Option P → Type 0) (y : AppWords R P S F) (app : R) (fleet : FleetOf (KeptShardState S P) (Note S P) (ShardFrame S F)) (setup : Setup) (frame : F) (histories : ℕ → List Entry)
    (of_setup : fleet.setup ≡ setup) (of_frame : frame_in (shard_frame t.frame_of) fleet ≡ frame) where
  -- the pass of a seat, whose worker was fresh
  seat_total : {g : _} (n : ℕ) (before after : PassesOf (KeptShardState S P) (Note S P) (ShardFrame S F) g) (worker again : Option (IdleWorkerState P)) (w : WorkerState S P) → before.number ≡ n → IsFresh before worker → (made : HasMade t fits y app fleet before worker after again) → w ≡ resumed_worker made.again
      → ((c : Colour) → OthersSince pass_of n (entries_of (front_in (fronts after.shards.items) (shard_of setup c))) (histories (shard_of setup c))) → PassTotal t fits y app setup frame histories n w
  seat_total n before after worker again w numbered fresh made is seen =
      let all = steps_account t fits y app setup n frame made.makes.0 (standpoint (shard_frame t.frame_of) fleet before) (standpoint (shard_frame t.frame_of) fleet after) (resumed_worker made.rest) (resumed_worker made.again) of_setup numbered of_frame made.makes.1 in
      let one : Some made.rest ≡ Some fresh.rest = sym made.rested ∙ fresh.rested in
      let same : made.rest ≡ fresh.rest = cc in
      let none_lost : made.rest.lost ≡ [] = ap (λ (r : IdleWorkerState P). r.lost) same ∙ fresh.none_lost in
      record {
        runs = all.0;
        each = all.1.each;
        put = λ c number.
            let account = all.1.put c number in
            let first = unseen_none (λ _ entry. share_put c number entry) n (shard_of setup c) (fronts before.shards.items) (fresh.unseen (shard_of setup c)) in
            let lost = ap (λ l. count_puts c number l) none_lost in
            let history = others_same (λ _ entry. share_put c number entry) n (entries_of (front_in (fronts after.shards.items) (shard_of setup c))) (histories (shard_of setup c)) (seen c) in
            let due = ap (λ (x : WorkerState S P). count_due c number x) is in
            omega (arith, account, first, lost, history, due);
        ran = λ c number.
            let account = all.1.ran c number in
            let first = unseen_none (share_take c number) n (shard_of setup c) (fronts before.shards.items) (fresh.unseen (shard_of setup c)) in
            let history = others_same (share_take c number) n (entries_of (front_in (fronts after.shards.items) (shard_of setup c))) (histories (shard_of setup c)) (seen c) in
            let left = ap (λ (x : WorkerState S P). count_left t c number x.phase) is in
            omega (arith, account, first, history, left);
      }

  -- the pass of the caller that posted the first event and did nothing else
  module _ (n : ℕ) (colour : Colour) (event : Event) (load : Option P) (before after : List (List (Note S P))) (unseen : (k : ℕ) → front_in before k ≡ []) (sees : SeesAt fleet.setup n (shard_of fleet.setup colour) before after (Enters colour event load n))
      (seen : (c : Colour) → OthersSince pass_of n (entries_of (front_in after (shard_of setup c))) (histories (shard_of setup c))) where
    abbrev pub own_total : (List Entry → Entry → ℕ) → ℕ → ℕ
    own_total of k = sum_along (own n of) [] (histories k)

    posted_one : (of : List Entry → Entry → ℕ) (k more : ℕ) → OthersSince pass_of n (entries_of (front_in after k)) (histories k) → of (entries_of sees.seen.point) (entries.Reg colour event n) ≡ more → ((k ≡ shard_of fleet.setup colour → ⊥) → more ≡ 0) → own_total of k ≡ more
    posted_one of k more since counts elsewhere =
        let grows = sees_more of fleet.setup n (shard_of fleet.setup colour) before after sees (Reg colour event (snapshot_of load) n sees.seen.does.0) refl sees.seen.does.1 k more counts elsewhere in
        let none = unseen_none of n k before (unseen k) in
        let history = others_same of n (entries_of (front_in after k)) (histories k) since in
        omega (arith, grows, none, history)

    pub posted_put : (c : Colour) (number : Event → ℕ) → own_total (λ _ entry. share_put c number entry) (shard_of setup c) ≡ count_put c number (colour, event, load)
    posted_put c number = posted_one (λ _ entry. share_put c number entry) (shard_of setup c) (count_put c number (colour, event, load)) (seen c) refl
        (λ apart. elsewhere setup c colour (number event) (λ e. apart (e ∙ ap (λ (s : Setup). shard_of s colour) (sym of_setup))))

    pub posted_taken : (c : Colour) (number : List Event → Event → ℕ) → own_total (share_take c number) (shard_of setup c) ≡ 0
    posted_taken c number = posted_one (share_take c number) (shard_of setup c) 0 (seen c) refl (λ _. refl)

module _ {R S P F X : Type 0} {g : _} (t : TrailWords S F) (fits : F → Colour → Event → Option P → Type 0) (y : AppWords R P S F) (app : R) (fleet : FleetOf (KeptShardState S P) (Note S P) (ShardFrame S F)) (passes_of : X → PassesOf (KeptShardState S P) (Note S P) (ShardFrame S F) g) (worker_of : X → Option (IdleWorkerState P)) where
  -- a seat whose worker was fresh before it made its steps
  pub record HasRun (n : ℕ) (seat : X) : Type 0 where
    pub before : PassesOf (KeptShardState S P) (Note S P) (ShardFrame S F) g
    pub worker : Option (IdleWorkerState P)
    pub numbered : before.number ≡ n
    pub number : (passes_of seat).number ≡ n
    pub fresh : IsFresh before worker
    pub made : HasMade t fits y app fleet before worker (passes_of seat) (worker_of seat)

  -- a fleet that is closed into a weave after each seat has run, and one other caller has posted
  pub record HasRunAll (colour : Colour) (event : Event) (load : Option P) (home : List X) (weave : WeaveState S P) : Type 0 where
    pub callers : List (PassesOf (KeptShardState S P) (Note S P) (ShardFrame S F) g)
    pub count : ℕ
    pub outside : PassesOf (KeptShardState S P) (Note S P) (ShardFrame S F) g
    pub unseen : List (List (Note S P))
    pub well : StandsWell t fits weave
    pub of_setup : fleet.setup ≡ weave.setup
    pub of_frame : frame_in (shard_frame t.frame_of) fleet ≡ t.frame_of weave.given
    pub notes : ℕ → List (Note S P)
    pub closed : (k : ℕ) (has : ShardState S P) → slice_get weave.shards k ≡ Some has → IsClosedShard count k callers has (notes k)
    pub counted : count ≡ (shape_of weave.setup).cores + 1
    pub are : callers ≡ outside ∷ map passes_of home
    pub many : length home ≡ (shape_of weave.setup).cores
    pub workers : map (λ w. Some w) weave.workers ≡ map (option_map (λ r. resumed_worker r)) (map worker_of home)
    pub seats : (i : ℕ) (seat : X) → slice_get home i ≡ Some seat → HasRun i seat
    pub outside_number : outside.number ≡ (shape_of weave.setup).cores
    pub nothing : (k : ℕ) → front_in unseen k ≡ []
    pub posted : SeesAt fleet.setup outside.number (shard_of fleet.setup colour) unseen (fronts outside.shards.items) (Enters colour event load outside.number)

  module _ (colour : Colour) (event : Event) (load : Option P) (home : List X) (weave : WeaveState S P) (all : HasRunAll colour event load home weave) where
    abbrev setup : Setup
    setup = weave.setup

    abbrev cores : ℕ
    cores = (shape_of weave.setup).cores

    abbrev histories : ℕ → List Entry
    histories k = history_in (slice_get weave.shards k)

    shard_there : (c : Colour) → (has : ShardState S P) × (slice_get weave.shards (shard_of setup c) ≡ Some has)
    shard_there c = (let some : 1 ≤ (shape_of setup).shards = setup.shards_in.0 in let many = all.well.shards in get_there weave.shards (shard_of setup c) (omega (arith, some, many)))

    history_is : (c : Colour) → histories (shard_of setup c) ≡ (shard_there c).0.history
    history_is c = ap history_in (shard_there c).1

    -- its entries are those of its notes
    noted : (c : Colour) → histories (shard_of setup c) ≡ entries_of (all.notes (shard_of setup c))
    noted c = let has = shard_there c in history_is c ∙ (all.closed (shard_of setup c) has.0 has.1).shows.entries

    legal : (c : Colour) → IsLegal setup (histories (shard_of setup c))
    legal c =
        let has = shard_there c in
        let stands = all.well.shard (shard_of setup c) has.0 has.1 in
        subst (IsLegal setup) (sym (history_is c)) (subst (λ (s : Setup). IsLegal s has.0.history) stands.of_setup stands.kept.legal)

    -- what each caller had seen
    seen_by : (n : ℕ) (caller : PassesOf (KeptShardState S P) (Note S P) (ShardFrame S F) g) → slice_get all.callers n ≡ Some caller → (c : Colour) → OthersSince pass_of caller.number (entries_of (front_in (fronts caller.shards.items) (shard_of setup c))) (histories (shard_of setup c))
    seen_by n caller at c =
        let has = shard_there c in
        let front = front_in (fronts caller.shards.items) (shard_of setup c) in
        subst (λ h. OthersSince pass_of caller.number (entries_of front) h) (sym (noted c)) (others_of_entries caller.number front (all.notes (shard_of setup c)) ((all.closed (shard_of setup c) has.0 has.1).over.seen n caller at))

    strangers : (c : Colour) (m : ℕ) → suc cores ≤ m → entries_by m (histories (shard_of setup c)) ≡ []
    strangers c m high =
        let has = shard_there c in
        let count = all.counted in
        ap (entries_by m) (noted c) ∙ no_entries_by m (all.notes (shard_of setup c)) ((all.closed (shard_of setup c) has.0 has.1).over.strangers m (omega (arith, high, count)))

    worker_total : (i : ℕ) (w : WorkerState S P) → slice_get weave.workers i ≡ Some w → PassTotal t fits y app setup (t.frame_of weave.given) histories (0 + i) w
    worker_total i w at =
        let within = slice_get_within weave.workers i w at in
        let workers = all.well.workers in
        let many = all.many in
        let seat = get_there home i (omega (arith, within, workers, many)) in
        let ran = all.seats i seat.0 seat.1 in
        let its : Some w ≡ option_map (λ r. resumed_worker r) (worker_of seat.0) = joined_at (λ (x : WorkerState S P). Some x) (λ (x : X). option_map (λ r. resumed_worker r) (worker_of x)) weave.workers [] home (append-nil (map (λ (x : WorkerState S P). Some x) weave.workers) ∙ all.workers ∙ map_twice worker_of (option_map (λ r. resumed_worker r)) home) i w seat.0 at seat.1 in
        let both : Some w ≡ Some (resumed_worker ran.made.again) = its ∙ ap (option_map (λ r. resumed_worker r)) ran.made.rests in
        let is : w ≡ resumed_worker ran.made.again = cc in
        let caller : slice_get all.callers (suc i) ≡ Some (passes_of seat.0) = ap (λ l. slice_get l (suc i)) all.are ∙ slice_get-map passes_of home i ∙ ap (option_map passes_of) seat.1 in
        let seen : (c : Colour) → OthersSince pass_of i (entries_of (front_in (fronts (passes_of seat.0).shards.items) (shard_of setup c))) (histories (shard_of setup c)) = λ c. subst (λ n. OthersSince pass_of n (entries_of (front_in (fronts (passes_of seat.0).shards.items) (shard_of setup c))) (histories (shard_of setup c))) ran.number (seen_by (suc i) (passes_of seat.0) caller c) in
        let low : i ≡ 0 + i = omega arith in
        subst (λ n. PassTotal t fits y app setup (t.frame_of weave.given) histories n w) low
        (seat_total t fits y app fleet setup (t.frame_of weave.given) histories all.of_setup all.of_frame i ran.before (passes_of seat.0) ran.worker (worker_of seat.0) w ran.numbered ran.fresh ran.made is seen)

    total : PassesTotal t fits y app setup (t.frame_of weave.given) histories 0 weave.workers
    total = passes_total t fits y app setup (t.frame_of weave.given) histories 0 weave.workers worker_total

    outside_seen : (c : Colour) → OthersSince pass_of all.outside.number (entries_of (front_in (fronts all.outside.shards.items) (shard_of setup c))) (histories (shard_of setup c))
    outside_seen c = seen_by 0 all.outside (ap (λ l. slice_get l 0) all.are) c

    -- the passes of the cores and the other caller's are all
    split : (of : List Entry → Entry → ℕ) (c : Colour) → sum_from of 0 (length weave.workers) (λ n. sum_along (own n of) [] (histories (shard_of setup c))) + sum_along (own all.outside.number of) [] (histories (shard_of setup c)) ≡ sum_along of [] (histories (shard_of setup c))
    split of c =
        let each : ℕ → ℕ = λ n. sum_along (own n of) [] (histories (shard_of setup c)) in
        let whole = all_own of (suc cores) [] (histories (shard_of setup c)) (strangers c) in
        let last = from_last of 0 cores each in
        let low : 0 + cores ≡ cores = omega arith in
        let here : each (0 + cores) ≡ each all.outside.number = ap each (low ∙ sym all.outside_number) in
        let many = ap (λ n. sum_from of 0 n each) all.well.workers in
        omega (arith, whole, last, here, many)

    pub closed_account : IsAccounted t fits y app ((colour, event, load) ∷ []) weave
    closed_account = (
      total.runs,
      record {
        each = total.each;
        put = λ c number.
            let made = total.put c number in
            let apart = split (λ _ entry. share_put c number entry) c in
            let outside = posted_put t fits y app fleet setup (t.frame_of weave.given) histories all.of_setup all.of_frame all.outside.number colour event load all.unseen (fronts all.outside.shards.items) all.nothing all.posted outside_seen c number in
            let history = put_along c number (histories (shard_of setup c)) in
            let first = sum_by-cons (count_put c number) (colour, event, load) [] in
            omega (arith, made, apart, outside, history, first);
        ran = λ c number.
            let made = total.ran c number in
            let apart = split (share_take c number) c in
            let outside = posted_taken t fits y app fleet setup (t.frame_of weave.given) histories all.of_setup all.of_frame all.outside.number colour event load all.unseen (fronts all.outside.shards.items) all.nothing all.posted outside_seen c number in
            let history = take_along setup c number (histories (shard_of setup c)) (legal c) in
            omega (arith, made, apart, outside, history);
      },
    )
