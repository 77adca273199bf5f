-- What the workers of a fleet ran on threads, as the notes tell of it that the fleet leaves when it is
-- closed.
use Rattle.std.proofs.Common.{◌≡◌, ℕ, zero, suc, ◌+◌, ◌<◌, List, [], ◌∷◌, ◌++◌, Option, None, Some, if◌then◌else◌, length, map, refl, sym, ◌∙◌, ap, subst, ⊎_elim, arith, append-nil}
use Rattle.std.proofs.lemmas.Bool.{cases_eq, ne_eqb}
use Rattle.std.proofs.lemmas.Option.{same_Some, slice_get_within, slice_get-map}
use Rattle.std.specs.List.{cons_option}
use Rattle.std.specs.Prelude.{slice_get, option_map}
use Rattle.mely_event.specs.declared.colour.Colour.{Colour}
use Rattle.mely_event.specs.declared.event.Event.{Event}
use Rattle.mely_event.specs.declared.trail.Trail.{Ghosts as TrailWords}
use Rattle.mely_history.specs.Legal.{IsLegal}
use Rattle.mely_history.specs.Setup.{shape_of, shard_of, place}
use Rattle.mely_history.specs.declared.setup.Setup.{Setup}
use Rattle.mely_lock.specs.Seen.{OthersSince}
use Rattle.mely_note.specs.declared.note.Note.{Note}
use Rattle.mely_note.specs.declared.note.Note.TheVariants.{Reg}
use Rattle.mely_note.specs.Notes.{Rise, entries_of, loaded_of, noted_by, notes_by, snapshot_of}
use Rattle.mely_note.proofs.StampLemmas.{rise-none}
use Rattle.mely_note.specs.ShowsNotes.{ShowsNotes}
use Rattle.mely_shard.specs.Shard.{ShardState, ColourState, givens, lane_at}
use Rattle.mely_tally.specs.Account.{HandlerRun}
use Rattle.mely_weave.specs.Weave.{WeaveState}
use Rattle.mely_weave.proofs.Wholes.GatherLemmas.{get_there}
use Rattle.mely_worker.specs.declared.app.App.{Ghosts as AppWords}
use Rattle.mely_worker.specs.IdleWorker.{IdleWorkerState, resumed_worker}
use Rattle.mely_worker.specs.Worker.{WorkerState}
use Rattle.mely_kept.specs.Frames.{shard_frame}
use Rattle.mely_kept.specs.KeptShard.{KeptShardState}
use Rattle.mely_kept.specs.declared.kept_shard.ShardFrame.{ShardFrame}
use Rattle.mely_chain.specs.Deeds.{CoreDid}
use Rattle.mely_chain.specs.Runs.{puts_on}
use Rattle.mely_chain.specs.Told.{CoreTold}
use Rattle.mely_chain.specs.WeaveTold.{ShardTold, IsTold}
use Rattle.mely_chain.proofs.CoreLemmas.{AreLegalNotes, told_first, told_others}
use Rattle.mely_chain.proofs.CoreTurnsLemmas.{legal_notes}
use Rattle.mely_chain.proofs.DeedLemmas.{did_first, did_others}
use Rattle.mely_chain.proofs.GrowthLemmas.{by_own, by_others}
use Rattle.mely_chain.proofs.WeaveToldLemmas.{shard_there, notes_legal}
use Rattle.mely_fleet.specs.declared.fleet.FleetOf.{FleetOf}
use Rattle.mely_fleet.specs.declared.passes.PassesOf.{PassesOf}
use Rattle.mely_fleet.specs.Calls.{SeesAt, front_in, front_for}
use Rattle.mely_fleet.specs.ClosesHome.{IsClosedInto}
use Rattle.mely_fleet.specs.Fleets.{frame_in, given_in, givens_in}
use Rattle.mely_fleet.specs.Rows.{fronts}
use Rattle.mely_fleet.specs.Seats.{IsFresh, HasMade}
use Rattle.mely_fleet.specs.Work.{Standpoint, standpoint}
use Rattle.mely_fleet.proofs.SeatLemmas.{joined_at}
use Rattle.mely_crew.proofs.CrewAccountLemmas.{Enters, HasRun}
use Rattle.mely_crew.proofs.ToldLemmas.{RunsTold, SeesLegal, runs_makes}

-- ---- lists

nothing_at : {A : Type 0} (i : ℕ) (x : A) → slice_get [] i ≡ Some x → ⊥
nothing_at zero x at = cc
nothing_at (suc i) x at = cc

-- a list of what there is for each element, place by place
choose : {A B : Type 0} (Has : ℕ → A → B → Type 0) (xs : List A) → ((i : ℕ) (x : A) → slice_get xs i ≡ Some x → (b : B) × Has i x b) → (bs : List B) × (length bs ≡ length xs) × ((i : ℕ) (x : A) (b : B) → slice_get xs i ≡ Some x → slice_get bs i ≡ Some b → Has i x b)
choose Has [] each = ([], refl, λ i x b at_x at_b. absurd (nothing_at i x at_x))
choose {A} {B} Has (x ∷ xs) each =
    let first = each 0 x refl in
    let rest = choose (λ i. Has (suc i)) xs (λ i z at. each (suc i) z at) in
    (first.0 ∷ rest.0, ap suc rest.1, all first rest) where
      all : (first : (b : B) × Has 0 x b) (rest : (bs : List B) × (length bs ≡ length xs) × ((i : ℕ) (z : A) (b : B) → slice_get xs i ≡ Some z → slice_get bs i ≡ Some b → Has (suc i) z b)) (i : ℕ) (z : A) (b : B) → slice_get (x ∷ xs) i ≡ Some z → slice_get (first.0 ∷ rest.0) i ≡ Some b → Has i z b
      all first rest zero z b at_z at_b = subst (λ u. Has 0 u b) (same_Some x z at_z) (subst (Has 0 x) (same_Some first.0 b at_b) first.1)
      all first rest (suc i) z b at_z at_b = rest.2 i z b at_z at_b

map_both : {A B C : Type 0} (f : A → B) (h : B → C) (xs : List A) → map h (map f xs) ≡ map (λ x. h (f x)) xs
map_both f h [] = refl
map_both f h (x ∷ xs) = ap (λ l. h (f x) ∷ l) (map_both f h xs)

-- a list, where there is what it is of
abbrev at_some : {A N : Type 0} → Option A → List N → List N
at_some None notes = []
at_some (Some has) notes = notes

no_notes : {A S P : Type 0} (n : ℕ) (there : Option A) (notes : List (Note S P)) → ((has : A) → there ≡ Some has → notes_by n notes ≡ []) → notes_by n (at_some there notes) ≡ []
no_notes n None notes none = refl
no_notes n (Some has) notes none = none has refl

rise_some : {A S P : Type 0} (there : Option A) (notes : List (Note S P)) → ((has : A) → there ≡ Some has → Rise notes) → Rise (at_some there notes)
rise_some None notes rise = rise-none
rise_some (Some has) notes rise = rise has refl

-- ---- the states that were given

module _ {R S P F : Type 0} (t : TrailWords S F) (fits : F → Colour → Event → Option P → Type 0) (y : AppWords R P S F) (app : R) where
  -- of the same given states the same is told
  told_given : (setup : Setup) (frame : F) (given known : Colour → Option S) (n : ℕ) (notes : Colour → List (Note S P)) (w : WorkerState S P) (runs : List (HandlerRun S P)) → ((c : Colour) → given c ≡ known c) → CoreTold t fits y app setup frame given n notes w runs → CoreTold t fits y app setup frame known n notes w runs
  told_given setup frame given known n notes w runs same told = record {
    each = told.each;
    turns = λ c first is. told.turns c first (same c ∙ is);
    out = λ c first is. told.out c first (same c ∙ is);
    puts = told.puts;
  }

-- ---- the caller that posted

module _ {S P : Type 0} (setup : Setup) (n : ℕ) (colour : Colour) (event : Event) (load : Option P) (before after : List (List (Note S P))) (unseen : (k : ℕ) → front_in before k ≡ []) (sees : SeesAt setup n (shard_of setup colour) before after (Enters colour event load n)) where
  abbrev posted : Note S P
  posted = Reg colour event (snapshot_of load) n sees.seen.does.0

  -- it had made no note before
  point_none : notes_by n sees.seen.point ≡ []
  point_none = ap (notes_by n) (sees.seen.others.1 ∙ ap (λ l. l ++ sees.seen.others.0) (unseen (shard_of setup colour))) ∙ sees.seen.others.2

  posted_here : notes_by n (front_in after (shard_of setup colour)) ≡ posted ∷ []
  posted_here = ap (notes_by n) sees.seen.does.1 ∙ by_own n sees.seen.point posted refl ∙ ap (λ l. l ++ posted ∷ []) point_none

  posted_elsewhere : (k : ℕ) → (k ≡ shard_of setup colour → ⊥) → front_in after k ≡ []
  posted_elsewhere k ne = sees.others k ne ∙ unseen k

  -- what it registered is the one post
  pub one_post : (notes : ℕ → List (Note S P)) → ((c : Colour) → OthersSince noted_by n (front_in after (shard_of setup c)) (notes (shard_of setup c))) → (c : Colour) → loaded_of (notes_by n (notes (shard_of setup c))) c ≡ puts_on c ((colour, event, load) ∷ [])
  one_post notes since c =
      let grew = since c in
      ap (λ l. loaded_of l c) (ap (notes_by n) grew.1 ∙ by_others n (front_in after (shard_of setup c)) grew.0 grew.2)
      ∙ ⊎_elim
      (λ (same : shard_of setup c ≡ shard_of setup colour). ap (λ l. loaded_of l c) (ap (λ k. notes_by n (front_in after k)) same ∙ posted_here))
      (λ (ne : shard_of setup c ≡ shard_of setup colour → ⊥).
      ap (λ l. loaded_of (notes_by n l) c) (posted_elsewhere (shard_of setup c) ne)
      ∙ ap (λ b. cons_option (if b then Some (event, load) else None) []) (sym (ne_eqb colour.0 c.0 (λ is. ne (ap (λ k. shard_of setup k) (sym (colours c is)))))))
      (cases_eq (shard_of setup c) (shard_of setup colour)) where
        colours : (c : Colour) → colour.0 ≡ c.0 → colour ≡ c
        colours c is = λ i. record { 0 = is i }

-- ---- a seat

module _ {S P F : Type 0} (t : TrailWords S F) (fleet : FleetOf (KeptShardState S P) (Note S P) (ShardFrame S F)) where
  -- the frame of the fleet, and the states that it was given
  abbrev frame_at : F
  frame_at = frame_in (shard_frame t.frame_of) fleet

  abbrev given_at : Colour → Option S
  given_at = given_in (shard_frame t.frame_of) fleet

module _ {R S P F : Type 0} {g : _} (t : TrailWords S F) (fits : F → Colour → Event → Option P → Type 0) (y : AppWords R P S F) (app : R) (fleet : FleetOf (KeptShardState S P) (Note S P) (ShardFrame S F)) where
  -- a seat whose worker was fresh: the notes tell runs that its worker made
  pub seat_told : (before after : PassesOf (KeptShardState S P) (Note S P) (ShardFrame S F) g) (worker again : Option (IdleWorkerState P)) → IsFresh before worker → (made : HasMade t fits y app fleet before worker after again) → (notes : ℕ → List (Note S P)) → AreLegalNotes fleet.setup (λ c. notes (shard_of fleet.setup c))
      → ((c : Colour) → OthersSince noted_by after.number (front_in (fronts after.shards.items) (shard_of fleet.setup c)) (notes (shard_of fleet.setup c)))
      → (runs : List (HandlerRun S P)) × CoreTold t fits y app fleet.setup (frame_at t fleet) (given_at t fleet) after.number (λ c. notes (shard_of fleet.setup c)) (resumed_worker made.again) runs
      × CoreDid fleet.setup after.number (λ c. notes (shard_of fleet.setup c)) (resumed_worker made.again) runs
  seat_told before after worker again fresh made notes legal since =
      let kept = shard_frame t.frame_of in
      let a : Standpoint S P F = standpoint kept fleet before in
      let b : Standpoint S P F = standpoint kept fleet after in
      let seen : SeesLegal t fits y app b = λ c. let grew = since c in legal_notes fleet.setup (front_in (fronts after.shards.items) (shard_of fleet.setup c)) grew.0 (subst (λ l. IsLegal fleet.setup (entries_of l)) grew.1 (legal c)) in
      let none : (c : Colour) → notes_by before.number (front_for fleet.setup (fronts before.shards.items) c) ≡ [] = λ c. ap (notes_by before.number) (fresh.unseen (shard_of fleet.setup c)) in
      let first : RunsTold t fits y app a (resumed_worker made.rest) [] = (
        told_first t fits y app fleet.setup (frame_at t fleet) (given_at t fleet) before.number (front_for fleet.setup (fronts before.shards.items)) (resumed_worker made.rest) refl none,
        did_first fleet.setup before.number (front_for fleet.setup (fronts before.shards.items)) (resumed_worker made.rest) refl none,
      ) in
      let all = runs_makes t fits y app made.makes.0 a b (resumed_worker made.rest) (resumed_worker made.again) [] made.makes.1 seen first in (
        all.0,
        told_others t fits y app fleet.setup (frame_at t fleet) (given_at t fleet) after.number (front_for fleet.setup (fronts after.shards.items)) (λ c. notes (shard_of fleet.setup c)) (resumed_worker made.again) all.0 since legal all.1.0,
        did_others fleet.setup after.number (front_for fleet.setup (fronts after.shards.items)) (λ c. notes (shard_of fleet.setup c)) (resumed_worker made.again) all.0 since all.1.1,
      )

-- ---- all seats

module _ {R S P F X : Type 0} {g : _} (t : TrailWords S F) (fits : F → Colour → Event → Option P → Type 0) (y : AppWords R P S F) (app : R) (fleet : FleetOf (KeptShardState S P) (Note S P) (ShardFrame S F)) (passes_of : X → PassesOf (KeptShardState S P) (Note S P) (ShardFrame S F) g) (worker_of : X → Option (IdleWorkerState P)) where
  -- a fleet of these states that is closed into a weave after each seat has worked, and one other
  -- caller has posted
  pub record HaveAllWorked (colour : Colour) (event : Event) (load : Option P) (given : Colour → Option S) (home : List X) (weave : WeaveState S P) : Type 0 where
    pub outside : PassesOf (KeptShardState S P) (Note S P) (ShardFrame S F) g
    pub callers : List (PassesOf (KeptShardState S P) (Note S P) (ShardFrame S F) g)
    pub unseen : List (List (Note S P))
    pub closed : IsClosedInto t fits fleet callers weave
    pub of_frame : frame_at t fleet ≡ t.frame_of weave.given
    pub of_given : (c : Colour) → given_at t fleet c ≡ given c
    pub counted : fleet.passes ≡ (shape_of weave.setup).cores + 1
    pub are : callers ≡ outside ∷ map passes_of home
    pub many : length home ≡ (shape_of weave.setup).cores
    pub workers : map (λ w. Some w) weave.workers ≡ map (option_map (λ r. resumed_worker r)) (map worker_of home)
    pub seats : (i : ℕ) (seat : X) → slice_get home i ≡ Some seat → HasRun t fits y app fleet passes_of worker_of i seat
    pub number : outside.number ≡ (shape_of weave.setup).cores
    pub nothing : (k : ℕ) → front_in unseen k ≡ []
    pub posted : SeesAt fleet.setup outside.number (shard_of fleet.setup colour) unseen (fronts outside.shards.items) (Enters colour event load outside.number)

  module _ (colour : Colour) (event : Event) (load : Option P) (given : Colour → Option S) (home : List X) (weave : WeaveState S P) (all : HaveAllWorked colour event load given home weave) where
    abbrev notes : ℕ → List (Note S P)
    notes k = at_some (slice_get weave.shards k) (all.closed.notes k)

    notes_are : (k : ℕ) (has : ShardState S P) → slice_get weave.shards k ≡ Some has → notes k ≡ all.closed.notes k
    notes_are k has there = ap (λ o. at_some o (all.closed.notes k)) there

    -- the first state of a lane is the one that was given
    first_given : (k : ℕ) (has : ShardState S P) → slice_get weave.shards k ≡ Some has → (c : Colour) (lane : ColourState S P) (state : S) → shard_of weave.setup c ≡ k → lane_at has c ≡ Some lane → given c ≡ Some state → lane.given ≡ state
    first_given k has there c lane state of at known =
        let whole : has.setup ≡ fleet.setup = (all.closed.stands.shard k has there).of_setup ∙ all.closed.setup in
        let here : shard_of fleet.setup c ≡ k = ap (λ s. shard_of s c) (sym all.closed.setup) ∙ of in
        let its : slice_get (givens has) (place has.setup c) ≡ Some lane.given = slice_get-map (λ (l : ColourState S P). l.given) has.lanes (place has.setup c) ∙ ap (option_map (λ (l : ColourState S P). l.given)) at in
        same_Some lane.given state (sym its
        ∙ ap (λ l. slice_get l (place has.setup c)) (all.closed.givens k has there)
        ∙ ap (λ j. slice_get (givens_in (shard_frame t.frame_of) fleet j) (place has.setup c)) (sym here)
        ∙ ap (λ s. slice_get (givens_in (shard_frame t.frame_of) fleet (shard_of fleet.setup c)) (place s c)) whole
        ∙ all.of_given c ∙ known)

    shard_told : (k : ℕ) (has : ShardState S P) → slice_get weave.shards k ≡ Some has → ShardTold given weave.setup k has (notes k)
    shard_told k has there = record {
      shows = subst (ShowsNotes has) (sym (notes_are k has there)) (all.closed.histories k has there).shows;
      first = first_given k has there;
    }

    -- what each caller had seen
    seen_by : (n : ℕ) (caller : PassesOf (KeptShardState S P) (Note S P) (ShardFrame S F) g) → slice_get all.callers n ≡ Some caller → (c : Colour) → OthersSince noted_by caller.number (front_in (fronts caller.shards.items) (shard_of fleet.setup c)) (notes (shard_of fleet.setup c))
    seen_by n caller at c =
        let has = shard_there t fits y app given [] weave all.closed.stands c in
        let here = (all.closed.histories (shard_of weave.setup c) has.0 has.1).over.seen n caller at in
        subst (λ s. OthersSince noted_by caller.number (front_in (fronts caller.shards.items) (shard_of s c)) (notes (shard_of s c))) all.closed.setup
        (subst (λ l. OthersSince noted_by caller.number (front_in (fronts caller.shards.items) (shard_of weave.setup c)) l) (sym (notes_are (shard_of weave.setup c) has.0 has.1)) here)

    legal : AreLegalNotes fleet.setup (λ c. notes (shard_of fleet.setup c))
    legal = subst (λ s. AreLegalNotes s (λ c. notes (shard_of s c))) all.closed.setup (notes_legal t fits y app given [] weave notes all.closed.stands shard_told)

    abbrev Told : ℕ → WorkerState S P → List (HandlerRun S P) → Type 0
    Told n w runs = CoreTold t fits y app weave.setup (t.frame_of weave.given) given n (λ c. notes (shard_of weave.setup c)) w runs

    abbrev Has : ℕ → WorkerState S P → List (HandlerRun S P) → Type 0
    Has n w runs = Told n w runs × CoreDid weave.setup n (λ c. notes (shard_of weave.setup c)) w runs

    worker_told : (i : ℕ) (w : WorkerState S P) → slice_get weave.workers i ≡ Some w → (runs : List (HandlerRun S P)) × Has i w runs
    worker_told i w at =
        let within = slice_get_within weave.workers i w at in
        let workers = all.closed.stands.workers in
        let many = all.many in
        let seat = get_there home i (omega (arith, within, workers, many)) in
        let ran = all.seats i seat.0 seat.1 in
        let its : Some w ≡ option_map (λ r. resumed_worker r) (worker_of seat.0) = joined_at (λ (x : WorkerState S P). Some x) (λ (x : X). option_map (λ r. resumed_worker r) (worker_of x)) weave.workers [] home (append-nil (map (λ (x : WorkerState S P). Some x) weave.workers) ∙ all.workers ∙ map_both worker_of (option_map (λ r. resumed_worker r)) home) i w seat.0 at seat.1 in
        let is : w ≡ resumed_worker ran.made.again = same_Some w (resumed_worker ran.made.again) (its ∙ ap (option_map (λ r. resumed_worker r)) ran.made.rests) in
        let caller : slice_get all.callers (suc i) ≡ Some (passes_of seat.0) = ap (λ l. slice_get l (suc i)) all.are ∙ slice_get-map passes_of home i ∙ ap (option_map passes_of) seat.1 in
        let found = seat_told t fits y app fleet ran.before (passes_of seat.0) ran.worker (worker_of seat.0) ran.fresh ran.made notes legal (seen_by (suc i) (passes_of seat.0) caller) in
        let known = told_given t fits y app fleet.setup (frame_at t fleet) (given_at t fleet) given (passes_of seat.0).number (λ c. notes (shard_of fleet.setup c)) (resumed_worker ran.made.again) found.0 all.of_given found.1 in (
          found.0,
          subst (λ u. Has i u found.0) (sym is)
              (subst (λ n. Has n (resumed_worker ran.made.again) found.0) ran.number (
                subst (λ f. CoreTold t fits y app weave.setup f given (passes_of seat.0).number (λ c. notes (shard_of weave.setup c)) (resumed_worker ran.made.again) found.0) all.of_frame
                    (subst (λ s. CoreTold t fits y app s (frame_at t fleet) given (passes_of seat.0).number (λ c. notes (shard_of s c)) (resumed_worker ran.made.again) found.0) (sym all.closed.setup) known),
                subst (λ s. CoreDid s (passes_of seat.0).number (λ c. notes (shard_of s c)) (resumed_worker ran.made.again) found.0) (sym all.closed.setup) found.2,
              )),
        )

    posts_are : (c : Colour) → loaded_of (notes_by (shape_of weave.setup).cores (notes (shard_of weave.setup c))) c ≡ puts_on c ((colour, event, load) ∷ [])
    posts_are = subst (λ n. (c : Colour) → loaded_of (notes_by n (notes (shard_of weave.setup c))) c ≡ puts_on c ((colour, event, load) ∷ [])) all.number
        (subst (λ s. (c : Colour) → loaded_of (notes_by all.outside.number (notes (shard_of s c))) c ≡ puts_on c ((colour, event, load) ∷ [])) (sym all.closed.setup)
        (one_post fleet.setup all.outside.number colour event load all.unseen (fronts all.outside.shards.items) all.nothing all.posted notes (seen_by 0 all.outside (ap (λ l. slice_get l 0) all.are))))

    no_stranger : (k n : ℕ) → (shape_of weave.setup).cores < n → notes_by n (notes k) ≡ []
    no_stranger k n high = no_notes n (slice_get weave.shards k) (all.closed.notes k) (λ has there. let count = all.counted in (all.closed.histories k has there).over.strangers n (omega (arith, high, count)))

    -- the weave is told
    pub closed_told : IsTold t fits y app given ((colour, event, load) ∷ []) weave
    closed_told =
        let chosen = choose Has weave.workers worker_told in (
          notes,
          chosen.0,
          record {
            shard = shard_told;
            cores = chosen.1 ∙ all.closed.stands.workers;
            told = λ core w runs at_w at_runs. (chosen.2 core w runs at_w at_runs).0;
            posts = posts_are;
            no_other = no_stranger;
          },
          record {
            rise = λ k. rise_some (slice_get weave.shards k) (all.closed.notes k) (λ has there. (all.closed.histories k has there).rise);
            did = λ core w runs at_w at_runs. (chosen.2 core w runs at_w at_runs).1;
          },
        )
