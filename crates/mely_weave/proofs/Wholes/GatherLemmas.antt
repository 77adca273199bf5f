-- A weave that is gathered stands well.
use Rattle.std.proofs.Common.{◌≡◌, ℕ, zero, suc, ◌+◌, ◌≤◌, ◌<◌, ◌%◌, true, IsTrue, List, [], ◌∷◌, ◌++◌, Option, Some, None, length, get_or, refl, ap, sym, ◌∙◌, subst, arith, inl, inr}
use Rattle.std.proofs.lemmas.Bool.{cases_lt}
use Rattle.std.proofs.lemmas.List.{append-nil}
use Rattle.std.proofs.lemmas.Option.{get_or_from_slice_get, slice_get_within}
use Rattle.std.specs.Prelude.{slice_get, flat_map}
use Rattle.std.specs.List.{AllByRecursion}
use Rattle.mely_event.specs.declared.colour.Colour.{Colour}
use Rattle.mely_event.specs.declared.event.Event.{Event}
use Rattle.mely_event.specs.declared.trail.Trail.{Ghosts as TrailWords}
use Rattle.mely_history.specs.declared.setup.Setup.{Setup}
use Rattle.mely_history.specs.declared.entry.Entry.{Entry}
use Rattle.mely_history.specs.Setup.{shape_of, colours_of}
use Rattle.mely_history.specs.History.{IsRunning}
use Rattle.mely_history.specs.Legal.{IsLegal}
use Rattle.mely_history.specs.ColourAccount.{account_of}
use Rattle.mely_history.proofs.BeyondLemmas.{none_registered, never_runs}
use Rattle.mely_history.proofs.LegalAccountLemmas.{owner_within}
use Rattle.mely_shard.specs.Shard.{ShardState, ColourState, IsOwn, IsConsistent, HomeStands, lane_at, place}
use Rattle.mely_core.specs.CoreQueue.{CoreQueueState}
use Rattle.mely_steal.specs.Victims.{victims_of}
use Rattle.mely_worker.specs.declared.phase.Phase.{Phase}
use Rattle.mely_worker.specs.declared.phase.Phase.TheVariants.{Free, Popped, Picked, Landing, Pushing, Turning}
use Rattle.mely_worker.specs.Access.{IsCore, FitsSetup}
use Rattle.mely_worker.specs.Conditions.{PhaseMayStep}
use Rattle.mely_worker.specs.Phase.{is_free}
use Rattle.mely_worker.specs.Worker.{WorkerState}
use Rattle.mely_weave.specs.Side.{Readiness, shard_of, history_in, history_for, readiness_of, readiness_for}
use Rattle.mely_weave.specs.Marks.{MarksStand, in_chains}
use Rattle.mely_weave.specs.Hands.{held_in, held_by}
use Rattle.mely_weave.specs.Calls.{IsOut}
use Rattle.mely_weave.specs.SideStands.{PartsStand, ChainStands}
use Rattle.mely_weave.specs.StandsWell.{StandsWell, PhaseIsTold, side_of}
use Rattle.mely_weave.specs.Weave.{WeaveState}
use Rattle.mely_weave.specs.Gathering.{AreChainedAnew, IsFirstAtRest, MayGather, marks_below}
use Rattle.mely_weave.proofs.Entries.EntryLemmas.{ready_rests}
use Rattle.mely_weave.proofs.Marks.ReadyMarksLemmas.{chained_stand}
use Rattle.mely_weave.proofs.Entries.SideLemmas.{get_map}
use Rattle.mely_weave.proofs.Marks.VictimLemmas.{victims_are_others, IsOther}

-- a ready colour is one of the setup, and its owner is a core
ready_within : (setup : Setup) (history : List Entry) (c : Colour) → IsLegal setup history → (readiness_of setup (account_of setup history c)).ready ≡ true → (c.0 < colours_of setup) × ((readiness_of setup (account_of setup history c)).owner < (shape_of setup).cores)
ready_within setup history c legal ready =
    let waits = (ready_rests setup (account_of setup history c) ready).1 in (
      elim (cases_lt c.0 (colours_of setup)) [
        | inl low ↦ low
        | inr high ↦ absurd (omega (arith, waits, ap length (none_registered setup history legal c high)))
      ],
      owner_within setup history c legal,
    )

-- what a free worker has
free_holds : {S P : Type 0} (core : ℕ) (phase : Phase S P) → IsTrue (is_free phase) → held_in core phase ≡ []
free_holds core (Free place) free = refl
free_holds core (Popped mark) free = cc
free_holds core (Picked mark victim) free = cc
free_holds core (Landing mark) free = cc
free_holds core (Pushing to mark) free = cc
free_holds core (Turning turn hand puts) free = cc

free_told : {S P : Type 0} (setup : Setup) (of : Colour → Readiness) (core : ℕ) (phase : Phase S P) → IsTrue (is_free phase) → PhaseIsTold setup of core phase
free_told setup of core (Free place) free = tt
free_told setup of core (Popped mark) free = cc
free_told setup of core (Picked mark victim) free = cc
free_told setup of core (Landing mark) free = cc
free_told setup of core (Pushing to mark) free = cc
free_told setup of core (Turning turn hand puts) free = cc

free_may : {S P F : Type 0} (t : TrailWords S F) (fits : F → Colour → Event → Option P → Type 0) (setup : Setup) (own : ℕ) (frame : F) (owes : Colour → ℕ → ℕ → List Event → Type 0) (phase : Phase S P) → IsTrue (is_free phase) → PhaseMayStep t fits setup own frame owes phase
free_may t fits setup own frame owes (Free place) free = tt
free_may t fits setup own frame owes (Popped mark) free = cc
free_may t fits setup own frame owes (Picked mark victim) free = cc
free_may t fits setup own frame owes (Landing mark) free = cc
free_may t fits setup own frame owes (Pushing to mark) free = cc
free_may t fits setup own frame owes (Turning turn hand puts) free = cc

-- free workers hold nothing
free_workers : {S P : Type 0} (workers : List (WorkerState S P)) → ((core : ℕ) (w : WorkerState S P) → slice_get workers core ≡ Some w → IsTrue (is_free w.phase)) → flat_map held_by workers ≡ []
free_workers [] free = refl
free_workers (w ∷ ws) free = ap (λ marks. marks ++ flat_map held_by ws) (free_holds w.core w.phase (free 0 w refl)) ∙ free_workers ws (λ core v at. free (suc core) v at)

others_are_cores : (setup : Setup) (core : ℕ) (victims : List ℕ) → AllByRecursion (IsOther core (shape_of setup).cores) victims → AllByRecursion (IsCore setup) victims
others_are_cores setup core [] all = tt
others_are_cores setup core (victim ∷ victims) all = (all.0.1, others_are_cores setup core victims all.1)

module _ {S P F : Type 0} (t : TrailWords S F) (fits : F → Colour → Event → Option P → Type 0) (setup : Setup) (shards : List (ShardState S P)) (was : List CoreQueueState) (workers : List (WorkerState S P)) (may : MayGather t fits setup shards was workers)
    (kept : (number : ℕ) (has : ShardState S P) → slice_get shards number ≡ Some has → IsConsistent t fits has) where
  -- the history of each colour is that of a shard, and legal
  shard_at : (c : Colour) → (has : ShardState S P) × (slice_get shards (shard_of setup c) ≡ Some has)
  shard_at c = there shards (shard_of setup c) (let many = may.shard_count in let some : 1 ≤ (shape_of setup).shards = setup.shards_in.0 in omega (arith, many, some)) where
    there : (xs : List (ShardState S P)) (i : ℕ) → i < length xs → (has : ShardState S P) × (slice_get xs i ≡ Some has)
    there [] i low = absurd (omega (arith, low))
    there (x ∷ xs) zero low = (x, refl)
    there (x ∷ xs) (suc i) low = there xs i (omega (arith, low))

  legal_at : (c : Colour) → IsLegal setup (history_for setup shards c)
  legal_at c =
      let at = shard_at c in
      subst (IsLegal setup) (sym (ap history_in at.1)) (subst (λ (s : Setup). IsLegal s at.0.history) (may.shard (shard_of setup c) at.0 at.1).of_setup (kept (shard_of setup c) at.0 at.1).legal)

  none_runs : (c : Colour) → ¬ IsRunning (history_for setup shards c) c
  none_runs c runs = elim (cases_lt c.0 (colours_of setup)) [
    | inl low ↦
        let at = shard_at c in
        let is = may.shard (shard_of setup c) at.0 at.1 in
        let own : IsOwn at.0 c = record {
          there = subst (λ (s : Setup). c.0 < colours_of s) (sym is.of_setup) low;
          here = ap (λ (s : Setup). c.0 % (shape_of s).shards) is.of_setup ∙ sym is.numbered;
        } in
        is.at_rest c own (subst (λ (h : List Entry). IsRunning h c) (ap history_in at.1) runs)
    | inr high ↦ never_runs setup (history_for setup shards c) c (legal_at c) high runs
  ]

  -- so a weave of these shards, whose chains have the marks of the ready colours, stands well
  pub gathered_well : (given : S) (chains : List CoreQueueState) → t.frame_of given ≡ may.frame → AreChainedAnew setup shards chains → ((core : ℕ) (queue : CoreQueueState) → slice_get chains core ≡ Some queue → ChainStands setup queue)
      → StandsWell t fits (record { setup = setup; given = given; shards = shards; chains = chains; workers = workers })
  gathered_well given chains framed chained stand =
      let of : Colour → Readiness = readiness_for setup shards in
      let weave : WeaveState S P = record { setup = setup; given = given; shards = shards; chains = chains; workers = workers } in
      record {
        shards = may.shard_count;
        shard = λ number has there.
            let is = may.shard number has there in
            record {
              of_setup = is.of_setup;
              numbered = is.numbered;
              kept = kept number has there;
              framed = λ i old at. is.framed i old at ∙ sym framed;
            };
        chains = chained.many;
        chain = stand;
        marks = subst (MarksStand of) (sym (ap (λ more. in_chains 0 chains ++ more) (free_workers workers (λ core w there. (may.worker core w there).free)) ∙ append-nil (in_chains 0 chains)))
            (chained_stand of (colours_of setup) chains (λ i queue there. ap (λ (q : CoreQueueState). q.chain) (chained.each i queue there) ∙ ap (λ k. marks_below of k (colours_of setup)) (let e : i ≡ 0 + i = omega arith in e))
            (λ c ready. let within = ready_within setup (history_for setup shards c) c (legal_at c) ready in (within.0, let many = chained.many in omega (arith, within.1, many))));
        workers = may.worker_count;
        worker = λ core w there.
            let is = may.worker core w there in
            let low : core < (shape_of setup).cores = let within = slice_get_within workers core w there in let many = may.worker_count in omega (arith, within, many) in
            record {
              may = record {
                own_core = sym is.own_core;
                core = let own = is.own_core in omega (arith, own, low);
                batch = is.batch;
                victims = subst (AllByRecursion (IsCore setup)) (sym is.victims) (others_are_cores setup core (victims_of core (shape_of setup).cores (shape_of setup).group) (victims_are_others core (shape_of setup).cores (shape_of setup).group low));
                phase = free_may t fits setup core (t.frame_of given) (IsOut (side_of weave core)) w.phase is.free;
                lost = subst (λ (f : F). AllByRecursion (FitsSetup fits setup f) w.lost) (sym framed) is.lost;
              };
              victims = is.victims;
              told = free_told setup of core w.phase is.free;
            };
        running = λ c core count is. absurd (none_runs c is.running);
      }

  -- and so do its shards and chains
  pub gathered_parts : (given : S) (chains : List CoreQueueState) → t.frame_of given ≡ may.frame → AreChainedAnew setup shards chains → ((k : ℕ) (queue : CoreQueueState) → slice_get chains k ≡ Some queue → ChainStands setup queue)
      → PartsStand t fits setup given shards chains
  gathered_parts given chains framed chained stand =
      let well = gathered_well given chains framed chained stand in
      record { shards = well.shards; shard = well.shard; chains = well.chains; chain = well.chain }

-- the element that was read is that of the place
pub element_is : {A : Type 0} (xs : List A) (number i : ℕ) (read x : A) → number ≡ i → read ≡ get_or xs i read → slice_get xs number ≡ Some x → read ≡ x
element_is xs number i read x here is there =
    let at : slice_get xs i ≡ Some x = subst (λ (n : ℕ). slice_get xs n ≡ Some x) here there in
    is ∙ get_or_from_slice_get xs i x read at

-- what is below the length of a list is there
pub get_there : {A : Type 0} (xs : List A) (i : ℕ) → i < length xs → (x : A) × (slice_get xs i ≡ Some x)
get_there [] i low = absurd (omega (arith, low))
get_there (x ∷ xs) zero low = (x, refl)
get_there (x ∷ xs) (suc i) low = get_there xs i (omega (arith, low))

-- the state of a lane is at home
pub record IsHome {S P F : Type 0} (frame : S → F) (lane : ColourState S P) : Type 0 where
  pub state : S
  pub home : lane.state ≡ Some state
  pub framed : frame state ≡ frame lane.given

module _ {S P F : Type 0} (t : TrailWords S F) (fits : F → Colour → Event → Option P → Type 0) (has : ShardState S P) (kept : IsConsistent t fits has) where
  -- as it is where the colour doesn't run
  rests_at_home : (c : Colour) (lane : ColourState S P) → IsOwn has c → ¬ IsRunning has.history c → lane_at has c ≡ Some lane → IsHome t.frame_of lane
  rests_at_home c lane own rests at = home lane.state refl (kept.each c lane own at).state where
    home : (o : Option S) → lane.state ≡ o → HomeStands t has.history c lane.given o → IsHome t.frame_of lane
    home None is stands = absurd (rests stands)
    home (Some state) is stands = record { state = state; home = is; framed = stands.3 }

  first_own : has.shard ≡ 0 → IsOwn has (record { 0 = 0 })
  first_own first = record { there = has.setup.colours_in.0; here = let some : 1 ≤ (shape_of has.setup).shards = has.setup.shards_in.0 in omega (arith, some, first) }

  pub first_lane_there : IsFirstAtRest has → (lane : ColourState S P) × (lane_at has (record { 0 = 0 }) ≡ Some lane)
  first_lane_there rest = get_there has.lanes (place has.setup (record { 0 = 0 })) (kept.found (record { 0 = 0 }) (first_own rest.first))

  pub first_home : IsFirstAtRest has → (lane : ColourState S P) → lane_at has (record { 0 = 0 }) ≡ Some lane → IsHome t.frame_of lane
  first_home rest lane at = rests_at_home (record { 0 = 0 }) lane (first_own rest.first) (rest.at_rest (record { 0 = 0 }) (first_own rest.first)) at

-- a state of the frame of the first one has the frame of all
pub given_framed : {S P F : Type 0} (t : TrailWords S F) (fits : F → Colour → Event → Option P → Type 0) (setup : Setup) (shards : List (ShardState S P)) (was : List CoreQueueState) (workers : List (WorkerState S P)) (may : MayGather t fits setup shards was workers)
    → ((number : ℕ) (has : ShardState S P) → slice_get shards number ≡ Some has → IsConsistent t fits has)
    → (given : S) → ((has : ShardState S P) (lane : ColourState S P) → slice_get shards 0 ≡ Some has → lane_at has (record { 0 = 0 }) ≡ Some lane → t.frame_of given ≡ t.frame_of lane.given) → t.frame_of given ≡ may.frame
given_framed {S} {P} t fits setup shards was workers may kept given framed =
    let first = get_there shards 0 (let many = may.shard_count in let some : 1 ≤ (shape_of setup).shards = setup.shards_in.0 in omega (arith, many, some)) in
    let is = may.shard 0 first.0 first.1 in
    let lane = first_lane_there t fits first.0 (kept 0 first.0 first.1) (record { first = is.numbered; at_rest = is.at_rest }) in
    framed first.0 lane.0 first.1 lane.1 ∙ is.framed (place first.0.setup (record { 0 = 0 })) lane.0.given (get_map (λ (l : ColourState S P). l.given) first.0.lanes (place first.0.setup (record { 0 = 0 })) lane.0 lane.1)
