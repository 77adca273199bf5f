-- A weave at first.
use Rattle.std.proofs.Common.{◌≡◌, ℕ, zero, suc, ◌+◌, ◌*◌, ◌≤◌, false, List, [], ◌∷◌, Option, Some, length, map, refl, ap, sym, ◌∙◌, subst, arith, add-one}
use Rattle.std.proofs.lemmas.Nat.{div-add-mod'}
use Rattle.std.proofs.lemmas.Option.{slice_get_within, same_Some}
use Rattle.std.specs.Prelude.{◌==◌, ◌&&◌, slice_get}
use Rattle.std.specs.List.{AllByRecursion}
use Rattle.mely_event.specs.declared.colour.Colour.{Colour}
use Rattle.mely_event.specs.declared.event.Event.{Event}
use Rattle.mely_event.specs.declared.trail.Trail.{Ghosts as TrailWords}
use Rattle.mely_history.specs.declared.setup.Setup.{Setup}
use Rattle.mely_history.specs.declared.entry.Entry.{Entry}
use Rattle.mely_history.specs.Setup.{shape_of, colours_of}
use Rattle.mely_history.specs.History.{IsRunning}
use Rattle.mely_history.specs.ColourAccount.{account_of}
use Rattle.mely_shard.specs.Shard.{ShardState, ColourState, AreInitialStates, IsInitialShard, initial_lane, givens, place}
use Rattle.mely_core.specs.CoreQueue.{CoreQueueState}
use Rattle.mely_steal.specs.Victims.{victims_of}
use Rattle.mely_worker.specs.declared.phase.Phase.TheVariants.{Free}
use Rattle.mely_worker.specs.Access.{FitsSetup}
use Rattle.mely_worker.specs.Phase.{is_free}
use Rattle.mely_worker.specs.IdleWorker.{IdleWorkerState, resumed_worker}
use Rattle.mely_worker.specs.Worker.{WorkerState, place_of}
use Rattle.mely_weave.specs.Side.{Readiness, shard_of, history_in, readiness_of, readiness_for}
use Rattle.mely_weave.specs.Weave.{WeaveState}
use Rattle.mely_weave.specs.Dealing.{AreDealt}
use Rattle.mely_weave.specs.Gathering.{AreChainedAnew, MayGather, MayGatherShard, MayGatherWorker, marks_below, chain_of}
use Rattle.mely_weave.specs.Lanes.{lane_in, lane_for}
use Rattle.mely_weave.specs.Making.{AreInitial, IsInitialWeave, empty_chain, initial_idle_worker, initial_worker}
use Rattle.mely_weave.proofs.Wholes.DealLemmas.{within_both}
use Rattle.mely_weave.proofs.Wholes.GatherLemmas.{get_there}
use Rattle.mely_weave.proofs.Marks.ReadyMarksLemmas.{numbered, marks_unready}
use Rattle.mely_weave.proofs.Entries.SideLemmas.{get_map}

-- a worker at rest is the first one, where it was made with the numbers of the setup
pub rests_first : {P : Type 0} (setup : Setup) (core : ℕ) (rest : IdleWorkerState P) (batch : ℕ) (victims : List ℕ) (cores group : ℕ)
    → resumed_worker {S = Unit {0}} rest ≡ record { core = core; batch = batch; halted = false; victims = victims; lost = []; phase = Free 0 }
    → batch ≡ (shape_of setup).batch → victims ≡ victims_of core cores group → cores ≡ (shape_of setup).cores → group ≡ (shape_of setup).group → rest ≡ initial_idle_worker setup core
rests_first setup core rest batch victims cores group is batch_is order cores_is group_is =
    let whole : rest ≡ record { core = core; batch = batch; halted = false; victims = victims; lost = []; place = 0 } = λ i. record {
      core = (is i).core;
      batch = (is i).batch;
      halted = (is i).halted;
      victims = (is i).victims;
      lost = (is i).lost;
      place = place_of ((is i).phase);
    } in
    let same : victims ≡ victims_of core (shape_of setup).cores (shape_of setup).group = order ∙ (λ i. victims_of core (cores_is i) (group_is i)) in
    whole ∙ (λ i. record { core = core; batch = batch_is i; halted = false; victims = same i; lost = []; place = 0 })

-- where no colour is ready there are no marks
none_ready : (of : Colour → Readiness) (core n : ℕ) → ((c : Colour) → (of c).ready ≡ false) → marks_below of core n ≡ []
none_ready of core zero unready = refl
none_ready of core (suc n) unready =
    subst (λ (m : ℕ). marks_below of core m ≡ []) (add-one n)
    (marks_unready of core n (ap (λ b. b && ((of (numbered n)).owner == core)) (unready (numbered n))) ∙ none_ready of core n unready)

givens_first : {S : Type 0} (P : Type 0) (states : List S) → map (λ (lane : ColourState S P). lane.given) (map (λ state. initial_lane {S = S} {P = P} state) states) ≡ states
givens_first P [] = refl
givens_first P (state ∷ states) = ap (λ rest. state ∷ rest) (givens_first P states)

-- where each shard is initial with what it was given, it is so with the pile at its own place
pub of_givens : {S P : Type 0} (setup : Setup) (shards : List (ShardState S P)) → ((shard : ℕ) (has : ShardState S P) → slice_get shards shard ≡ Some has → IsInitialShard setup shard (givens has) has)
    → (shard : ℕ) (pile has : ShardState S P) → slice_get shards shard ≡ Some pile → slice_get shards shard ≡ Some has → IsInitialShard setup shard (givens pile) has
of_givens setup shards first shard pile has at_pile at = subst (λ p. IsInitialShard setup shard (givens p) has) (same_Some has pile (sym at ∙ at_pile)) (first shard has at)

module _ {S P F Y : Type 0} (t : TrailWords S F) (fits : F → Colour → Event → Option P → Type 0) (setup : Setup) (states : List S) (first : AreInitial t setup states)
    (items : Y → List S) (piles : List Y) (dealt : AreDealt items (shape_of setup).shards states piles) where
  -- each shard is dealt its first states
  pub first_piles : (shard : ℕ) (pile : Y) → slice_get piles shard ≡ Some pile → AreInitialStates t setup shard (items pile)
  first_piles shard pile at = record {
    all = λ i low. within_both states (items pile) (i * (shape_of setup).shards + shard) i (sym (dealt.each shard pile at i)) (let all = first.all in omega (arith, low, all));
    only = λ i low. let all = first.all in let there = within_both (items pile) states i (i * (shape_of setup).shards + shard) (dealt.each shard pile at i) low in omega (arith, all, there);
    coloured = λ i state is. first.coloured (i * (shape_of setup).shards + shard) state (sym (dealt.each shard pile at i) ∙ is);
    untouched = λ i state is. first.untouched (i * (shape_of setup).shards + shard) state (sym (dealt.each shard pile at i) ∙ is);
    one_frame = λ i j a b at_i at_j. first.one_frame (i * (shape_of setup).shards + shard) (j * (shape_of setup).shards + shard) a b (sym (dealt.each shard pile at i) ∙ at_i) (sym (dealt.each shard pile at j) ∙ at_j);
  }

  module _ (shards : List (ShardState S P)) (many : length shards ≡ (shape_of setup).shards) (are : (shard : ℕ) (pile : Y) (has : ShardState S P) → slice_get piles shard ≡ Some pile → slice_get shards shard ≡ Some has → IsInitialShard setup shard (items pile) has) where
    -- the states of a shard
    pub record IsDealtTo (shard : ℕ) (has : ShardState S P) : Type 0 where
      pub pile : Y
      pub there : slice_get piles shard ≡ Some pile
      pub is : IsInitialShard setup shard (items pile) has

    pub dealt_to : (shard : ℕ) (has : ShardState S P) → slice_get shards shard ≡ Some has → IsDealtTo shard has
    dealt_to shard has at =
        let at_pile = get_there piles shard (let low = slice_get_within shards shard has at in let count = dealt.many in omega (arith, low, many, count)) in
        record { pile = at_pile.0; there = at_pile.1; is = are shard at_pile.0 has at_pile.1 at }

    -- what a shard was given is what lies in its pile
    dealt_pile : (shard : ℕ) (has : ShardState S P) (at : slice_get shards shard ≡ Some has) → givens has ≡ items (dealt_to shard has at).pile
    dealt_pile shard has at = ap (λ lanes. map (λ (lane : ColourState S P). lane.given) lanes) (dealt_to shard has at).is.lanes ∙ givens_first P (items (dealt_to shard has at).pile)

    -- so the shards are dealt what they were given
    pub dealt_givens : AreDealt givens (shape_of setup).shards states shards
    dealt_givens = record {
      many = many;
      each = λ shard has at i. ap (λ xs. slice_get xs i) (dealt_pile shard has at) ∙ dealt.each shard (dealt_to shard has at).pile (dealt_to shard has at).there i;
    }

    pub first_givens : (shard : ℕ) (has : ShardState S P) → slice_get shards shard ≡ Some has → IsInitialShard setup shard (givens has) has
    first_givens shard has at = subst (λ xs. IsInitialShard setup shard xs has) (sym (dealt_pile shard has at)) (dealt_to shard has at).is

    a_state : (state : S) × (slice_get states 0 ≡ Some state)
    a_state = get_there states 0 (let some : 1 ≤ colours_of setup = setup.colours_in.0 in let all = first.all in omega (arith, some, all))

    first_shard : (shard : ℕ) (has : ShardState S P) → slice_get shards shard ≡ Some has → MayGatherShard t setup (t.frame_of a_state.0) shard has
    first_shard shard has at =
        let to = dealt_to shard has at in
        record {
          of_setup = to.is.of_setup;
          numbered = to.is.of_shard;
          at_rest = λ c own runs. let none : IsRunning [] c = subst (λ (h : List Entry). IsRunning h c) to.is.no_entry runs in omega (arith, none);
          framed = λ i given is.
              let here : slice_get (items to.pile) i ≡ Some given = ap (λ xs. slice_get xs i) (sym (ap (λ lanes. map (λ (lane : ColourState S P). lane.given) lanes) to.is.lanes ∙ givens_first P (items to.pile))) ∙ is in
              first.one_frame (i * (shape_of setup).shards + shard) 0 given a_state.0 (sym (dealt.each shard to.pile to.there i) ∙ here) a_state.1;
        }

    first_free : (core : ℕ) (w : WorkerState S P) → w ≡ initial_worker setup core → MayGatherWorker fits setup (t.frame_of a_state.0) core w
    first_free core w is = record {
      own_core = ap (λ (v : WorkerState S P). v.core) is;
      batch = ap (λ (v : WorkerState S P). v.batch) is;
      victims = ap (λ (v : WorkerState S P). v.victims) is;
      free = ap (λ (v : WorkerState S P). is_free v.phase) is;
      lost = subst (λ (v : WorkerState S P). AllByRecursion (FitsSetup fits setup (t.frame_of a_state.0)) v.lost) (sym is) tt;
    }

    -- so they may be gathered, with empty chains and workers at first
    pub first_may : (chains : List CoreQueueState) (workers : List (WorkerState S P)) → length chains ≡ (shape_of setup).cores → ((core : ℕ) (queue : CoreQueueState) → slice_get chains core ≡ Some queue → queue ≡ empty_chain setup)
        → length workers ≡ (shape_of setup).cores → ((core : ℕ) (w : WorkerState S P) → slice_get workers core ≡ Some w → w ≡ initial_worker setup core) → MayGather t fits setup shards chains workers
    first_may chains workers many_chains empty many_workers free = record {
      frame = t.frame_of a_state.0;
      shard_count = many;
      shard = first_shard;
      chain_count = many_chains;
      chain = λ core queue at. record { colours = ap (λ (q : CoreQueueState). q.colours) (empty core queue at); cost = ap (λ (q : CoreQueueState). q.cost) (empty core queue at); pinned = ap (λ (q : CoreQueueState). q.pinned) (empty core queue at) };
      worker_count = many_workers;
      worker = λ core w at. first_free core w (free core w at);
    }

    shard_there : (c : Colour) → (has : ShardState S P) × (slice_get shards (shard_of setup c) ≡ Some has)
    shard_there c = get_there shards (shard_of setup c) (let some : 1 ≤ (shape_of setup).shards = setup.shards_in.0 in omega (arith, some, many))

    unready : (c : Colour) → (readiness_for setup shards c).ready ≡ false
    unready c =
        let at = shard_there c in
        ap (λ (h : List Entry). (readiness_of setup (account_of setup h c)).ready) (ap history_in at.1 ∙ (dealt_to (shard_of setup c) at.0 at.1).is.no_entry)

    first_lanes : (c : Colour) (state : S) → slice_get states c.0 ≡ Some state → lane_for setup shards c ≡ Some (initial_lane state)
    first_lanes c state is =
        let at = shard_there c in
        let to = dealt_to (shard_of setup c) at.0 at.1 in
        let here : slice_get (items to.pile) (place setup c) ≡ Some state =
        dealt.each (shard_of setup c) to.pile to.there (place setup c) ∙ ap (slice_get states) (div-add-mod' c.0 (shape_of setup).shards) ∙ is in
        ap (λ o. lane_in o c) at.1
        ∙ ap (λ (s : Setup). slice_get at.0.lanes (place s c)) to.is.of_setup
        ∙ ap (λ lanes. slice_get lanes (place setup c)) to.is.lanes
        ∙ get_map (λ s. initial_lane {S = S} {P = P} s) (items to.pile) (place setup c) state here

    -- and the weave is a first one
    pub first_weave : (weave : WeaveState S P) → weave.setup ≡ setup → weave.shards ≡ shards → AreChainedAnew weave.setup weave.shards weave.chains → ((core : ℕ) (w : WorkerState S P) → slice_get weave.workers core ≡ Some w → w ≡ initial_worker setup core) → IsInitialWeave setup states weave
    first_weave weave of_setup same chained free =
        let anew : AreChainedAnew setup shards weave.chains = subst (λ (s : Setup). AreChainedAnew s shards weave.chains) of_setup (subst (λ (xs : List (ShardState S P)). AreChainedAnew weave.setup xs weave.chains) same chained) in
        record {
          of_setup = of_setup;
          no_entry = λ shard has at. (dealt_to shard has (ap (λ xs. slice_get xs shard) (sym same) ∙ at)).is.no_entry;
          lane = λ c state is. ap (λ (s : Setup). lane_for s weave.shards c) of_setup ∙ ap (λ (xs : List (ShardState S P)). lane_for setup xs c) same ∙ first_lanes c state is;
          chain = λ core queue at. anew.each core queue at ∙ ap (chain_of setup) (none_ready (readiness_for setup shards) core (colours_of setup) unready);
          worker = free;
        }
