-- Notes go on telling the runs of a weave's workers, over each step, each run of a schedule and each
-- drain.
use Rattle.std.proofs.Common.{◌≡◌, ℕ, ◌≤◌, List, [], ◌++◌, Option, Some, sym, ◌∙◌, ap, subst, ⊎_elim, arith, get_or}
use Rattle.std.specs.Prelude.{slice_get, slice_set}
use Rattle.std.proofs.lemmas.Bool.{cases_eq}
use Rattle.std.proofs.lemmas.List.{length-set}
use Rattle.std.proofs.lemmas.Option.{same_Some, slice_get-get_or}
use Rattle.mely_event.specs.declared.colour.Colour.{Colour}
use Rattle.mely_event.specs.declared.event.Event.{Event}
use Rattle.mely_event.specs.declared.trail.Trail.{Ghosts as TrailWords}
use Rattle.mely_history.specs.Legal.{IsLegal}
use Rattle.mely_history.specs.Setup.{shape_of, shard_of}
use Rattle.mely_note.specs.declared.note.Note.{Note}
use Rattle.mely_note.specs.Notes.{entries_of, loaded_of, notes_by}
use Rattle.mely_shard.specs.Shard.{ShardState}
use Rattle.mely_tally.specs.Account.{HandlerRun, IsRunOf}
use Rattle.mely_tally.proofs.CarryingLemmas.{carry_run, carry_drain}
use Rattle.mely_tally.proofs.StepAccountLemmas.{runs_of}
use Rattle.mely_tally.proofs.WeaveAccountLemmas.{line, all_map, runs_well}
use Rattle.mely_weave.specs.declared.draining.Drained.{Drained}
use Rattle.mely_weave.specs.declared.running.Went.{Went}
use Rattle.mely_weave.specs.Calls.{side_words}
use Rattle.mely_weave.specs.Drains.{Drains}
use Rattle.mely_weave.specs.Runs.{StepsWell, RunsTo}
use Rattle.mely_weave.specs.Side.{SideState}
use Rattle.mely_weave.specs.StandsWell.{StandsWell, side_of}
use Rattle.mely_weave.specs.Weave.{WeaveState}
use Rattle.mely_weave.proofs.Entries.SideLemmas.{get_set_same, get_set_other}
use Rattle.mely_weave.proofs.Runs.RunLemmas.{well_same}
use Rattle.mely_weave.proofs.Wholes.GatherLemmas.{get_there}
use Rattle.mely_worker.specs.declared.app.App.{Ghosts as AppWords}
use Rattle.mely_worker.specs.declared.made.Made.{Made}
use Rattle.mely_worker.specs.Worker.{WorkerState}
use Rattle.mely_chain.specs.Deeds.{CoreDid}
use Rattle.mely_chain.specs.Told.{CoreTold}
use Rattle.mely_chain.specs.WeaveTold.{ShardTold, WeaveTold, WeaveDid, IsTold}
use Rattle.mely_chain.proofs.GrowthLemmas.{by_others}
use Rattle.mely_chain.proofs.CoreLemmas.{AreLegalNotes, told_others, told_same}
use Rattle.mely_chain.proofs.CoreStepLemmas.{StepTold, told_step}
use Rattle.mely_chain.proofs.DeedLemmas.{did_others, did_same}
use Rattle.mely_chain.proofs.WeaveSeesLemmas.{SuitsShards, sees}

module _ {R S P F : Type 0} (t : TrailWords S F) (fits : F → Colour → Event → Option P → Type 0) (y : AppWords R P S F) (app : R) (given : Colour → Option S) (posted : List (Colour × Event × Option P)) where
  -- each colour has a shard
  pub shard_there : (weave : WeaveState S P) → StandsWell t fits weave → (c : Colour) → (has : ShardState S P) × (slice_get weave.shards (shard_of weave.setup c) ≡ Some has)
  shard_there weave well c =
      let some : 1 ≤ (shape_of weave.setup).shards = weave.setup.shards_in.0 in
      let many = well.shards in
      get_there weave.shards (shard_of weave.setup c) (omega (arith, some, many))

  -- the notes of each colour are legal
  pub notes_legal : (weave : WeaveState S P) (notes : ℕ → List (Note S P)) → StandsWell t fits weave → ((number : ℕ) (has : ShardState S P) → slice_get weave.shards number ≡ Some has → ShardTold given weave.setup number has (notes number)) → AreLegalNotes weave.setup (λ c. notes (shard_of weave.setup c))
  notes_legal weave notes well each c =
      let there = shard_there weave well c in
      let stands = well.shard (shard_of weave.setup c) there.0 there.1 in
      let shown = each (shard_of weave.setup c) there.0 there.1 in
      subst (IsLegal weave.setup) shown.shows.entries (subst (λ s. IsLegal s there.0.history) stands.of_setup stands.kept.legal)

  module _ (before after : WeaveState S P) (core : ℕ) (made : Made) (well : StandsWell t fits before) (is : StepsWell t fits y app before core made after) (notes : ℕ → List (Note S P)) (by_core : List (List (HandlerRun S P))) (told : WeaveTold t fits y app given posted before notes by_core) (did : WeaveDid before notes by_core) where
    abbrev a : SideState S P
    a = side_of before core

    abbrev b : SideState S P
    b = is.call.steps.side

    abbrev w : WorkerState S P
    w = is.call.steps.worker

    abbrev v : WorkerState S P
    v = is.call.steps.becomes

    abbrev seen : Colour → List (Note S P)
    seen c = notes (shard_of before.setup c)

    abbrev Suits : (Colour → List (Note S P)) → Type 0
    Suits seen_then = SuitsShards given before.setup core b.shards notes seen_then

    -- the run of the step, if it made one
    abbrev new : List (HandlerRun S P)
    new = runs_of (side_words t (λ _. Unit {0})) y app a b w made v (line t fits y app before after core made well is)

    -- the runs of the core so far
    abbrev runs : List (HandlerRun S P)
    runs = get_or by_core core []

    abbrev Stepped : Type 0
    Stepped = StepTold (side_words t (λ _. Unit {0})) y app a b w made v before.setup given core seen Suits t fits (t.frame_of before.given) (sees t fits y app given before after core made well is notes told.shard did.rise) (notes_legal before notes well told.shard) runs (runs ++ new)

    runs_there : slice_get by_core core ≡ Some runs
    runs_there = let low = is.call.there in let many = told.cores in slice_get-get_or by_core core [] (omega (arith, low, many))

    stepped : Stepped
    stepped = told_step (side_words t (λ _. Unit {0})) y app a b w made v before.setup given core seen Suits t fits (t.frame_of before.given) (sees t fits y app given before after core made well is notes told.shard did.rise) (notes_legal before notes well told.shard) runs
        (line t fits y app before after core made well is)
        (all_map _ (IsRunOf t fits y app before.setup (t.frame_of before.given)) new (λ run both. both.0) (runs_well t fits y app before after core made well is))
        (told.told core w runs is.call.steps.was runs_there)
        (did.did core w runs is.call.steps.was runs_there)

    -- the weave after it, with the setup and the given state of the one before
    abbrev then_weave : WeaveState S P
    then_weave = record {
      setup = before.setup;
      given = before.given;
      shards = b.shards;
      chains = b.chains;
      workers = slice_set before.workers core v;
    }

    after_is : after ≡ then_weave
    after_is =
        let same = well_same t fits y app before after core made is in
        let leaves = is.call.steps.leaves in
        let setup : b.setup ≡ before.setup = sym (ap (λ (z : WeaveState S P). z.setup) leaves) ∙ same.setup in
        let first : b.given ≡ before.given = sym (ap (λ (z : WeaveState S P). z.given) leaves) ∙ same.given in
        leaves
        ∙ ap (λ s. let z : WeaveState S P = record { setup = s; given = b.given; shards = b.shards; chains = b.chains; workers = slice_set before.workers core v } in z) setup
        ∙ ap (λ g. let z : WeaveState S P = record { setup = before.setup; given = g; shards = b.shards; chains = b.chains; workers = slice_set before.workers core v } in z) first

    module _ (st : Stepped) where
      then_told : (k : ℕ) (z : WorkerState S P) (all : List (HandlerRun S P)) → slice_get then_weave.workers k ≡ Some z → slice_get (slice_set by_core core (runs ++ new)) k ≡ Some all → CoreTold t fits y app before.setup (t.frame_of before.given) given k (λ c. st.suits.by_shard (shard_of before.setup c)) z all
      then_told k z all at_z at_all = ⊎_elim
          (λ (same : k ≡ core).
          let worker : v ≡ z = same_Some v z (sym (get_set_same before.workers core w v is.call.steps.was) ∙ ap (slice_get then_weave.workers) (sym same) ∙ at_z) in
          let runs_are : runs ++ new ≡ all = same_Some (runs ++ new) all (sym (get_set_same by_core core runs (runs ++ new) runs_there) ∙ ap (slice_get (slice_set by_core core (runs ++ new))) (sym same) ∙ at_all) in
          let here = told_same t fits y app before.setup (t.frame_of before.given) given core st.after (λ c. st.suits.by_shard (shard_of before.setup c)) v (runs ++ new) (λ c. sym (st.suits.is c)) st.told in
          subst (λ j. CoreTold t fits y app before.setup (t.frame_of before.given) given j (λ c. st.suits.by_shard (shard_of before.setup c)) z all) (sym same)
          (subst (λ u. CoreTold t fits y app before.setup (t.frame_of before.given) given core (λ c. st.suits.by_shard (shard_of before.setup c)) u all) worker
          (subst (λ l. CoreTold t fits y app before.setup (t.frame_of before.given) given core (λ c. st.suits.by_shard (shard_of before.setup c)) v l) runs_are here)))
          (λ (ne : k ≡ core → ⊥).
          let was_z : slice_get before.workers k ≡ Some z = sym (get_set_other before.workers core k v ne) ∙ at_z in
          let was_all : slice_get by_core k ≡ Some all = sym (get_set_other by_core core k (runs ++ new) ne) ∙ at_all in
          told_others t fits y app before.setup (t.frame_of before.given) given k seen (λ c. st.suits.by_shard (shard_of before.setup c)) z all (λ c. st.suits.grew (shard_of before.setup c) k ne) (λ c. subst (λ l. IsLegal before.setup (entries_of l)) (st.suits.is c) (st.are_legal c)) (told.told k z all was_z was_all))
          (cases_eq k core)

      then_did : (k : ℕ) (z : WorkerState S P) (all : List (HandlerRun S P)) → slice_get then_weave.workers k ≡ Some z → slice_get (slice_set by_core core (runs ++ new)) k ≡ Some all → CoreDid before.setup k (λ c. st.suits.by_shard (shard_of before.setup c)) z all
      then_did k z all at_z at_all = ⊎_elim
          (λ (same : k ≡ core).
          let worker : v ≡ z = same_Some v z (sym (get_set_same before.workers core w v is.call.steps.was) ∙ ap (slice_get then_weave.workers) (sym same) ∙ at_z) in
          let runs_are : runs ++ new ≡ all = same_Some (runs ++ new) all (sym (get_set_same by_core core runs (runs ++ new) runs_there) ∙ ap (slice_get (slice_set by_core core (runs ++ new))) (sym same) ∙ at_all) in
          let here = did_same before.setup core st.after (λ c. st.suits.by_shard (shard_of before.setup c)) v (runs ++ new) (λ c. sym (st.suits.is c)) st.did in
          subst (λ j. CoreDid before.setup j (λ c. st.suits.by_shard (shard_of before.setup c)) z all) (sym same)
          (subst (λ u. CoreDid before.setup core (λ c. st.suits.by_shard (shard_of before.setup c)) u all) worker
          (subst (λ l. CoreDid before.setup core (λ c. st.suits.by_shard (shard_of before.setup c)) v l) runs_are here)))
          (λ (ne : k ≡ core → ⊥).
          let was_z : slice_get before.workers k ≡ Some z = sym (get_set_other before.workers core k v ne) ∙ at_z in
          let was_all : slice_get by_core k ≡ Some all = sym (get_set_other by_core core k (runs ++ new) ne) ∙ at_all in
          did_others before.setup k seen (λ c. st.suits.by_shard (shard_of before.setup c)) z all (λ c. st.suits.grew (shard_of before.setup c) k ne) (did.did k z all was_z was_all))
          (cases_eq k core)

      -- what another pass noted is as it was
      others_stay : (number k : ℕ) → (k ≡ core → ⊥) → notes_by k (st.suits.by_shard number) ≡ notes_by k (notes number)
      others_stay number k ne = let grew = st.suits.grew number k ne in ap (notes_by k) grew.1 ∙ by_others k (notes number) grew.0 grew.2

      weave_told : WeaveTold t fits y app given posted then_weave st.suits.by_shard (slice_set by_core core (runs ++ new))
      weave_told = record {
        shard = st.suits.shard;
        cores = length-set by_core core (runs ++ new) ∙ told.cores;
        told = then_told;
        posts = λ c. ap (λ l. loaded_of l c) (others_stay (shard_of before.setup c) (shape_of before.setup).cores (λ same. let low = is.call.there in omega (arith, same, low))) ∙ told.posts c;
        no_other = λ number k high. others_stay number k (λ same. let low = is.call.there in omega (arith, same, low, high)) ∙ told.no_other number k high;
      }

      weave_did : WeaveDid then_weave st.suits.by_shard (slice_set by_core core (runs ++ new))
      weave_did = record { rise = st.suits.rise; did = then_did }

    step_told : IsTold t fits y app given posted after
    step_told =
        let then_by_core = slice_set by_core core (runs ++ new) in (
          stepped.suits.by_shard,
          then_by_core,
          subst (λ (z : WeaveState S P). WeaveTold t fits y app given posted z stepped.suits.by_shard then_by_core) (sym after_is) (weave_told stepped),
          subst (λ (z : WeaveState S P). WeaveDid z stepped.suits.by_shard then_by_core) (sym after_is) (weave_did stepped),
        )

  -- over a step
  pub told_step_of : (before after : WeaveState S P) (core : ℕ) (made : Made) → StandsWell t fits before → StepsWell t fits y app before core made after → IsTold t fits y app given posted before → IsTold t fits y app given posted after
  told_step_of before after core made well is (notes, by_core, told, did) = step_told before after core made well is notes by_core told did

  -- over a run of a schedule
  pub told_run_of : (before after : WeaveState S P) (cores : List ℕ) (went : Went) → StandsWell t fits before → RunsTo t fits y app before cores went after → IsTold t fits y app given posted before → IsTold t fits y app given posted after
  told_run_of before after cores went well runs is = (carry_run t fits y app (IsTold t fits y app given posted) told_step_of before after cores went runs (well, is)).1

  -- over a drain
  pub told_drain_of : (before after : WeaveState S P) (drained : Drained) → StandsWell t fits before → Drains t fits y app before drained after → IsTold t fits y app given posted before → IsTold t fits y app given posted after
  told_drain_of before after drained well drains is = (carry_drain t fits y app (IsTold t fits y app given posted) told_step_of before after drained drains (well, is)).1
