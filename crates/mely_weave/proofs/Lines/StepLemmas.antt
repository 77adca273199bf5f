-- What one step keeps: the forms that its lines have in common.
use Rattle.std.proofs.Common.{◌≡◌, ℕ, List, Option, Some, refl, sym, ◌∙◌, ap, subst, arith, ⊎_elim}
use Rattle.std.proofs.lemmas.Bool.{cases_eq}
use Rattle.std.proofs.lemmas.List.{length-set}
use Rattle.std.proofs.lemmas.Option.{same_Some}
use Rattle.std.specs.Prelude.{slice_get, slice_set}
use Rattle.mely_event.specs.declared.colour.Colour.{Colour}
use Rattle.mely_event.specs.declared.event.Event.{Event}
use Rattle.mely_event.specs.declared.trail.Trail.{Ghosts as TrailWords}
use Rattle.mely_history.specs.declared.setup.Setup.{Setup}
use Rattle.mely_history.specs.declared.entry.Entry.{Entry}
use Rattle.mely_history.specs.Entries.{colour_of}
use Rattle.mely_history.specs.Legal.{IsRunningOn}
use Rattle.mely_history.specs.ColourAccount.{account_of}
use Rattle.mely_history.proofs.LegalAccountLemmas.{same_colour}
use Rattle.mely_shard.specs.Shard.{ShardState}
use Rattle.mely_core.specs.CoreQueue.{CoreQueueState}
use Rattle.mely_worker.specs.declared.phase.Phase.{Phase}
use Rattle.mely_worker.specs.declared.phase.Phase.TheVariants.{Free, Popped, Picked, Landing, Pushing, Turning}
use Rattle.mely_worker.specs.declared.delivery.Delivery.{Delivery}
use Rattle.mely_worker.specs.declared.delivery.Delivery.TheVariants.{Nothing, PushMark, Report}
use Rattle.mely_worker.specs.Worker.{WorkerState}
use Rattle.mely_worker.specs.Conditions.{MayStep, PhaseMayStep}
use Rattle.mely_weave.specs.Side.{SideState, Readiness, readiness_of, history_for, readiness_for}
use Rattle.mely_weave.specs.Marks.{MarksStand, marks_in_system}
use Rattle.mely_weave.specs.Hands.{held_by, colour_run_by}
use Rattle.mely_weave.specs.Calls.{IsOut}
use Rattle.mely_weave.specs.SideStands.{SideStands}
use Rattle.mely_weave.specs.StandsWell.{side_of, ReportIsTold, PhaseIsTold, IsTurningOn, WorkerStands, StandsWell}
use Rattle.mely_weave.specs.Weave.{WeaveState}
use Rattle.mely_weave.proofs.Entries.EntryLemmas.{Adds}
use Rattle.mely_weave.proofs.Entries.EffectLemmas.{IsOnward, RunsOn, IsFinishBy, IsTakeBy, onward, ran_before}
use Rattle.mely_weave.proofs.Marks.MarkLemmas.{IsGrown, stand_grown}
use Rattle.mely_weave.proofs.Entries.SideLemmas.{get_set_same, get_set_other}
use Rattle.mely_weave.proofs.Entries.CallLemmas.{still_out, still_out_same}

-- what each other element has, and the new one has, each has
pub others_set : {A : Type 0} (Has : ℕ → A → Type 0) (xs : List A) (i : ℕ) (old new : A) → slice_get xs i ≡ Some old → ((k : ℕ) (x : A) → (k ≡ i → ⊥) → slice_get xs k ≡ Some x → Has k x) → Has i new → (k : ℕ) (x : A) → slice_get (slice_set xs i new) k ≡ Some x → Has k x
others_set Has xs i old new there all is k x at = ⊎_elim
    (λ (same : k ≡ i).
    let now : Some new ≡ Some x = sym (get_set_same xs i old new there) ∙ sym (ap (slice_get (slice_set xs i new)) same) ∙ at in
    subst (λ (n : ℕ). Has n x) (sym same) (subst (Has i) (same_Some new x now) is))
    (λ (apart : k ≡ i → ⊥). all k x apart (sym (get_set_other xs i k new apart) ∙ at))
    (cases_eq k i)

-- a report that is told stays told
report_onward : (of of' : Colour → Readiness) → ((d : Colour) → IsOnward (of d) (of' d)) → (hand : Delivery) → ReportIsTold of hand → ReportIsTold of' hand
report_onward of of' on Nothing told = tt
report_onward of of' on (PushMark core mark) told = tt
report_onward of of' on (Report core colour started worth) told =
    let less = (on colour).begun in
    let at_most = told.0 in (
      omega (arith, less, at_most),
      λ e.
          let same : started ≡ (of colour).begun = omega (arith, e, less, at_most) in
          let more = (on colour).worth (omega (arith, e, same)) in
          let was = told.1 same in
          omega (arith, more, was),
    )

pub phase_onward : {S P : Type 0} (setup : Setup) (of of' : Colour → Readiness) (core : ℕ) → ((d : Colour) → IsOnward (of d) (of' d)) → (phase : Phase S P) → PhaseIsTold setup of core phase → PhaseIsTold setup of' core phase
phase_onward setup of of' core on (Free place) told = tt
phase_onward setup of of' core on (Popped mark) told = tt
phase_onward setup of of' core on (Picked mark victim) told = told
phase_onward setup of of' core on (Landing mark) told = tt
phase_onward setup of of' core on (Pushing to mark) told = tt
phase_onward setup of of' core on (Turning turn hand puts) told = (told.0, report_onward of of' on hand told.1)

-- a worker of a core may still step where the finish of a turn of this core is still owed
pub phase_may : {S P F : Type 0} (t : TrailWords S F) (fits : F → Colour → Event → Option P → Type 0) (setup : Setup) (of : Colour → Readiness) (core : ℕ) (frame : F) (owes owes' : Colour → ℕ → ℕ → List Event → Type 0)
    → ((d : Colour) (k count : ℕ) (trail : List Event) → k ≡ core → owes d k count trail → owes' d k count trail) → (phase : Phase S P) → PhaseIsTold setup of core phase → PhaseMayStep t fits setup core frame owes phase → PhaseMayStep t fits setup core frame owes' phase
phase_may t fits setup of core frame owes owes' still (Free place) told may = tt
phase_may t fits setup of core frame owes owes' still (Popped mark) told may = may
phase_may t fits setup of core frame owes owes' still (Picked mark victim) told may = may
phase_may t fits setup of core frame owes owes' still (Landing mark) told may = may
phase_may t fits setup of core frame owes owes' still (Pushing to mark) told may = may
phase_may t fits setup of core frame owes owes' still (Turning turn hand puts) told may = record {
  of_turn = record {
    of_setup = may.of_turn.of_setup;
    of_colour = may.of_turn.of_colour;
    of_frame = may.of_turn.of_frame;
    events_fit = may.of_turn.events_fit;
    owed = still turn.colour turn.core turn.count _ told.0 may.of_turn.owed;
  };
  in_hand = may.in_hand;
  of_puts = may.of_puts;
}

module _ {S P F : Type 0} (t : TrailWords S F) (fits : F → Colour → Event → Option P → Type 0) (weave : WeaveState S P) (well : StandsWell t fits weave) (k : ℕ) (w : WorkerState S P) (here : slice_get weave.workers k ≡ Some w) where
  abbrev side : List (ShardState S P) → List CoreQueueState → SideState S P
  side shards chains = record { setup = weave.setup; core = k; given = weave.given; shards = shards; chains = chains }

  abbrev h : List (ShardState S P) → Colour → List Entry
  h shards = history_for weave.setup shards

  abbrev of : List (ShardState S P) → Colour → Readiness
  of shards = readiness_for weave.setup shards

  -- what a step that leaves these shards, these chains and this worker keeps
  pub record KeptBy (shards : List (ShardState S P)) (chains : List CoreQueueState) (v : WorkerState S P) : Type 0 where
    pub marks : MarksStand (of shards) (marks_in_system held_by chains (slice_set weave.workers k v))
    pub told : PhaseIsTold weave.setup (of shards) k v.phase
    pub led : (d : Colour) → IsOnward (of weave.shards d) (of shards d)
    pub owed : (d : Colour) (core count : ℕ) (trail : List Event) → (core ≡ k → ⊥) → IsOut (side_of weave k) d core count trail → IsOut (side shards chains) d core count trail
    pub running : (c : Colour) (core count : ℕ) → IsRunningOn (h shards c) c core count → IsTurningOn (slice_set weave.workers k v) core c
    pub victims : v.victims ≡ w.victims

  -- a worker that turns, turns when another steps, or when it steps and turns on
  pub turning_stays : (v : WorkerState S P) (core : ℕ) (c : Colour) → (core ≡ k → colour_run_by w ≡ Some c → colour_run_by v ≡ Some c) → IsTurningOn weave.workers core c → IsTurningOn (slice_set weave.workers k v) core c
  turning_stays v core c onward is = ⊎_elim
      (λ (same : core ≡ k).
      let that : is.worker ≡ w = same_Some is.worker w (sym is.there ∙ ap (slice_get weave.workers) same ∙ here) in
      record {
        worker = v;
        there = ap (slice_get (slice_set weave.workers k v)) same ∙ get_set_same weave.workers k w v here;
        turning = onward same (ap colour_run_by (sym that) ∙ is.turning);
      })
      (λ (apart : core ≡ k → ⊥). record { worker = is.worker; there = get_set_other weave.workers k core v apart ∙ is.there; turning = is.turning })
      (cases_eq core k)

  -- the worker that stepped turns
  turning_now : (v : WorkerState S P) (core : ℕ) (c : Colour) → core ≡ k → colour_run_by v ≡ Some c → IsTurningOn (slice_set weave.workers k v) core c
  turning_now v core c same turning = record { worker = v; there = ap (slice_get (slice_set weave.workers k v)) same ∙ get_set_same weave.workers k w v here; turning = turning }

  -- each colour's history is as it was
  pub same_keeps : (shards : List (ShardState S P)) (chains : List CoreQueueState) (v : WorkerState S P) → ((d : Colour) → h shards d ≡ h weave.shards d) → v.victims ≡ w.victims → colour_run_by v ≡ colour_run_by w
      → PhaseIsTold weave.setup (of weave.shards) k v.phase → MarksStand (of weave.shards) (marks_in_system held_by chains (slice_set weave.workers k v)) → KeptBy shards chains v
  same_keeps shards chains v same victims colour told marks =
      let readies : (d : Colour) → of weave.shards d ≡ of shards d = λ d. ap (λ (l : List Entry). readiness_of weave.setup (account_of weave.setup l d)) (sym (same d)) in
      let led : (d : Colour) → IsOnward (of weave.shards d) (of shards d) = λ d. subst (IsOnward (of weave.shards d)) (readies d) (record { begun = omega arith; worth = λ _. omega arith }) in
      record {
        marks = stand_grown (of weave.shards) (of shards) (marks_in_system held_by chains (slice_set weave.workers k v)) (λ d. subst (IsGrown (of weave.shards d)) (readies d) (record { ready = refl; owner = refl; begun = refl; worth = omega arith })) marks;
        told = phase_onward weave.setup (of weave.shards) (of shards) k led v.phase told;
        led = led;
        owed = λ d core count trail _ out. still_out_same (side_of weave k) (side shards chains) refl same d core count trail out;
        running = λ c core count runs. turning_stays v core c (λ _ was. colour ∙ was) (well.running c core count (subst (λ (l : List Entry). IsRunningOn l c core count) (same c) runs));
        victims = victims;
      }

  -- an entry more
  pub entry_keeps : (shards : List (ShardState S P)) (chains : List CoreQueueState) (v : WorkerState S P) (entry : Entry) → Adds weave.setup (h weave.shards) (h shards) entry → v.victims ≡ w.victims
      → ((core : ℕ) → IsFinishBy core entry → core ≡ k)
      → ((d : Colour) → colour_run_by w ≡ Some d → (d.0 ≡ (colour_of entry).0 → IsFinishBy k entry → ⊥) → colour_run_by v ≡ Some d)
      → ((core : ℕ) → IsTakeBy core entry → (core ≡ k) × (colour_run_by v ≡ Some (colour_of entry)))
      → PhaseIsTold weave.setup (of shards) k v.phase → MarksStand (of shards) (marks_in_system held_by chains (slice_set weave.workers k v)) → KeptBy shards chains v
  entry_keeps shards chains v entry adds victims finish turn_on take_on told marks = record {
    marks = marks;
    told = told;
    led = onward weave.setup (h weave.shards) (h shards) entry adds;
    owed = λ d core count trail other out. still_out (side_of weave k) (side shards chains) entry refl adds d core count trail (λ _ fin. other (finish core fin)) out;
    running = λ c core count runs. ⊎_elim
        (λ (before : RunsOn (account_of weave.setup (h weave.shards c) c) core count × (c.0 ≡ (colour_of entry).0 → IsFinishBy core entry → ⊥)).
        turning_stays v core c (λ same was. turn_on c was (λ e fin. before.1 e (subst (λ (n : ℕ). IsFinishBy n entry) (sym same) fin))) (well.running c core count (record { running = before.0.running; last = before.0.last })))
        (λ (now : (c.0 ≡ (colour_of entry).0) × IsTakeBy core entry).
        let is = take_on core now.1 in
        turning_now v core c is.0 (is.1 ∙ ap (λ (d : Colour). Some d) (sym (same_colour c (colour_of entry) now.0))))
        (ran_before weave.setup (h weave.shards) (h shards) entry adds core count c (record { running = runs.running; last = runs.last }));
    victims = victims;
  }

  -- what a step keeps keeps all standing well
  pub well_after : (shards : List (ShardState S P)) (chains : List CoreQueueState) (v : WorkerState S P) → KeptBy shards chains v → SideStands t fits (side shards chains) → MayStep t fits weave.setup k (t.frame_of weave.given) (IsOut (side shards chains)) v
      → StandsWell t fits (record { setup = weave.setup; given = weave.given; shards = shards; chains = chains; workers = slice_set weave.workers k v })
  well_after shards chains v kept stands may =
      let after : WeaveState S P = record { setup = weave.setup; given = weave.given; shards = shards; chains = chains; workers = slice_set weave.workers k v } in
      let was : WorkerStands t fits weave k w = well.worker k w here in
      record {
        shards = stands.shards;
        shard = stands.shard;
        chains = stands.chains;
        chain = stands.chain;
        marks = kept.marks;
        workers = length-set weave.workers k v ∙ well.workers;
        worker = others_set (WorkerStands t fits after) weave.workers k w v here
            (λ j x apart at.
            let is : WorkerStands t fits weave j x = well.worker j x at in
            record {
              may = record {
                own_core = is.may.own_core;
                core = is.may.core;
                batch = is.may.batch;
                victims = is.may.victims;
                phase = phase_may t fits weave.setup (of weave.shards) j (t.frame_of weave.given) (IsOut (side_of weave j)) (IsOut (side_of after j))
                    (λ d core count trail same out.
                    let still : IsOut (side shards chains) d core count trail = kept.owed d core count trail (λ e. apart (sym same ∙ e)) (record { colour = out.colour; runs = out.runs; trailed = out.trailed }) in
                    record { colour = still.colour; runs = still.runs; trailed = still.trailed })
                    x.phase is.told is.may.phase;
                lost = is.may.lost;
              };
              victims = is.victims;
              told = phase_onward weave.setup (of weave.shards) (of shards) j kept.led x.phase is.told;
            })
            (record { may = may; victims = kept.victims ∙ was.victims; told = kept.told });
        running = kept.running;
      }
