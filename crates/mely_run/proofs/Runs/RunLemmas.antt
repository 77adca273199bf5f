-- Steps, runs and drains of a weave are the machine's, where its app is told by a function.
use Rattle.std.proofs.Common.{◌≡◌, ◌≢◌, ◌<◌, ℕ, zero, suc, true, false, ◌&&◌, List, [], ◌∷◌, map, arith, refl, sym, ap, subst, ◌∙◌, inl, inr, Bool, ◌≤◌, Option}
use Rattle.std.specs.Prelude.{slice_get, slice_set}
use Rattle.std.specs.List.{list_all}
use Rattle.std.proofs.lemmas.Bool.{cases_Bool, cases_eq}
use Rattle.std.proofs.lemmas.Option.{slice_get_within}
use Rattle.std.proofs.lemmas.List.Elements.{All-head, All-tail}
use Rattle.mely_event.specs.declared.colour.Colour.{Colour}
use Rattle.mely_event.specs.declared.event.Event.{Event}
use Rattle.mely_event.specs.declared.trail.Trail.{Ghosts as TrailWords}
use Rattle.mely_history.specs.Setup.{shape_of}
use Rattle.mely_worker.specs.declared.phase.Phase.{Phase}
use Rattle.mely_worker.specs.declared.phase.Phase.TheVariants as at
use Rattle.mely_worker.specs.declared.made.Made.{Made}
use Rattle.mely_worker.specs.declared.made.Made.TheVariants as names
use Rattle.mely_worker.specs.declared.app.App.{Ghosts as AppWords}
use Rattle.mely_worker.specs.Phase.{is_free as is_free_phase}
use Rattle.mely_weave.specs.StandsWell.{StandsWell}
use Rattle.mely_weave.specs.Weave.{WeaveState}
use Rattle.mely_weave.specs.Steps.{with_workers}
use Rattle.mely_weave.specs.declared.running.Went.TheVariants as went
use Rattle.mely_weave.specs.Runs.{CoreStep, NoneMetWant, StepsWell, Makes, RunsTo as RunsOver}
use Rattle.mely_weave.specs.Drains.{IsQuiet, NoneHalted, MakesRound, Rounds}
use Rattle.mely_weave.proofs.Entries.SideLemmas.{get_map}
use Rattle.mely_weave.proofs.Runs.RunLemmas.{well_same}
use Rattle.mely_machine.specs.Rules.{Rules, rules_of}
use Rattle.mely_machine.specs.Listing.{Listed}
use Rattle.mely_machine.specs.Machine.{Acts, Doing, Machine}
use Rattle.mely_machine.specs.MachineStep.{step}
use Rattle.mely_machine.specs.MachineRun.{is_free, is_empty, is_quiet, steps, round, rounds, DrainsTo}
use Rattle.mely_run.specs.Corresponds.{worker_doing, doing_of, listed_mark, Corresponds}
use Rattle.mely_run.specs.Pieces.{Piece, pieces, IsTold}
use Rattle.mely_run.proofs.Lists.ElementsLemmas.{all_from, and_true, all_at, map_nothing, get_map_back, there_of}
use Rattle.mely_run.proofs.Pieces.ChangesLemmas.{how_spoilt, stays_spoilt, change_told}
use Rattle.mely_run.proofs.Runs.StepLemmas.{StepGoes, step_goes}
use Rattle.mely_run.proofs.Runs.WantLemmas.{makes_no_want}

-- ---- what is left to do

free_is : {S P : Type 0} (phase : Phase S P) → is_free (doing_of phase) ≡ is_free_phase phase
free_is (at.Free place) = refl
free_is (at.Popped mark) = refl
free_is (at.Picked mark victim) = refl
free_is (at.Landing mark) = refl
free_is (at.Pushing to mark) = refl
free_is (at.Turning turn hand puts) = refl

empty_is : (list : List Listed) → is_empty list ≡ true → list ≡ []
empty_is [] h = refl
empty_is (l ∷ list) h = cc

module _ {S P X : Type 0} (weave : WeaveState S P) (m : Machine X) (is : Corresponds weave m) where
  quiet_is : IsQuiet weave → is_quiet m ≡ true
  quiet_is quiet =
      let free : list_all is_free m.workers ≡ true = ap (list_all is_free) is.workers ∙ all_from is_free (map worker_doing weave.workers)
      (λ i d there. let w = get_map_back worker_doing weave.workers i d there in ap is_free (sym w.2) ∙ free_is w.0.phase ∙ quiet.free i w.0 w.1) in
      let empty : list_all is_empty m.lists ≡ true = all_from is_empty m.lists
      (λ core list there.
      let low = slice_get_within m.lists core list there in
      let many = is.shown.many in
      let queue = there_of weave.chains core (omega (arith, low, many)) in
      let listed_is = is.shown.each core queue.0 list queue.1 there in
      ap is_empty (listed_is.marks ∙ ap (map (listed_mark listed_is.since)) (quiet.empty core queue.0 queue.1))) in
      ap (λ b. b && list_all is_empty m.lists) free ∙ empty

  is_quiet_then : is_quiet m ≡ true → IsQuiet weave
  is_quiet_then h =
      let both = and_true (list_all is_free m.workers) (list_all is_empty m.lists) h in
      record {
        free = λ core w there. sym (free_is w.phase) ∙ all_at is_free m.workers both.0 core (worker_doing w) (ap (λ (ws : List Doing). slice_get ws core) is.workers ∙ get_map worker_doing weave.workers core w there);
        empty = λ core queue there.
            let low = slice_get_within weave.chains core queue there in
            let many = is.shown.many in
            let list = there_of m.lists core (omega (arith, low, many)) in
            let listed_is = is.shown.each core queue list.0 there list.1 in
            map_nothing (listed_mark listed_is.since) queue.chain (sym listed_is.marks ∙ empty_is list.0 (all_at is_empty m.lists both.1 core list.0 list.1));
      }

  busy_is : (IsQuiet weave → ⊥) → is_quiet m ≡ false
  busy_is busy = elim (cases_Bool (is_quiet m)) [ inl t ↦ absurd (busy (is_quiet_then t)) | inr f ↦ f ]

-- ---- an app that is told by a function, in a weave

module _ {S P F R X : Type 0} (t : TrailWords S F) (fits : F → Colour → Event → Option P → Type 0) (y : AppWords R P S F) (app : R) (frame : F) (act : Acts X) (Agrees : X → List (Piece S P) → Type 0) (spoilt : S → Bool) (is_told : IsTold t fits y app frame act Agrees spoilt) (rules : Rules) where
  -- a weave stands, with this frame and these rules, and none of its workers is halted
  pub record Ready (weave : WeaveState S P) : Type 0 where
    pub well : StandsWell t fits weave
    pub framed : t.frame_of weave.given ≡ frame
    pub ruled : rules_of weave.setup ≡ rules
    pub going : NoneHalted weave

  -- a weave and a machine are one: they correspond, and what the app has in the weave agrees with
  -- what it is in the machine
  pub record AreOne (weave : WeaveState S P) (m : Machine X) : Type 0 where
    pub corresponds : Corresponds weave m
    pub agrees : Agrees m.app (pieces weave)

  -- a weave is ready, and where none of its states is spoilt it is one with the machine
  pub record Stands (weave : WeaveState S P) (m : Machine X) : Type 0 where
    pub ready : Ready weave
    pub one : how_spoilt spoilt (pieces weave) ≡ 0 → AreOne weave m

  -- so it is after steps, and no fewer states are spoilt
  pub record GoesOn (before after : WeaveState S P) (n : Machine X) : Type 0 where
    pub stands : Stands after n
    pub spoils : how_spoilt spoilt (pieces before) ≤ how_spoilt spoilt (pieces after)

  step_on : (weave after : WeaveState S P) (core : ℕ) (made : Made) (m : Machine X) → Stands weave m → StepsWell t fits y app weave core made after → made ≢ names.Memory → GoesOn weave after (step rules act core m)
  step_on weave after core made m is steps no_want =
      let ready = is.ready in
      let s = steps.call.steps in
      let same = well_same t fits y app weave after core made steps in
      let low : core < (shape_of weave.setup).cores = let within = slice_get_within weave.workers core s.worker s.was in let many = ready.well.workers in omega (arith, within, many) in
      let Goes : WeaveState S P → Machine X → Type 0 = StepGoes t fits weave ready.well core s.worker s.was low ready.going m y app act made s.side s.becomes steps.accepted no_want in
      let goes : Goes (with_workers s.side (slice_set weave.workers core s.becomes)) (step (rules_of weave.setup) act core m) =
      step_goes t fits weave ready.well core s.worker s.was low ready.going m y app act made s.side s.becomes steps.accepted no_want s.steps in
      let there : Goes after (step rules act core m) = subst (λ (l : WeaveState S P). Goes l (step rules act core m)) (sym s.leaves) (subst (λ (r : Rules). Goes (with_workers s.side (slice_set weave.workers core s.becomes)) (step r act core m)) ready.ruled goes) in
      let told_there : IsTold t fits y app (t.frame_of weave.given) act Agrees spoilt = subst (λ (f : F). IsTold t fits y app f act Agrees spoilt) (sym ready.framed) is_told in
      let more = stays_spoilt t fits y app (t.frame_of weave.given) act Agrees spoilt told_there (pieces weave) (pieces after) there.change in
      record {
        stands = record {
          ready = record {
            well = steps.stands;
            framed = ap t.frame_of same.given ∙ ready.framed;
            ruled = ap rules_of same.setup ∙ ready.ruled;
            going = there.going;
          };
          one = λ none.
              let was = is.one (omega (arith, none, more)) in
              let now = change_told t fits y app (t.frame_of weave.given) act Agrees spoilt told_there (pieces weave) (pieces after) m.app there.change none was.agrees in
              record {
                corresponds = there.corresponds was.corresponds now.0;
                agrees = subst (λ (x : X). Agrees x (pieces after)) (sym (there.becomes was.corresponds)) now.1;
              };
        };
        spoils = more;
      }

  makes_on : (made : List CoreStep) (weave after : WeaveState S P) (m : Machine X) → Stands weave m → Makes t fits y app made weave after → NoneMetWant made → GoesOn weave after (steps rules act (map (λ s. s.0) made) m)
  unfolding Makes steps
  makes_on [] weave after m is makes none = subst (λ (l : WeaveState S P). GoesOn weave l m) (sym makes) (record { stands = is; spoils = omega arith })
  makes_on (one ∷ made) weave after m is makes none =
      let first = step_on weave makes.0 one.0 one.1 m is makes.1 (All-head (λ s. s.1 ≢ names.Memory) one made none) in
      let later = makes_on made makes.0 after (step rules act one.0 m) first.stands makes.2 (All-tail (λ s. s.1 ≢ names.Memory) one made none) in
      let a = first.spoils in
      let b = later.spoils in
      record { stands = later.stands; spoils = omega (arith, a, b) }

  -- a run of a schedule to its end
  pub run_on : (cores : List ℕ) (weave after : WeaveState S P) (m : Machine X) → Stands weave m → RunsOver t fits y app weave cores went.All after → GoesOn weave after (steps rules act cores m)
  run_on cores weave after m is runs =
      subst (λ (cs : List ℕ). GoesOn weave after (steps rules act cs m)) runs.goes.0 (makes_on runs.steps weave after m is runs.makes runs.goes.1)

  round_on : (weave after : WeaveState S P) (m : Machine X) → Stands weave m → NoneHalted after → MakesRound t fits y app rules.shape.cores weave after → GoesOn weave after (round rules act m)
  round_on weave after m is none makes =
      subst (λ (cs : List ℕ). GoesOn weave after (steps rules act cs m)) makes.ascending
      (makes_on makes.steps weave after m is makes.makes (makes_no_want t fits y app makes.steps weave after makes.makes none))

  -- rounds, before each of which something was left to do, where no state is spoilt after them
  pub record DrainOn (n : ℕ) (weave after : WeaveState S P) (m : Machine X) : Type 0 where
    pub on : GoesOn weave after (rounds rules act n m)
    pub busy : how_spoilt spoilt (pieces after) ≡ 0 → (k : ℕ) → k < n → is_quiet (rounds rules act k m) ≡ false

  pub rounds_on : (n : ℕ) (weave after : WeaveState S P) (m : Machine X) → Stands weave m → Rounds t fits y app n weave after → NoneHalted after → DrainOn n weave after m
  unfolding Rounds rounds
  rounds_on zero weave after m is made none = record {
    on = subst (λ (l : WeaveState S P). GoesOn weave l m) (sym made) (record { stands = is; spoils = omega arith });
    busy = λ fine k low. absurd (omega (arith, low));
  }
  rounds_on (suc n) weave after m is made none =
      let between = made.0 in
      let before = rounds_on n weave between m is made.1 made.2 in
      let cores : (shape_of weave.setup).cores ≡ rules.shape.cores = ap (λ (r : Rules). r.shape.cores) is.ready.ruled in
      let last = round_on between after (rounds rules act n m) before.on.stands none (subst (λ (c : ℕ). MakesRound t fits y app c between after) cores made.4) in
      let a = before.on.spoils in
      let b = last.spoils in
      record {
        on = record { stands = last.stands; spoils = omega (arith, a, b) };
        busy = λ fine k low.
            let fine_before : how_spoilt spoilt (pieces between) ≡ 0 = omega (arith, fine, b) in
            elim (cases_eq k n) [
              | inl e ↦ subst (λ (j : ℕ). is_quiet (rounds rules act j m) ≡ false) (sym e) (busy_is between (rounds rules act n m) (before.on.stands.one fine_before).corresponds made.3)
              | inr apart ↦ before.busy fine_before k (let ne = apart in omega (arith, low, ne))
            ];
      }

  -- a drain to its end, where no state is spoilt then
  pub drain_is : (n : ℕ) (weave after : WeaveState S P) (m : Machine X) → Stands weave m → Rounds t fits y app n weave after → NoneHalted after → IsQuiet after → how_spoilt spoilt (pieces after) ≡ 0 → DrainsTo rules act m (rounds rules act n m)
  drain_is n weave after m is made none quiet fine =
      let end = rounds_on n weave after m is made none in
      record { count = n; busy = end.busy fine; last = refl; quiet = quiet_is after (rounds rules act n m) (end.on.stands.one fine).corresponds quiet }
