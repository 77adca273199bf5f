-- Rounds, and workers that are driven until they are free.
use Rattle.std.proofs.Common.{◌≡◌, ◌≢◌, ℕ, zero, suc, ◌+◌, ◌≤◌, ◌<◌, Bool, true, false, List, [], ◌∷◌, ◌++◌, Option, Some, None, map, length, refl, sym, ◌∙◌, ap, subst, arith, ⊎_elim}
use Rattle.std.proofs.lemmas.Bool.{cases_eq}
use Rattle.std.proofs.lemmas.List.{map-append}
use Rattle.std.proofs.lemmas.List.FromFn.{map-range_with_len_more}
use Rattle.std.proofs.lemmas.Option.{same_Some}
use Rattle.std.specs.List.{range_with_len}
use Rattle.std.specs.Prelude.{slice_get}
use Rattle.mely_event.specs.declared.colour.Colour.{Colour}
use Rattle.mely_event.specs.declared.event.Event.{Event}
use Rattle.mely_event.specs.declared.trail.Trail.{Ghosts as TrailWords}
use Rattle.mely_history.specs.Setup.{shape_of}
use Rattle.mely_worker.specs.declared.made.Made.{Made}
use Rattle.mely_worker.specs.declared.app.App.{Ghosts as AppWords}
use Rattle.mely_worker.specs.Phase.{is_free}
use Rattle.mely_worker.specs.Worker.{WorkerState}
use Rattle.mely_weave.proofs.Runs.SidedStepLemmas.{step_on_side}
use Rattle.mely_weave.specs.StandsWell.{side_of, StandsWell}
use Rattle.mely_weave.specs.Weave.{WeaveState}
use Rattle.mely_weave.specs.Runs.{KeepsSetup, CoreStep, StepsWell}
use Rattle.std.proofs.lemmas.Bool.{cases_lt, true≢false}
use Rattle.std.proofs.Math.ListN.{drop_of_length-le}
use Rattle.std.specs.Prelude.{◌%◌, count_by, flat_map}
use Rattle.mely_event.specs.declared.mark.Mark.{Mark}
use Rattle.mely_history.specs.declared.setup.Setup.{Setup}
use Rattle.mely_history.specs.declared.entry.Entry.{Entry}
use Rattle.mely_history.specs.Legal.{IsLegal, IsDrainedOf}
use Rattle.mely_history.specs.ColourAccount.{ColourAccount, account_of}
use Rattle.mely_history.proofs.LegalAccountLemmas.{IsOnTurn, sound}
use Rattle.mely_shard.proofs.DrainedLemmas.{drained_everywhere}
use Rattle.mely_core.specs.CoreQueue.{CoreQueueState}
use Rattle.mely_worker.specs.declared.phase.Phase.{Phase}
use Rattle.mely_worker.specs.declared.phase.Phase.TheVariants.{Free, Popped, Picked, Landing, Pushing, Turning}
use Rattle.mely_weave.specs.Side.{shard_of, history_in, history_for, readiness_of}
use Rattle.mely_weave.specs.Marks.{Placed, in_chains, marks_in_system, is_of, bit}
use Rattle.mely_weave.specs.Hands.{held_in, held_by, colour_in, colour_run_by}
use Rattle.mely_weave.specs.StandsWell.{IsTurningOn}
use Rattle.mely_weave.proofs.Entries.EntryLemmas.{is_ready}
use Rattle.mely_weave.specs.Drains.{IsQuiet, HistoriesAreDrained, NoneHalted, AllFree, IsFreeAt, SomeHalted, MakesRound, Rounds, Drives, DrivesTo, AreDriven}
use Rattle.mely_weave.proofs.Entries.SideLemmas.{get_set_same, get_set_other}
use Rattle.mely_weave.proofs.Runs.RunLemmas.{same_onward, step_stays, well_same, makes_none, makes_one, makes_onward, makes_same}

-- what isn't true is false
pub isnt_true : (b : Bool) → (b ≡ true → false ≡ true) → b ≡ false
isnt_true true h = sym (h refl)
isnt_true false h = refl

place_within : {A : Type 0} (xs : List A) (k : ℕ) (w : A) → slice_get xs k ≡ Some w → k < length xs
place_within [] k w at = cc
place_within (x ∷ xs) zero w at = omega arith
place_within (x ∷ xs) (suc k) w at = let low = place_within xs k w at in omega (arith, low)

-- n numbers, and one more
map_itself : (xs : List ℕ) → map (λ x. x) xs ≡ xs
map_itself [] = refl
map_itself (x ∷ xs) = ap (λ l. x ∷ l) (map_itself xs)

cores_more : (n : ℕ) → range_with_len 0 (n + 1) ≡ range_with_len 0 n ++ n ∷ []
cores_more n = sym (map_itself (range_with_len 0 (n + 1))) ∙ map-range_with_len_more (λ x. x) 0 n n (omega arith) ∙ ap (λ l. l ++ n ∷ []) (map_itself (range_with_len 0 n))

module _ {R S P F : Type 0} (t : TrailWords S F) (fits : F → Colour → Event → Option P → Type 0) (y : AppWords R P S F) (app : R) where
  abbrev core_of_step : CoreStep → ℕ
  core_of_step step = step.0

  -- the cores of a round, one after another
  pub round_none : (a : WeaveState S P) → MakesRound t fits y app 0 a a
  round_none a = record { steps = []; makes = makes_none t fits y app a; ascending = refl }

  pub round_more : (n : ℕ) (a b c : WeaveState S P) (step : Made) → MakesRound t fits y app n a b → StepsWell t fits y app b n step c → MakesRound t fits y app (n + 1) a c
  round_more n a b c step round is = record {
    steps = round.steps ++ (n, step) ∷ [];
    makes = makes_onward t fits y app round.steps ((n, step) ∷ []) a b c round.makes (makes_one t fits y app b c n step is);
    ascending = map-append core_of_step round.steps ((n, step) ∷ []) ∙ ap (λ l. l ++ n ∷ []) round.ascending ∙ sym (cores_more n);
  }

  pub round_same : (n : ℕ) (a b : WeaveState S P) → MakesRound t fits y app n a b → KeepsSetup a b
  round_same n a b round = makes_same t fits y app round.steps a b round.makes

  pub rounds_same : (n : ℕ) (a b : WeaveState S P) → Rounds t fits y app n a b → KeepsSetup a b
  unfolding Rounds
  rounds_same zero a b is = record { setup = ap (λ (l : WeaveState S P). l.setup) is; given = ap (λ (l : WeaveState S P). l.given) is }
  rounds_same (suc n) a b is = same_onward a is.0 b (rounds_same n a is.0 is.1) (round_same (shape_of a.setup).cores is.0 b is.4)

  pub rounds_none : (a : WeaveState S P) → Rounds t fits y app 0 a a
  unfolding Rounds
  rounds_none a = refl

  pub rounds_more : (n : ℕ) (a b c : WeaveState S P) → Rounds t fits y app n a b → NoneHalted b → (IsQuiet b → ⊥) → MakesRound t fits y app (shape_of b.setup).cores b c → Rounds t fits y app (suc n) a c
  unfolding Rounds
  rounds_more n a b c rounds none left round =
      (b, rounds, none, left, subst (λ (setup : Setup). MakesRound t fits y app (shape_of setup).cores b c) (rounds_same n a b rounds).setup round)

  -- the steps of one core
  pub drives_none : (core : ℕ) (a : WeaveState S P) → Drives t fits y app core 0 a a
  unfolding Drives
  drives_none core a = refl

  pub drives_more : (core n : ℕ) (a b c : WeaveState S P) (step : Made) → Drives t fits y app core n a b → IsFreeAt b core false → StepsWell t fits y app b core step c → Drives t fits y app core (suc n) a c
  unfolding Drives
  drives_more core n a b c step drives busy is = (b, drives, busy, (step, is))

  pub drives_same : (core n : ℕ) (a b : WeaveState S P) → Drives t fits y app core n a b → KeepsSetup a b
  unfolding Drives
  drives_same core zero a b is = record { setup = ap (λ (l : WeaveState S P). l.setup) is; given = ap (λ (l : WeaveState S P). l.given) is }
  drives_same core (suc n) a b is = same_onward a is.0 b (drives_same core n a is.0 is.1) (well_same t fits y app is.0 b core is.3.0 is.3.1)

  pub driven_none : (a : WeaveState S P) → AreDriven t fits y app 0 a a
  unfolding AreDriven
  driven_none a = refl

  pub driven_more : (core : ℕ) (a b c : WeaveState S P) → AreDriven t fits y app core a b → DrivesTo t fits y app core b c → AreDriven t fits y app (suc core) a c
  unfolding AreDriven
  driven_more core a b c one next = (b, one, next)

  pub driven_same : (core : ℕ) (a b : WeaveState S P) → AreDriven t fits y app core a b → KeepsSetup a b
  unfolding AreDriven
  driven_same zero a b is = record { setup = ap (λ (l : WeaveState S P). l.setup) is; given = ap (λ (l : WeaveState S P). l.given) is }
  driven_same (suc core) a b is = same_onward a is.0 b (driven_same core a is.0 is.1) (drives_same core is.2.count is.0 b is.2.drives)

  -- a worker of another core is as it was
  others_stay : (core k : ℕ) (step : Made) (a b : WeaveState S P) → k ≢ core → StepsWell t fits y app a core step b → slice_get b.workers k ≡ slice_get a.workers k
  others_stay core k step a b apart is = ap (λ (l : WeaveState S P). slice_get l.workers k) is.call.steps.leaves ∙ get_set_other a.workers core k is.call.steps.becomes apart

  drives_others : (core n k : ℕ) (a b : WeaveState S P) → k ≢ core → Drives t fits y app core n a b → slice_get b.workers k ≡ slice_get a.workers k
  unfolding Drives
  drives_others core zero k a b apart is = ap (λ (l : WeaveState S P). slice_get l.workers k) is
  drives_others core (suc n) k a b apart is = others_stay core k is.3.0 is.0 b apart is.3.1 ∙ drives_others core n k a is.0 apart is.1

  -- the workers that were driven are free
  driven_free : (n k : ℕ) (a b : WeaveState S P) → k < n → AreDriven t fits y app n a b → IsFreeAt b k true
  unfolding AreDriven
  driven_free zero k a b low is = absurd (omega (arith, low))
  driven_free (suc n) k a b low is = ⊎_elim
      (λ (same : k ≡ n). subst (λ (j : ℕ). IsFreeAt b j true) (sym same) is.2.free)
      (λ (apart : k ≡ n → ⊥).
      let before = driven_free n k a is.0 (omega (arith, low, apart)) is.1 in
      record { worker = before.worker; there = drives_others n is.2.count k is.0 b apart is.2.drives ∙ before.there; is = before.is })
      (cases_eq k n)

  -- so all are, where each was driven
  pub driven_free_all : (n : ℕ) (a b : WeaveState S P) → (shape_of a.setup).cores ≡ n → StandsWell t fits b → AreDriven t fits y app n a b → AllFree b
  driven_free_all n a b many well is core w at =
      let low = place_within b.workers core w at in
      let long = well.workers in
      let same = ap (λ (setup : Setup). (shape_of setup).cores) (driven_same n a b is).setup in
      let free = driven_free n core a b (omega (arith, low, long, same, many)) is in
      subst (λ (v : WorkerState S P). is_free v.phase ≡ true) (same_Some free.worker w (sym free.there ∙ at)) free.is

  -- a halted worker stays halted
  halted_stays : (core : ℕ) (step : Made) (a b : WeaveState S P) → StepsWell t fits y app a core step b → SomeHalted a → SomeHalted b
  halted_stays core step a b is some = ⊎_elim
      (λ (same : some.core ≡ core).
      let that : some.worker ≡ is.call.steps.worker = same_Some some.worker is.call.steps.worker (sym some.there ∙ ap (slice_get a.workers) same ∙ is.call.steps.was) in
      let stays = step_stays t (λ _. Unit {0}) y app (side_of a core) is.call.steps.side is.call.steps.worker is.call.steps.becomes step (step_on_side t y app (side_of a core) is.call.steps.side is.call.steps.worker is.call.steps.becomes step is.call.steps.steps) in
      record {
        core = core;
        worker = is.call.steps.becomes;
        there = ap (λ (l : WeaveState S P). slice_get l.workers core) is.call.steps.leaves ∙ get_set_same a.workers core is.call.steps.worker is.call.steps.becomes is.call.steps.was;
        halted = stays.halted (ap (λ (w : WorkerState S P). w.halted) (sym that) ∙ some.halted);
      })
      (λ (apart : some.core ≡ core → ⊥). record { core = some.core; worker = some.worker; there = others_stay core some.core step a b apart is ∙ some.there; halted = some.halted })
      (cases_eq some.core core)

  drives_halted : (core n : ℕ) (a b : WeaveState S P) → Drives t fits y app core n a b → SomeHalted a → SomeHalted b
  unfolding Drives
  drives_halted core zero a b is some = subst (λ (l : WeaveState S P). SomeHalted l) (sym is) some
  drives_halted core (suc n) a b is some = halted_stays core is.3.0 is.0 b is.3.1 (drives_halted core n a is.0 is.1 some)

  pub driven_halted : (n : ℕ) (a b : WeaveState S P) → AreDriven t fits y app n a b → SomeHalted a → SomeHalted b
  unfolding AreDriven
  driven_halted zero a b is some = subst (λ (l : WeaveState S P). SomeHalted l) (sym is) some
  driven_halted (suc n) a b is some = drives_halted n is.2.count is.0 b is.2.drives (driven_halted n a is.0 is.1 some)

-- what each element below a place has, and the next one
pub each_more : {A : Type 0} (Has : A → Type 0) (xs : List A) (i : ℕ) (x : A) → slice_get xs i ≡ Some x → Has x → ((k : ℕ) (w : A) → k < i → slice_get xs k ≡ Some w → Has w) → (k : ℕ) (w : A) → k < i + 1 → slice_get xs k ≡ Some w → Has w
each_more Has xs i x there has below k w low at = ⊎_elim
    (λ (same : k ≡ i). subst Has (same_Some x w (sym there ∙ ap (slice_get xs) (sym same) ∙ at)) has)
    (λ (apart : k ≡ i → ⊥). below k w (omega (arith, low, apart)) at)
    (cases_eq k i)

pub each_below : {A : Type 0} (Has : A → Type 0) (xs : List A) (i : ℕ) → length xs ≤ i → ((k : ℕ) (w : A) → k < i → slice_get xs k ≡ Some w → Has w) → (k : ℕ) (w : A) → slice_get xs k ≡ Some w → Has w
each_below Has xs i all below k w at = let low = place_within xs k w at in below k w (omega (arith, low, all)) at

-- where nothing is left to do, no mark is anywhere
empty_chains : (core : ℕ) (chains : List CoreQueueState) → ((k : ℕ) (queue : CoreQueueState) → slice_get chains k ≡ Some queue → queue.chain ≡ []) → in_chains core chains ≡ []
unfolding in_chains
empty_chains core [] all = refl
empty_chains core (queue ∷ queues) all = ap (λ (l : List Mark). map (λ (mark : Mark). (core, mark)) l ++ in_chains (core + 1) queues) (all 0 queue refl) ∙ empty_chains (core + 1) queues (λ k q at. all (suc k) q at)

free_hand : {S P : Type 0} (core : ℕ) (phase : Phase S P) → is_free phase ≡ true → held_in core phase ≡ []
free_hand core (Free place) free = refl
free_hand core (Popped mark) free = cc
free_hand core (Picked mark victim) free = cc
free_hand core (Landing mark) free = cc
free_hand core (Pushing to mark) free = cc
free_hand core (Turning turn hand puts) free = cc

free_colour : {S P : Type 0} (phase : Phase S P) → is_free phase ≡ true → colour_in phase ≡ None
free_colour (Free place) free = refl
free_colour (Popped mark) free = cc
free_colour (Picked mark victim) free = cc
free_colour (Landing mark) free = cc
free_colour (Pushing to mark) free = cc
free_colour (Turning turn hand puts) free = cc

free_hands : {S P : Type 0} (workers : List (WorkerState S P)) → ((k : ℕ) (w : WorkerState S P) → slice_get workers k ≡ Some w → is_free w.phase ≡ true) → flat_map (λ (w : WorkerState S P). held_by w) workers ≡ []
free_hands [] all = refl
free_hands {S} {P} (w ∷ ws) all = ap (λ (l : List Placed). l ++ flat_map (λ (v : WorkerState S P). held_by v) ws) (free_hand w.core w.phase (all 0 w refl)) ∙ free_hands ws (λ k v at. all (suc k) v at)

no_bit : (b : Bool) → bit b ≡ 0 → b ≡ false
no_bit true h = absurd (omega (arith, h))
no_bit false h = refl

module _ {S P F : Type 0} (t : TrailWords S F) (fits : F → Colour → Event → Option P → Type 0) (weave : WeaveState S P) (well : StandsWell t fits weave) (quiet : IsQuiet weave) where
  no_marks : marks_in_system (λ (w : WorkerState S P). held_by w) weave.chains weave.workers ≡ []
  no_marks = ap (λ (l : List Placed). l ++ flat_map (λ (w : WorkerState S P). held_by w) weave.workers) (empty_chains 0 weave.chains quiet.empty) ∙ free_hands weave.workers quiet.free

  abbrev of_colour : Colour → ColourAccount
  of_colour c = account_of weave.setup (history_for weave.setup weave.shards c) c

  unready : (c : Colour) → (readiness_of weave.setup (of_colour c)).ready ≡ false
  unready c = no_bit (readiness_of weave.setup (of_colour c)).ready (sym (well.marks.one c) ∙ ap (λ (l : List Placed). count_by (is_of c) l) no_marks)

  rests : (c : Colour) → IsLegal weave.setup (history_for weave.setup weave.shards c) → (of_colour c).begun ≡ (of_colour c).ended
  rests c legal = ⊎_elim
      (λ (rest : (of_colour c).begun ≡ (of_colour c).ended). rest)
      (λ (out : IsOnTurn (of_colour c)).
      let some = out.some in
      let away = out.away in
      let turning : IsTurningOn weave.workers (of_colour c).owner c = well.running c (of_colour c).owner out.count (record { running = omega (arith, some, away); last = out.last }) in
      let none : colour_run_by turning.worker ≡ None = free_colour turning.worker.phase (quiet.free (of_colour c).owner turning.worker turning.there) in
      let same : None ≡ Some c = sym none ∙ turning.turning in
      cc)
      (sound weave.setup (history_for weave.setup weave.shards c) legal c).turn

  colour_drained : (c : Colour) → IsLegal weave.setup (history_for weave.setup weave.shards c) → IsDrainedOf (history_for weave.setup weave.shards c) c
  colour_drained c legal =
      let rest = rests c legal in
      record {
        at_rest = rest;
        none_queued = ⊎_elim
            (λ (more : (of_colour c).begun < length (of_colour c).registered). absurd (true≢false (sym (is_ready weave.setup (of_colour c) rest more) ∙ unready c)))
            (λ (all : length (of_colour c).registered ≤ (of_colour c).begun). drop_of_length-le (of_colour c).registered all)
            (cases_lt (of_colour c).begun (length (of_colour c).registered));
      }

  -- so every history is drained
  pub quiet_drained : HistoriesAreDrained weave
  quiet_drained number has there =
      let stands = well.shard number has there in
      drained_everywhere has.setup has.shard has.history stands.kept.legal stands.kept.of_shard (λ c low here.
      let at : shard_of weave.setup c ≡ number = subst (λ (setup : Setup). c.0 % (shape_of setup).shards ≡ has.shard) stands.of_setup here ∙ stands.numbered in
      let same : history_for weave.setup weave.shards c ≡ has.history = ap (λ (n : ℕ). history_in (slice_get weave.shards n)) at ∙ ap history_in there in
      let legal : IsLegal weave.setup has.history = subst (λ (setup : Setup). IsLegal setup has.history) stands.of_setup stands.kept.legal in
      subst (λ (h : List Entry). IsDrainedOf h c) same (colour_drained c (subst (λ (h : List Entry). IsLegal weave.setup h) (sym same) legal)))
