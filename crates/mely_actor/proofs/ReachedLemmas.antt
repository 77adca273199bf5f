-- What a run leaves for which there was no memory: on each colour receipts led there from the value
-- that was given.
use Rattle.std.proofs.Common.{◌≡◌, ◌<◌, ◌+◌, ◌==◌, ℕ, Bool, true, false, List, [], ◌∷◌, ◌++◌, Option, None, Some, if◌then◌else◌, cond, get_or, length, map, option_map, refl, sym, ◌∙◌, ap, subst, arith, eq-eqb}
use Rattle.std.proofs.lemmas.Bool.{eqb-true}
use Rattle.std.proofs.lemmas.List.{length-append, length-map}
use Rattle.std.proofs.lemmas.Option.{same_Some, slice_get-get_or, slice_get-map, slice_get_within}
use Rattle.std.specs.List.{AllByRecursion, cons_option}
use Rattle.std.specs.Prelude.{slice_get}
use Rattle.mely_event.specs.declared.colour.Colour.{Colour}
use Rattle.mely_event.specs.declared.event.Event.{Event}
use Rattle.mely_event.specs.declared.trail.Trail.{Ghosts as TrailWords}
use Rattle.mely_history.specs.declared.entry.Entry.{Entry}
use Rattle.mely_history.specs.declared.setup.Setup.{Setup}
use Rattle.mely_history.specs.Setup.{shape_of}
use Rattle.mely_history.proofs.LegalAccountLemmas.{same_colour}
use Rattle.mely_tally.specs.Account.{HandlerRun, IsRunOf}
use Rattle.mely_weave.specs.Side.{shard_of}
use Rattle.mely_weave.proofs.Wholes.GatherLemmas.{get_there}
use Rattle.mely_worker.specs.declared.app.App.{Ghosts as AppWords}
use Rattle.mely_chain.specs.InOrder.{made_by}
use Rattle.mely_chain.specs.Runs.{Follow, runs_on}
use Rattle.mely_chain.proofs.OrderLemmas.{each_on}
use Rattle.mely_app.specs.InOrder.{RanInOrder}
use Rattle.mely_app.specs.Unfinished.{RanInOrderSoFar}
use Rattle.mely_actor.specs.declared.actor.Actor.{Ghosts as ActorWords}
use Rattle.mely_actor.specs.declared.load.Load.{Load}
use Rattle.mely_actor.specs.declared.load.Load.TheVariants.{Posts, Message}
use Rattle.mely_actor.specs.declared.load.Plan.{Plan}
use Rattle.mely_actor.specs.KeptState.{KeptState}
use Rattle.mely_actor.specs.Received.{AreMade, AreReached, AreTaken, IsFresh, IsReached, Lead}
use Rattle.mely_actor.specs.Running.{Runs, Steps}
use Rattle.mely_actor.specs.Serial.{Receipt}
use Rattle.mely_actor.proofs.ChainLemmas.{IsOn, One, one_of}
use Rattle.mely_actor.proofs.ReceiptLemmas.{receipt_by, receipts_in, sends_by}

-- ---- the runs of one colour

module _ {A V M : Type 0} (a : ActorWords A V M) (plan : Plan A M) (c : Colour) where
  abbrev Run : Type 0
  Run = HandlerRun (KeptState A M V) (Load M)

  -- a run of these actors that is told of the colour
  abbrev pub IsOwn : Run → Type 0
  IsOwn run = IsOn a plan c run × (run.colour ≡ c)

  module _ (run : Run) (mine : run.colour ≡ c) (received : List M) (sent : List (Colour × M)) (later : List (Receipt M V)) (to : V) where
    -- where the receipts behind a run lead on from what it left, so do its own and those
    led_on : (load : Option (Load M)) → Steps a run.state load run.becomes run.puts → One a plan c run.state run.becomes run.event load run.puts → length received ≡ run.state.count → a.kept plan.actor c received sent run.state.value
        → ((more : List M) (others : List (Colour × M)) → length more ≡ run.becomes.count → a.kept plan.actor c more others run.becomes.value → Lead a plan.actor c more others run.becomes.value later to)
        → Lead a plan.actor c received sent run.state.value (cons_option (receipt_by run load) later) to
    led_on (Some (Posts all)) step one long kept rest =
        subst (λ v. Lead a plan.actor c received sent v later to) step.does.keeps (rest received sent (long ∙ sym step.does.counts) (subst (λ v. a.kept plan.actor c received sent v) (sym step.does.keeps) kept))
    led_on (Some (Message message)) step one long kept rest =
        let keeps : a.kept plan.actor c (received ++ message ∷ []) (sent ++ sends_by run) run.becomes.value = subst (λ s. a.kept plan.actor c (received ++ message ∷ []) (sent ++ s) run.becomes.value) one.own (one.keeps received sent long kept) in
        let both = length-append received (message ∷ []) in
        let single : length (message ∷ []) ≡ 1 = refl in
        let count = step.does.counts in
        (record { here = mine; before = refl; keeps = keeps }, rest (received ++ message ∷ []) (sent ++ sends_by run) (omega (arith, both, single, count, long)) keeps)
    led_on None step one long kept rest =
        subst (λ v. Lead a plan.actor c received sent v later to) step.does.keeps (rest received sent (long ∙ sym step.does.counts) (subst (λ v. a.kept plan.actor c received sent v) (sym step.does.keeps) kept))

  -- where the last state hasn't failed, none before it had
  well_before : (from last : KeptState A M V) (runs : List Run) → AllByRecursion IsOwn runs → Follow from runs last → last.failed ≡ false → from.failed ≡ false
  well_before from last [] each follow well = sym (ap (λ (s : KeptState A M V). s.failed) follow) ∙ well
  well_before from last (run ∷ later) each follow well = subst (λ (s : KeptState A M V). s.failed ≡ false) follow.0 (each.0.0.does (well_before run.becomes last later each.1 follow.1 well)).well

  led : (from last : KeptState A M V) (runs : List Run) → AllByRecursion IsOwn runs → Follow from runs last → last.failed ≡ false → (received : List M) (sent : List (Colour × M)) → length received ≡ from.count → a.kept plan.actor c received sent from.value → Lead a plan.actor c received sent from.value (receipts_in runs) last.value
  led from last [] each follow well received sent long kept = ap (λ (s : KeptState A M V). s.value) follow
  led from last (run ∷ later) each follow well received sent long kept =
      let step = each.0.0.does (well_before run.becomes last later each.1 follow.1 well) in
      let one = one_of a plan c run.state run.becomes run.event run.load run.puts each.0.0.of_plan each.0.0.of_colour step in
      subst (λ (s : KeptState A M V). Lead a plan.actor c received sent s.value (receipts_in (run ∷ later)) last.value) follow.0
      (led_on run each.0.1 received sent (receipts_in later) last.value run.load step one (long ∙ ap (λ (s : KeptState A M V). s.count) (sym follow.0)) (subst (λ (s : KeptState A M V). a.kept plan.actor c received sent s.value) (sym follow.0) kept)
      (λ more others longer keeps. led run.becomes last later each.1 follow.1 well more others longer keeps))

  -- the runs of a colour from the state that it was given to the one that is left
  pub record Chain (from last : KeptState A M V) : Type 0 where
    pub runs : List Run
    pub each : AllByRecursion IsOwn runs
    pub follow : Follow from runs last

  reached_by : (from last : KeptState A M V) → Chain from last → last.failed ≡ false → IsFresh a plan c from → IsReached a plan.actor c from.value last.value
  reached_by from last chain well fresh = (receipts_in chain.runs, led from last chain.runs chain.each chain.follow well [] [] (sym fresh.none) fresh.begins)

-- ---- the values of all colours

module _ {A V M : Type 0} (a : ActorWords A V M) where
  pub none_reached : (actor : A) (given : List V) → AreReached a actor given []
  none_reached actor given = λ i first value at there. cc

  are_reached : (plan : Plan A M) (count : ℕ) (given : List V) (firsts states : List (KeptState A M V)) (values : List (Option V)) → AreMade a plan count firsts → map (λ state. state.value) firsts ≡ given → AreTaken a states values
      → ((c : Colour) (from last : KeptState A M V) → slice_get firsts c.0 ≡ Some from → slice_get states c.0 ≡ Some last → Chain a plan c from last) → AreReached a plan.actor given values
  are_reached plan count given firsts states values made begin taken chain = λ i before after at there.
      let value : KeptState A M V → V = λ state. state.value in
      let low = slice_get_within given i before at in
      let many = ap length begin in
      let mapped = length-map firsts value in
      let first = get_there firsts i (omega (arith, low, many, mapped)) in
      let is : first.0.value ≡ before = same_Some first.0.value before (sym (slice_get-map value firsts i ∙ ap (option_map value) first.1) ∙ ap (λ l. slice_get l i) begin ∙ at) in
      let within = slice_get_within values i (Some after) there in
      let as_many = taken.many in
      let last = get_there states i (omega (arith, within, as_many)) in
      let end = taken.each i last.0 after last.1 there in
      let c : Colour = record { 0 = i } in
      subst (λ v. IsReached a plan.actor c v after) is (subst (λ v. IsReached a plan.actor c first.0.value v) (sym end.is)
      (reached_by a plan c first.0 last.0 (chain c first.0 last.0 first.1 last.1) end.well (made.each i first.0 first.1)))

-- ---- the runs of all cores

module _ {S P : Type 0} (Holds : HandlerRun S P → Type 0) where
  -- what holds of the runs of each core holds of all
  of_cores : (cores : ℕ) (runs : List (ℕ × HandlerRun S P)) → ((n : ℕ) → n < cores → AllByRecursion Holds (made_by n runs)) → AllByRecursion (λ run. run.0 < cores) runs → AllByRecursion Holds (map (λ run. run.1) runs)
  of_cores cores [] each low = tt
  of_cores cores ((n, run) ∷ runs) each low = (first.0, of_cores cores runs (λ m few. later m (n == m) (each m few)) low.1) where
    later : (m : ℕ) (own : Bool) → AllByRecursion Holds (cons_option (if own then Some run else None) (made_by m runs)) → AllByRecursion Holds (made_by m runs)
    later m true all = all.1
    later m false all = all

    first : AllByRecursion Holds (run ∷ made_by n runs)
    first = subst (λ own. AllByRecursion Holds (cons_option (if own then Some run else None) (made_by n runs))) (eq-eqb n n refl) (each n low.0)

  -- those on a colour among them
  of_colour : (c : Colour) (runs : List (HandlerRun S P)) → AllByRecursion Holds runs → AllByRecursion (λ run. Holds run × (run.colour ≡ c)) (runs_on c runs)
  of_colour c [] all = tt
  of_colour c (run ∷ runs) all = for (run.colour.0 == c.0) refl (of_colour c runs all.1) where
    for : (own : Bool) → (run.colour.0 == c.0) ≡ own → AllByRecursion (λ run. Holds run × (run.colour ≡ c)) (runs_on c runs) → AllByRecursion (λ run. Holds run × (run.colour ≡ c)) (cond own (run ∷ runs_on c runs) (runs_on c runs))
    for true is rest = ((all.0, same_colour run.colour c (eqb-true run.colour.0 c.0 is)), rest)
    for false is rest = rest

module _ {A V M R : Type 0} (a : ActorWords A V M) (plan : Plan A M) (setup : Setup) (t : TrailWords (KeptState A M V) (Plan A M)) (colours : (s : KeptState A M V) → t.colour_of s ≡ s.log.colour) (frames : (s : KeptState A M V) → t.frame_of s ≡ s.plan)
    (fits : Plan A M → Colour → Event → Option (Load M) → Type 0) (y : AppWords R (Load M) (KeptState A M V) (Plan A M)) (app : R) (runs_are : (before : KeptState A M V) (event : Event) (load : Option (Load M)) (after : KeptState A M V) (puts : List (Colour × Event × Option (Load M))) → y.runs app before event load after puts → Runs a before load after puts)
    (begin : Colour × Event × Option (Load M)) (given : List V) (firsts : List (KeptState A M V)) (histories : List (List Entry)) (states : List (KeptState A M V)) (values : List (Option V)) (count : ℕ) (made : AreMade a plan count firsts) (begins : map (λ state. state.value) firsts ≡ given) (taken : AreTaken a states values) where
  own_runs : (c : Colour) (runs : List (HandlerRun (KeptState A M V) (Load M))) → AllByRecursion (λ run. IsRunOf t fits y app setup plan run × (run.colour ≡ c)) runs → AllByRecursion (IsOwn a plan c) runs
  own_runs c [] each = tt
  own_runs c (run ∷ runs) each = (
    (
      record {
        of_plan = sym (frames run.state) ∙ each.0.0.framed;
        of_colour = sym (colours run.state) ∙ each.0.0.coloured ∙ each.0.1;
        does = runs_are run.state run.event run.load run.becomes run.puts each.0.0.ran;
      },
      each.0.1,
    ),
    own_runs c runs each.1,
  )

  -- of a run that came to its end
  pub reached_in_order : (frame : Plan A M) → frame ≡ plan → RanInOrder t fits y app setup frame begin firsts histories states → AreReached a plan.actor given values
  reached_in_order frame of_frame ran =
      let order = subst (λ f. RanInOrder t fits y app setup f begin firsts histories states) of_frame ran in
      are_reached a plan count given firsts states values made begins taken (λ c from last is end. record {
        runs = map (λ run. run.1) (order.by_colour c);
        each = own_runs c (map (λ run. run.1) (order.by_colour c)) (each_on t fits y app setup plan begin (λ d. slice_get firsts d.0) (λ d. slice_get states d.0) (λ d. order.notes (shard_of setup d)) order.by_core order.by_colour order.in_order c);
        follow = (order.in_order.on_colour c from last is end).follow;
      })

  -- of one that was cut short
  pub reached_so_far : (waiting : List (List (Event × Option (Load M)))) (refused : List (Colour × Event × Option (Load M))) (frame : Plan A M) → frame ≡ plan → RanInOrderSoFar t fits y app setup frame begin firsts histories states waiting refused → AreReached a plan.actor given values
  reached_so_far waiting refused frame of_frame ran =
      let order = subst (λ f. RanInOrderSoFar t fits y app setup f begin firsts histories states waiting refused) of_frame ran in
      let many = order.cores in
      are_reached a plan count given firsts states values made begins taken (λ c from last is end. record {
        runs = map (λ run. run.1) (order.by_colour c);
        each = own_runs c (map (λ run. run.1) (order.by_colour c)) (of_cores (λ run. IsRunOf t fits y app setup plan run × (run.colour ≡ c)) (shape_of setup).cores (order.by_colour c)
            (λ n low. let at : slice_get order.by_core n ≡ Some (get_or order.by_core n []) = slice_get-get_or order.by_core n [] (omega (arith, low, many)) in
            subst (AllByRecursion (λ run. IsRunOf t fits y app setup plan run × (run.colour ≡ c))) (sym (order.of_core c n (get_or order.by_core n []) at)) (of_colour (IsRunOf t fits y app setup plan) c (get_or order.by_core n []) (order.each n (get_or order.by_core n []) at)))
            (order.by_cores c));
        follow = (order.on_colour c from last is end).follow;
      })
