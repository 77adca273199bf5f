-- What is known where the runs of each colour are in their order.
use Rattle.std.proofs.Common.{◌≡◌, ℕ, zero, suc, ◌<◌, ◌==◌, Bool, true, false, List, [], ◌∷◌, ◌++◌, Option, Some, None, if◌then◌else◌, fold, get_or, map, take, refl, sym, ◌∙◌, ap, subst, arith, eq-eqb, cond, append-nil, append_assoc, option_map}
use Rattle.std.specs.List.{AllByRecursion, slice_get, cons_option}
use Rattle.std.proofs.lemmas.Bool.{eqb-true}
use Rattle.std.proofs.lemmas.Option.{slice_get-get_or, slice_get-map, same_Some}
use Rattle.mely_event.specs.declared.colour.Colour.{Colour}
use Rattle.mely_event.specs.declared.event.Event.{Event}
use Rattle.mely_event.specs.declared.trail.Trail.{Ghosts as TrailWords}
use Rattle.mely_history.specs.declared.setup.Setup.{Setup}
use Rattle.mely_history.specs.Setup.{shape_of}
use Rattle.mely_history.proofs.LegalAccountLemmas.{same_colour}
use Rattle.mely_note.specs.declared.note.Note.{Note}
use Rattle.mely_note.specs.Notes.{loaded_of}
use Rattle.mely_tally.specs.Account.{HandlerRun, IsRunOf}
use Rattle.mely_worker.specs.declared.app.App.{Ghosts as AppWords}
use Rattle.mely_chain.specs.Runs.{Follow, given_to, runs_on}
use Rattle.mely_chain.specs.InOrder.{AreInOrder, made_by}
use Rattle.mely_chain.proofs.MergeChainLemmas.{without_core}

module _ {S P : Type 0} (Holds : HandlerRun S P → Type 0) where
  -- what holds of all runs of each core holds of all runs that cores made
  all_of_cores : (cores : ℕ) (runs : List (ℕ × HandlerRun S P)) → ((n : ℕ) → n < cores → AllByRecursion Holds (made_by n runs)) → AllByRecursion (λ run. run.0 < cores) runs → AllByRecursion Holds (without_core runs)
  all_of_cores cores [] each low = tt
  all_of_cores cores ((n, run) ∷ runs) each low = (first.0, all_of_cores cores runs (λ m few. later m (n == m) (each m few)) low.1) where
    later : (m : ℕ) (own : Bool) → AllByRecursion Holds (cons_option (if own then Some run else None) (made_by m runs)) → AllByRecursion Holds (made_by m runs)
    later m true all = all.1
    later m false all = all

    first : AllByRecursion Holds (run ∷ made_by n runs)
    first = subst (λ own. AllByRecursion Holds (cons_option (if own then Some run else None) (made_by n runs))) (eq-eqb n n refl) (each n low.0)

  -- of all runs those on a colour
  all_on : (c : Colour) (runs : List (HandlerRun S P)) → AllByRecursion Holds runs → AllByRecursion (λ run. Holds run × (run.colour ≡ c)) (runs_on c runs)
  all_on c [] all = tt
  all_on c (run ∷ runs) all = for (run.colour.0 == c.0) refl (all_on c runs all.1) where
    for : (own : Bool) → (run.colour.0 == c.0) ≡ own → AllByRecursion (λ run. Holds run × (run.colour ≡ c)) (runs_on c runs) → AllByRecursion (λ run. Holds run × (run.colour ≡ c)) (cond own (run ∷ runs_on c runs) (runs_on c runs))
    for true is rest = ((all.0, same_colour run.colour c (eqb-true run.colour.0 c.0 is)), rest)
    for false is rest = rest

module _ {R S P F : Type 0} (t : TrailWords S F) (fits : F → Colour → Event → Option P → Type 0) (y : AppWords R P S F) (app : R) (setup : Setup) (frame : F)
    (begin : Colour × Event × Option P) (given left : Colour → Option S) (notes : Colour → List (Note S P)) (by_core : List (List (HandlerRun S P))) (by_colour : Colour → List (ℕ × HandlerRun S P)) (order : AreInOrder t fits y app setup frame begin given left notes by_core by_colour) where
  -- a run of the app on the colour
  abbrev pub IsRunOn : Colour → HandlerRun S P → Type 0
  IsRunOn c run = IsRunOf t fits y app setup frame run × (run.colour ≡ c)

  -- each run of a colour is one of the app's handlers on it
  pub each_on : (c : Colour) → AllByRecursion (IsRunOn c) (without_core (by_colour c))
  each_on c = all_of_cores (IsRunOn c) (shape_of setup).cores (by_colour c) of_core (order.by_cores c) where
    of_core : (n : ℕ) → n < (shape_of setup).cores → AllByRecursion (IsRunOn c) (made_by n (by_colour c))
    of_core n low =
        let many = order.cores in
        let at : slice_get by_core n ≡ Some (get_or by_core n []) = slice_get-get_or by_core n [] (omega (arith, low, many)) in
        subst (AllByRecursion (IsRunOn c)) (sym (order.of_core c n (get_or by_core n []) at)) (all_on (IsRunOf t fits y app setup frame) c (get_or by_core n []) (order.each n (get_or by_core n []) at))

  module _ (c : Colour) (first last : S) (is : given c ≡ Some first) (end : left c ≡ Some last) where
    abbrev runs : List (HandlerRun S P)
    runs = without_core (by_colour c)

    abbrev loads : List (Event × Option P)
    loads = loaded_of (notes c) c

    -- the run at each place is on the event that was registered there, with its load
    pub run_at : (i : ℕ) → slice_get loads i ≡ option_map given_to (slice_get runs i)
    run_at i = ap (λ l. slice_get l i) (sym (order.on_colour c first last is end).given) ∙ slice_get-map given_to runs i

    -- what each run of the colour keeps of its state, all of them keep
    pub kept : (Holds : S → Type 0) → ((run : HandlerRun S P) → IsRunOn c run → Holds run.state → Holds run.becomes) → Holds first → Holds last
    kept Holds keeps so = along first runs (each_on c) (order.on_colour c first last is end).follow so where
      along : (from : S) (later : List (HandlerRun S P)) → AllByRecursion (IsRunOn c) later → Follow from later last → Holds from → Holds last
      along from [] all follow so = subst Holds (sym follow) so
      along from (run ∷ later) all follow so = along run.becomes later all.1 follow.1 (keeps run all.0 (subst Holds (sym follow.0) so))

    -- and each of them was given a state of which it holds
    pub kept_before : (Holds : S → Type 0) → ((run : HandlerRun S P) → IsRunOn c run → Holds run.state → Holds run.becomes) → Holds first → AllByRecursion (λ run. Holds run.state) runs
    kept_before Holds keeps so = along first runs (each_on c) (order.on_colour c first last is end).follow so where
      along : (from : S) (later : List (HandlerRun S P)) → AllByRecursion (IsRunOn c) later → Follow from later last → Holds from → AllByRecursion (λ run. Holds run.state) later
      along from [] all follow so = tt
      along from (run ∷ later) all follow so =
          let here = subst Holds (sym follow.0) so in
          (here, along run.becomes later all.1 follow.1 (keeps run all.0 here))

    -- where a handler's state after is a function of what it was given, the state that is left is
    -- that of the events one after another
    pub left_is_fold : (step : S → Event × Option P → S) → ((run : HandlerRun S P) → IsRunOn c run → run.becomes ≡ step run.state (given_to run)) → last ≡ fold step first loads
    left_is_fold step steps = along first runs (each_on c) (order.on_colour c first last is end).follow ∙ ap (fold step first) (order.on_colour c first last is end).given where
      along : (from : S) (later : List (HandlerRun S P)) → AllByRecursion (IsRunOn c) later → Follow from later last → last ≡ fold step from (map given_to later)
      along from [] all follow = follow
      along from (run ∷ later) all follow =
          along run.becomes later all.1 follow.1
          ∙ ap (λ s. fold step s (map given_to later)) (steps run all.0 ∙ ap (λ s. step s (given_to run)) follow.0)

    -- where each run writes its event behind the trail, the state that is left has them all there
    pub trail_left : ((run : HandlerRun S P) → IsRunOn c run → t.trail_of run.becomes ≡ t.trail_of run.state ++ run.event ∷ []) → t.trail_of last ≡ t.trail_of first ++ map (λ put. put.0) loads
    trail_left writes = along first runs (each_on c) (order.on_colour c first last is end).follow ∙ ap (λ l. t.trail_of first ++ map (λ put. put.0) l) (order.on_colour c first last is end).given where
      along : (from : S) (later : List (HandlerRun S P)) → AllByRecursion (IsRunOn c) later → Follow from later last → t.trail_of last ≡ t.trail_of from ++ map (λ put. put.0) (map given_to later)
      along from [] all follow = ap t.trail_of follow ∙ sym (append-nil (t.trail_of from))
      along from (run ∷ later) all follow =
          along run.becomes later all.1 follow.1
          ∙ ap (λ l. l ++ map (λ put. put.0) (map given_to later)) (writes run all.0 ∙ ap (λ s. t.trail_of s ++ run.event ∷ []) follow.0)
          ∙ append_assoc (t.trail_of from) (run.event ∷ []) (map (λ put. put.0) (map given_to later))

    -- and a run's state before has there the events that were registered before its own
    pub trail_before : ((run : HandlerRun S P) → IsRunOn c run → t.trail_of run.becomes ≡ t.trail_of run.state ++ run.event ∷ []) → (i : ℕ) (run : HandlerRun S P) → slice_get runs i ≡ Some run → t.trail_of run.state ≡ t.trail_of first ++ map (λ load. load.0) (take i loads)
    trail_before writes i run at =
        from first runs i (each_on c) (order.on_colour c first last is end).follow at
        ∙ ap (λ l. t.trail_of first ++ map (λ load. load.0) (take i l)) (order.on_colour c first last is end).given
      where
        from : (begins : S) (all : List (HandlerRun S P)) (k : ℕ) → AllByRecursion (IsRunOn c) all → Follow begins all last → slice_get all k ≡ Some run → t.trail_of run.state ≡ t.trail_of begins ++ map (λ load. load.0) (take k (map given_to all))
        from begins [] k each follow at = cc
        from begins (one ∷ later) zero each follow at =
            ap (λ (r : HandlerRun S P). t.trail_of r.state) (sym (same_Some one run at))
            ∙ ap t.trail_of follow.0
            ∙ sym (append-nil (t.trail_of begins))
        from begins (one ∷ later) (suc k) each follow at =
            from one.becomes later k each.1 follow.1 at
            ∙ ap (λ l. l ++ map (λ load. load.0) (take k (map given_to later))) (writes one each.0 ∙ ap (λ s. t.trail_of s ++ one.event ∷ []) follow.0)
            ∙ append_assoc (t.trail_of begins) (one.event ∷ []) (map (λ load. load.0) (take k (map given_to later)))

    -- the first run is on the state that was given, and each further one on what the one before left
    pub run_first : (run : HandlerRun S P) → slice_get runs 0 ≡ Some run → run.state ≡ first
    run_first run at = from runs (order.on_colour c first last is end).follow at where
      from : (all : List (HandlerRun S P)) → Follow first all last → slice_get all 0 ≡ Some run → run.state ≡ first
      from [] follow at = cc
      from (one ∷ later) follow at = ap (λ (r : HandlerRun S P). r.state) (sym (same_Some one run at)) ∙ follow.0

    pub run_next : (i : ℕ) (run next : HandlerRun S P) → slice_get runs i ≡ Some run → slice_get runs (suc i) ≡ Some next → next.state ≡ run.becomes
    run_next i run next at behind = from first runs i (order.on_colour c first last is end).follow at behind where
      from : (begins : S) (all : List (HandlerRun S P)) (k : ℕ) → Follow begins all last → slice_get all k ≡ Some run → slice_get all (suc k) ≡ Some next → next.state ≡ run.becomes
      from begins [] k follow at behind = cc
      from begins (one ∷ []) zero follow at behind = cc
      from begins (one ∷ two ∷ later) zero follow at behind = ap (λ (r : HandlerRun S P). r.state) (sym (same_Some two next behind)) ∙ follow.1.0 ∙ ap (λ (r : HandlerRun S P). r.becomes) (same_Some one run at)
      from begins (one ∷ later) (suc k) follow at behind = from one.becomes later k follow.1 at behind

    -- each event that was registered fits the colour with its load
    pub each_fits : AllByRecursion (λ load. fits frame c load.0 load.1) loads
    each_fits = subst (AllByRecursion (λ load. fits frame c load.0 load.1)) (order.on_colour c first last is end).given (of_runs runs (each_on c)) where
      of_runs : (all : List (HandlerRun S P)) → AllByRecursion (IsRunOn c) all → AllByRecursion (λ load. fits frame c load.0 load.1) (map given_to all)
      of_runs [] each = tt
      of_runs (run ∷ all) each = (subst (λ d. fits frame d run.event run.load) each.0.1 each.0.0.fit, of_runs all each.1)

  -- what each run keeps of its state holds of each state that is left, where it held of all given
  pub kept_everywhere : (Holds : S → Type 0) → ((run : HandlerRun S P) → IsRunOf t fits y app setup frame run → Holds run.state → Holds run.becomes) → ((c : Colour) (first : S) → given c ≡ Some first → Holds first) → ((c : Colour) (last : S) → left c ≡ Some last → (first : S) × (given c ≡ Some first)) → (c : Colour) (last : S) → left c ≡ Some last → Holds last
  kept_everywhere Holds keeps holds was c last end =
      let first = was c last end in
      kept c first.0 last first.1 end Holds (λ run on. keeps run on.0) (holds c first.0 first.1)
