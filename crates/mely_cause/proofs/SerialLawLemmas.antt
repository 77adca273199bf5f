-- What an author may conclude where one thread might have made all runs: what each of them keeps, of
-- the states and of what is under way, holds in the end.
use Rattle.std.proofs.Common.{◌≡◌, ℕ, zero, suc, ◌+◌, ◌<◌, ◌≤◌, ◌==◌, Bool, true, false, List, [], ◌∷◌, ◌++◌, Option, Some, None, if◌then◌else◌, cond, filter, length, take, refl, sym, ◌∙◌, ap, subst, inl, inr, arith, add-one}
use Rattle.std.specs.Prelude.{map, sum_by}
use Rattle.std.specs.List.{AllByRecursion, slice_get}
use Rattle.std.proofs.lemmas.Bool.{cases_lt, eq-eqb, ne_eqb}
use Rattle.std.proofs.lemmas.List.{take_all}
use Rattle.std.proofs.lemmas.List.Sums.{sum_by-append, sum_by-cons, sum_by_more}
use Rattle.std.proofs.lemmas.Option.{slice_get-get_or}
use Rattle.mely_event.specs.declared.colour.Colour.{Colour}
use Rattle.mely_event.specs.declared.event.Event.{Event}
use Rattle.mely_event.specs.declared.trail.Trail.{Ghosts as TrailWords}
use Rattle.mely_history.proofs.LegalAccountLemmas.{same_colour}
use Rattle.mely_history.specs.Setup.{colours_of}
use Rattle.mely_tally.specs.Account.{HandlerRun, IsRunOf}
use Rattle.mely_weave.specs.Weave.{WeaveState}
use Rattle.mely_worker.specs.declared.app.App.{Ghosts as AppWords}
use Rattle.mely_chain.specs.Runs.{runs_on}
use Rattle.mely_chain.proofs.OrderLemmas.{IsRunOn, each_on}
use Rattle.mely_cause.specs.Ended.{RanWithCauses}
use Rattle.mely_cause.specs.Serial.{MadeByOne, RanAsByOne, states_after}
use Rattle.mely_cause.proofs.AmongLemmas.{Among, all_at, all_from, among_passes}

module _ {S P : Type 0} where
  -- the run with what it is of, as it is under way
  abbrev pub taken_by : HandlerRun S P → Colour × Event × Option P
  taken_by run = (run.colour, run.event, run.load)

  -- what holds of the runs of each colour holds of all
  all_of_each : (Runs : HandlerRun S P → Type 0) (all : List (HandlerRun S P)) (runs : Colour → List (HandlerRun S P)) → ((c : Colour) → runs_on c all ≡ runs c) → ((c : Colour) → AllByRecursion Runs (runs c)) → AllByRecursion Runs all
  all_of_each Runs all runs each holds = all_from Runs all (λ run there.
      let here : Among run (runs_on run.colour all) = among_passes (λ (other : HandlerRun S P). other.colour.0 == run.colour.0) all run there (eq-eqb run.colour.0 run.colour.0 refl) in
      all_at Runs (runs run.colour) run (holds run.colour) (subst (λ l. Among run l) (each run.colour) here))

-- What each run keeps of the states of all colours and of what is under way.
module _ {S P : Type 0} (Runs : HandlerRun S P → Type 0) (Holds : (Colour → Option S) → List (Colour × Event × Option P) → Type 0)
    (keeps : (states : Colour → Option S) (front back : List (Colour × Event × Option P)) (run : HandlerRun S P) → Runs run → states run.colour ≡ Some run.state → Holds states (front ++ (run.colour, run.event, run.load) ∷ back) → Holds (states_after states run) (front ++ back ++ run.puts)) where
  along : (all : List (HandlerRun S P)) (states left : Colour → Option S) (under_way : List (Colour × Event × Option P)) → AllByRecursion Runs all → MadeByOne states under_way all left → Holds states under_way → Holds left []
  along [] states left under_way runs made holds =
      let last : left ≡ states = λ i c. made.1 c i in
      subst (λ l. Holds left l) made.0 (subst (λ s. Holds s under_way) (sym last) holds)
  along (run ∷ all) states left under_way runs (front, back, is, state, later) holds =
      along all (states_after states run) left (front ++ back ++ run.puts) runs.1 later (keeps states front back run runs.0 state (subst (λ l. Holds states l) is holds))

  -- a run was made where it held
  abbrev pub WasHeld : HandlerRun S P → Type 0
  WasHeld run = (states : Colour → Option S) × (front : List (Colour × Event × Option P)) × (back : List (Colour × Event × Option P)) × (states run.colour ≡ Some run.state) × Holds states (front ++ (run.colour, run.event, run.load) ∷ back)

  each_held : (all : List (HandlerRun S P)) (states left : Colour → Option S) (under_way : List (Colour × Event × Option P)) → AllByRecursion Runs all → MadeByOne states under_way all left → Holds states under_way → AllByRecursion WasHeld all
  each_held [] states left under_way runs made holds = tt
  each_held (run ∷ all) states left under_way runs (front, back, is, state, later) holds =
      let here = subst (λ l. Holds states l) is holds in
      ((states, front, back, state, here), each_held all (states_after states run) left (front ++ back ++ run.puts) runs.1 later (keeps states front back run runs.0 state here))

  module _ (begin : Colour × Event × Option P) (given left : Colour → Option S) (runs : Colour → List (HandlerRun S P)) (one : RanAsByOne begin given left runs) (are : (c : Colour) → AllByRecursion Runs (runs c)) (first : Holds given (begin ∷ [])) where
    -- it holds in the end
    pub by_one : Holds left []
    by_one = along one.all given left (begin ∷ []) (all_of_each Runs one.all runs one.each are) one.made first

    -- and held wherever a run was made
    pub by_one_each : (c : Colour) → AllByRecursion WasHeld (runs c)
    by_one_each c =
        let all = each_held one.all given left (begin ∷ []) (all_of_each Runs one.all runs one.each are) one.made first in
        subst (λ l. AllByRecursion WasHeld l) (one.each c) (some_of (λ run. run.colour.0 == c.0) one.all all) where
          some_of : (test : HandlerRun S P → Bool) (xs : List (HandlerRun S P)) → AllByRecursion WasHeld xs → AllByRecursion WasHeld (filter test xs)
          some_of test [] all = tt
          some_of test (x ∷ xs) all = for (test x) (some_of test xs all.1) where
            for : (own : Bool) → AllByRecursion WasHeld (filter test xs) → AllByRecursion WasHeld (cond own (x ∷ filter test xs) (filter test xs))
            for true rest = (all.0, rest)
            for false rest = rest

-- a number of a colour's state, where it has one
abbrev pub count_state : {S : Type 0} → (Colour → S → ℕ) → Colour → Option S → ℕ
count_state f c None = 0
count_state f c (Some state) = f c state

-- those of the states of all colours below a number, summed up
abbrev pub sum_states : {S : Type 0} → (Colour → S → ℕ) → ℕ → (Colour → Option S) → ℕ
sum_states f zero states = 0
sum_states f (suc n) states = sum_states f n states + count_state f (record { 0 = n }) (states (record { 0 = n }))

module _ {S P : Type 0} (f : Colour → S → ℕ) where
  -- a run changes the state of its colour alone
  other_state : (states : Colour → Option S) (run : HandlerRun S P) (c : Colour) → (c.0 ≡ run.colour.0 → ⊥) → states_after states run c ≡ states c
  other_state states run c other = ap (λ own. if own then Some run.becomes else states c) (ne_eqb c.0 run.colour.0 other)

  sum_other : (n : ℕ) (states : Colour → Option S) (run : HandlerRun S P) → n ≤ run.colour.0 → sum_states f n (states_after states run) ≡ sum_states f n states
  sum_other zero states run high = refl
  sum_other (suc n) states run high =
      let rest = sum_other n states run (omega (arith, high)) in
      let one = ap (count_state f (record { 0 = n })) (other_state states run (record { 0 = n }) (λ same. absurd (omega (arith, same, high)))) in
      omega (arith, rest, one)

  sum_after : (n : ℕ) (states : Colour → Option S) (run : HandlerRun S P) → run.colour.0 < n → states run.colour ≡ Some run.state → sum_states f n (states_after states run) + f run.colour run.state ≡ sum_states f n states + f run.colour run.becomes
  sum_after zero states run low is = absurd (omega (arith, low))
  sum_after (suc n) states run low is = elim (cases_lt run.colour.0 n) [
    | inl less ↦
        let rest = sum_after n states run less is in
        let one = ap (count_state f (record { 0 = n })) (other_state states run (record { 0 = n }) (λ same. absurd (omega (arith, same, less)))) in
        omega (arith, rest, one)
    | inr high ↦
        let c : Colour = record { 0 = n } in
        let mine : run.colour ≡ c = same_colour run.colour c (omega (arith, high, low)) in
        let rest = sum_other n states run high in
        let before : count_state f c (states c) ≡ f run.colour run.state = subst (λ (d : Colour). count_state f d (states d) ≡ f run.colour run.state) mine (ap (count_state f run.colour) is) in
        let own : states_after states run run.colour ≡ Some run.becomes = ap (λ own. if own then Some run.becomes else states run.colour) (eq-eqb run.colour.0 run.colour.0 refl) in
        let now : count_state f c (states_after states run c) ≡ f run.colour run.becomes = subst (λ (d : Colour). count_state f d (states_after states run d) ≡ f run.colour run.becomes) mine (ap (count_state f run.colour) own) in
        omega (arith, rest, before, now)
  ]

  -- the sum over all states and all that is under way
  module _ (worth : Colour × Event × Option P → ℕ) (colours : ℕ) where
    abbrev pub whole : (Colour → Option S) → List (Colour × Event × Option P) → ℕ
    whole states under_way = sum_states f colours states + sum_by worth under_way

    -- what a run takes and puts, of its state and of what is under way
    whole_after : (states : Colour → Option S) (front back : List (Colour × Event × Option P)) (run : HandlerRun S P) → run.colour.0 < colours → states run.colour ≡ Some run.state
        → whole (states_after states run) (front ++ back ++ run.puts) + (f run.colour run.state + worth (run.colour, run.event, run.load)) ≡ whole states (front ++ (run.colour, run.event, run.load) ∷ back) + (f run.colour run.becomes + sum_by worth run.puts)
    whole_after states front back run low is =
        let changed = sum_after colours states run low is in
        let after = sum_by-append worth (front ++ back) run.puts in
        let both = sum_by-append worth front back in
        let before = sum_by-append worth front ((run.colour, run.event, run.load) ∷ back) in
        let one = sum_by-cons worth (run.colour, run.event, run.load) back in
        omega (arith, changed, after, both, before, one)

    module _ (Runs : HandlerRun S P → Type 0) (low : (run : HandlerRun S P) → Runs run → run.colour.0 < colours) (begin : Colour × Event × Option P) (given left : Colour → Option S) (runs : Colour → List (HandlerRun S P)) (one : RanAsByOne begin given left runs) (are : (c : Colour) → AllByRecursion Runs (runs c)) where
      -- where each run keeps the sum, it is in the end what it was at first
      pub same_by_one : ((run : HandlerRun S P) → Runs run → f run.colour run.becomes + sum_by worth run.puts ≡ f run.colour run.state + worth (run.colour, run.event, run.load)) → sum_states f colours left ≡ sum_states f colours given + worth begin
      same_by_one same =
          let begun = sum_by-cons worth begin [] in
          let all = by_one Runs (λ states under_way. whole states under_way ≡ whole given (begin ∷ []))
          (λ states front back run is state so.
          let changed = whole_after states front back run (low run is) state in
          let kept = same run is in
          omega (arith, so, changed, kept))
          begin given left runs one are refl in
          omega (arith, all, begun)

      -- where none makes it more, it is no more
      pub no_more_by_one : ((run : HandlerRun S P) → Runs run → f run.colour run.becomes + sum_by worth run.puts ≤ f run.colour run.state + worth (run.colour, run.event, run.load)) → sum_states f colours left ≤ sum_states f colours given + worth begin
      no_more_by_one few =
          let begun = sum_by-cons worth begin [] in
          let all = by_one Runs (λ states under_way. whole states under_way ≤ whole given (begin ∷ []))
          (λ states front back run is state so.
          let changed = whole_after states front back run (low run is) state in
          let kept = few run is in
          omega (arith, so, changed, kept))
          begin given left runs one are (omega arith) in
          omega (arith, all, begun)

-- the sum over the states of a list is that of the list
sum_first : {S : Type 0} (f : S → ℕ) (d : S) (xs : List S) (k : ℕ) → k ≤ length xs → sum_states (λ c. f) k (λ c. slice_get xs c.0) ≡ sum_by f (take k xs)
sum_first f d xs zero few = refl
sum_first f d xs (suc k) few =
    let rest = sum_first f d xs k (omega (arith, few)) in
    let one = sum_by_more f xs k d (omega (arith, few)) in
    let same = ap (λ n. sum_by f (take n xs)) (sym (add-one k)) in
    let there = ap (count_state (λ c. f) (record { 0 = k })) (slice_get-get_or xs k d (omega (arith, few))) in
    omega (arith, rest, one, same, there)

pub sum_listed : {S : Type 0} (f : S → ℕ) (xs : List S) → sum_states (λ c. f) (length xs) (λ c. slice_get xs c.0) ≡ sum_by f xs
sum_listed f [] = refl
sum_listed f (x ∷ xs) = sum_first f x (x ∷ xs) (length (x ∷ xs)) (omega arith) ∙ ap (sum_by f) (take_all (length (x ∷ xs)) (x ∷ xs) (omega arith))

-- So it is of a weave that has come to its end, along the runs of its app's handlers.
module _ {R S P F : Type 0} (t : TrailWords S F) (fits : F → Colour → Event → Option P → Type 0) (y : AppWords R P S F) (app : R) (weave : WeaveState S P) (begin : Colour × Event × Option P) (given left : Colour → Option S) (ran : RanWithCauses t fits y app weave begin given left) where
  -- a run of the app's handlers
  abbrev pub IsOurs : HandlerRun S P → Type 0
  IsOurs run = IsRunOf t fits y app weave.setup (t.frame_of weave.given) run

  -- all runs of all colours are
  pub all_ours : (c : Colour) → AllByRecursion IsOurs (map (λ run. run.1) (ran.order.by_colour c))
  all_ours c =
      let runs : List (HandlerRun S P) = map (λ run. run.1) (ran.order.by_colour c) in
      let IsOn : HandlerRun S P → Type 0 = λ run. IsRunOn t fits y app weave.setup (t.frame_of weave.given) begin given left ran.order.notes ran.order.by_core ran.order.by_colour ran.order.in_order c run in
      all_from IsOurs runs (λ run there. (all_at IsOn runs run (each_on t fits y app weave.setup (t.frame_of weave.given) begin given left ran.order.notes ran.order.by_core ran.order.by_colour ran.order.in_order c) there).0)

  -- what each of them keeps of the states and of what is under way holds in the end
  pub kept_by_all : (Holds : (Colour → Option S) → List (Colour × Event × Option P) → Type 0)
      → ((states : Colour → Option S) (front back : List (Colour × Event × Option P)) (run : HandlerRun S P) → IsOurs run → states run.colour ≡ Some run.state → Holds states (front ++ (run.colour, run.event, run.load) ∷ back) → Holds (states_after states run) (front ++ back ++ run.puts))
      → Holds given (begin ∷ []) → Holds left []
  kept_by_all Holds keeps first = by_one IsOurs Holds keeps begin given left (λ c. map (λ run. run.1) (ran.order.by_colour c)) ran.serial all_ours first

  -- and so does a sum over the states and over what is under way
  pub sum_kept_by_all : (f : Colour → S → ℕ) (worth : Colour × Event × Option P → ℕ)
      → ((run : HandlerRun S P) → IsOurs run → f run.colour run.becomes + sum_by worth run.puts ≡ f run.colour run.state + worth (run.colour, run.event, run.load))
      → sum_states f (colours_of weave.setup) left ≡ sum_states f (colours_of weave.setup) given + worth begin
  sum_kept_by_all f worth same = same_by_one f worth (colours_of weave.setup) IsOurs (λ run is. is.there) begin given left (λ c. map (λ run. run.1) (ran.order.by_colour c)) ran.serial all_ours same
