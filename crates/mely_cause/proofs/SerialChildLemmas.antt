-- The registrations that one run puts, and those that nobody put, in the order in which they are put.
use Rattle.std.proofs.Common.{◌≡◌, ℕ, ◌<◌, ◌≤◌, ◌==◌, Bool, true, false, List, [], ◌∷◌, Option, Some, None, if◌then◌else◌, cond, map, filter, refl, sym, ◌∙◌, ap, subst, inl, inr, arith}
use Rattle.std.specs.Prelude.{filter_map}
use Rattle.std.specs.List.{AllByRecursion}
use Rattle.std.proofs.lemmas.Bool.{eq-eqb, eqb-true}
use Rattle.std.proofs.lemmas.Option.{same_Some}
use Rattle.mely_event.specs.declared.colour.Colour.{Colour}
use Rattle.mely_event.specs.declared.event.Event.{Event}
use Rattle.mely_history.proofs.LegalAccountLemmas.{same_colour}
use Rattle.mely_tally.specs.Account.{HandlerRun}
use Rattle.mely_chain.specs.Runs.{given_to, puts_on}
use Rattle.mely_cause.specs.Causes.{AreCaused, Registration, put_first, put_by_run}
use Rattle.mely_cause.proofs.AmongLemmas.{Among, all_from, among_passes, passes_among}
use Rattle.mely_cause.proofs.AscendLemmas.{Pairs, Ascends, pairs-filter}
use Rattle.mely_cause.proofs.SerialPutLemmas.{Item, lane-regs, on, tagged, there_lane, those, what}
use Rattle.mely_cause.proofs.SerialLaneLemmas.{IsItem, agree, came, is_on, item, key, key_less, lane, lane_ascends, reg_at, run_at}

-- two elements aren't one
abbrev pub Apart : {X : Type 0} → X → X → Type 0
Apart x y = x ≡ y → ⊥

-- nobody made it
abbrev pub by_nobody : Option (Colour × ℕ) → Bool
by_nobody None = true
by_nobody (Some run) = false

first_tests : {P : Type 0} (one : Registration P) → put_first one ≡ (if by_nobody one.cause then Some one.event else None)
first_tests {P = P} one = for one.event one.at one.cause where
  for : (event : Event × Option P) (at : ℕ) (cause : Option (Colour × ℕ)) → put_first (record { event = event; at = at; cause = cause }) ≡ (if by_nobody cause then Some event else None)
  for event at None = refl
  for event at (Some run) = refl

module _ {S P : Type 0} where
  -- the registration was made by this one's run
  abbrev pub by_run : Item S P → Option (Colour × ℕ) → Bool
  by_run x None = false
  by_run x (Some run) = if run.0.0 == x.colour.0 then run.1 == x.place else false

  abbrev pub CausedBy : Item S P → Item S P → Type 0
  CausedBy w z = by_run w z.reg.cause ≡ true

  run_tests : (x : Item S P) (one : Registration P) → put_by_run x.colour x.place one ≡ (if by_run x one.cause then Some one.event else None)
  run_tests x one = for one.event one.at one.cause where
    one_test : (own : Bool) (test : Bool) (event : Event × Option P) → (if own then (if test then Some event else None) else None) ≡ (if (if own then test else false) then Some event else None)
    one_test true test event = refl
    one_test false test event = refl

    for : (event : Event × Option P) (at : ℕ) (cause : Option (Colour × ℕ)) → put_by_run x.colour x.place (record { event = event; at = at; cause = cause }) ≡ (if by_run x cause then Some event else None)
    for event at None = refl
    for event at (Some run) = one_test (run.0.0 == x.colour.0) (run.1 == x.place) event

  -- whose run made it has its name
  pub name_of : (x : Item S P) (run : Colour × ℕ) → by_run x (Some run) ≡ true → (run.0 ≡ x.colour) × (run.1 ≡ x.place)
  name_of x run is = for (run.0.0 == x.colour.0) refl is where
    for : (own : Bool) → (run.0.0 == x.colour.0) ≡ own → (if own then run.1 == x.place else false) ≡ true → (run.0 ≡ x.colour) × (run.1 ≡ x.place)
    for true own test = (same_colour run.0 x.colour (eqb-true run.0.0 x.colour.0 own), eqb-true run.1 x.place test)
    for false own test = absurd (cc)

  pub cause_is : (x z : Item S P) → CausedBy x z → z.reg.cause ≡ Some (x.colour, x.place)
  cause_is x z is = for z.reg.cause is where
    for : (cause : Option (Colour × ℕ)) → by_run x cause ≡ true → cause ≡ Some (x.colour, x.place)
    for None is = absurd (cc)
    for (Some run) is = let name = name_of x run is in ap (λ (c : Colour). let n : Option (Colour × ℕ) = Some (c, run.1) in n) name.0 ∙ ap (λ (k : ℕ). let n : Option (Colour × ℕ) = Some (x.colour, k) in n) name.1

  pub is_cause : (x : Item S P) (run : Colour × ℕ) → x.colour ≡ run.0 → x.place ≡ run.1 → by_run x (Some run) ≡ true
  is_cause x run colour place = ap (λ own. if own then run.1 == x.place else false) (eq-eqb run.0.0 x.colour.0 (sym (ap (λ (c : Colour). c.0) colour))) ∙ eq-eqb run.1 x.place (sym place)

  tail_ascends : (f : Item S P → ℕ) (x : Item S P) (xs : List (Item S P)) (own : Bool) → Ascends f (cond own (x ∷ xs) xs) → Ascends f xs
  tail_ascends f x xs true all = all.1
  tail_ascends f x xs false all = all

  -- where those of each colour ascend, no two are one
  pub each_apart : (f : Item S P → ℕ) (xs : List (Item S P)) → ((c : Colour) → Ascends f (filter (on c) xs)) → Pairs Apart xs
  each_apart f [] all = tt
  each_apart f (x ∷ xs) all = (all_from (λ y. Apart x y) xs (λ y there is. one (all x.colour) y there is), each_apart f xs (λ c. tail_ascends f x (filter (on c) xs) (on c x) (all c))) where
    above : (y : Item S P) (ys : List (Item S P)) → AllByRecursion (λ z. f x < f z) ys → Among y ys → f x < f y
    above y [] all there = elim there [ ]
    above y (z ∷ ys) all (inl is) = subst (λ w. f x < f w) (sym is) all.0
    above y (z ∷ ys) all (inr later) = above y ys all.1 later

    one : Ascends f (filter (on x.colour) (x ∷ xs)) → (y : Item S P) → Among y xs → x ≡ y → ⊥
    one ascends y there is =
        let first : Ascends f (x ∷ filter (on x.colour) xs) = subst (λ own. Ascends f (cond own (x ∷ filter (on x.colour) xs) (filter (on x.colour) xs))) (eq-eqb x.colour.0 x.colour.0 refl) ascends in
        let here = among_passes (on x.colour) xs y there (eq-eqb y.colour.0 x.colour.0 (ap (λ (z : Item S P). z.colour.0) (sym is))) in
        let less = above y (filter (on x.colour) xs) first.0 here in
        let same = ap f is in
        absurd (omega (arith, less, same))

module _ {S P : Type 0} (begin : Colour × Event × Option P) (loaded : Colour → List (Event × Option P)) (runs : Colour → List (HandlerRun S P)) (colours : ℕ) (caused : AreCaused begin loaded runs)
    (same : (c : Colour) → map given_to (runs c) ≡ loaded c) (own : (c : Colour) → AllByRecursion (λ run. run.colour.0 ≡ c.0) (runs c)) (beyond : (c : Colour) → colours ≤ c.0 → runs c ≡ []) where
  abbrev Is : Item S P → Type 0
  Is x = IsItem begin loaded runs colours caused same own beyond x

  abbrev lane_of : Colour → List (Item S P)
  lane_of c = lane begin loaded runs colours caused same own beyond c

  abbrev number : Item S P → ℕ
  number x = key begin loaded runs colours caused same own beyond x

  -- those whose cause passes a test, each once, in the order of what was put
  pub record ArePut (test : Option (Colour × ℕ) → Bool) (puts : List (Colour × Event × Option P)) : Type 0 where
    pub news : List (Item S P)
    pub are : map what news ≡ puts
    pub within : (z : Item S P) → Among z news → Is z × (test z.reg.cause ≡ true)
    pub there : (z : Item S P) → Is z → test z.reg.cause ≡ true → Among z news
    pub apart : Pairs Apart news

  put_of : (test : Option (Colour × ℕ) → Bool) (put : Registration P → Option (Event × Option P)) → ((one : Registration P) → put one ≡ (if test one.cause then Some one.event else None))
      → (puts : List (Colour × Event × Option P)) → ((c : Colour) → filter_map put (came begin loaded runs colours caused same own beyond c) ≡ puts_on c puts) → ArePut test puts
  put_of test put tests puts are =
      let kept : Colour → List (Item S P) = λ c. filter (λ x. test x.reg.cause) (lane_of c) in
      let regs = λ (c : Colour). lane-regs c 0 (came begin loaded runs colours caused same own beyond c) (runs c) (agree begin loaded runs colours caused same own beyond c) in
      let tag = tagged puts kept
      (λ c. those put (λ one. test one.cause) tests (lane_of c) ∙ ap (filter_map put) (regs c) ∙ are c)
      (λ c x there. (is_on begin loaded runs colours caused same own beyond c x (passes_among (λ (x : Item S P). test x.reg.cause) (lane_of c) x there).0).colour) in
      record {
        news = tag.0;
        are = tag.1;
        within = λ z there.
            let here : Among z (filter (on z.colour) tag.0) = among_passes (on z.colour) tag.0 z there (eq-eqb z.colour.0 z.colour.0 refl) in
            passes_among (λ (x : Item S P). test x.reg.cause) (lane_of z.colour) z (subst (λ l. Among z l) (tag.2 z.colour) here);
        there = λ z is passes.
            let here : Among z (kept z.colour) = among_passes (λ (x : Item S P). test x.reg.cause) (lane_of z.colour) z is passes in
            (passes_among (on z.colour) tag.0 z (subst (λ l. Among z l) (sym (tag.2 z.colour)) here)).0;
        apart = each_apart number tag.0 (λ c. subst (λ l. Ascends number l) (sym (tag.2 c)) (pairs-filter (λ x y. number x < number y) (λ (x : Item S P). test x.reg.cause) (lane_of c) (lane_ascends begin loaded runs colours caused same own beyond c)));
      }

  -- what a run put
  pub children : (x : Item S P) → Is x → ArePut (by_run x) x.run.puts
  children x is = put_of (by_run x) (put_by_run x.colour x.place) (run_tests x) x.run.puts (λ c. caused.by_run c x.colour x.place x.run (run_at begin loaded runs colours caused same own beyond x is))

  -- the first event
  pub firsts : ArePut by_nobody (begin ∷ [])
  firsts = put_of by_nobody put_first first_tests (begin ∷ []) caused.first

  -- what made it was made before
  pub cause_less : (w z : Item S P) → Is w → Is z → CausedBy w z → number w < number z
  cause_less w z is so by =
      let cause = caused.caused z.colour w.colour z.place w.place z.reg (reg_at begin loaded runs colours caused same own beyond z so) (cause_is w z by) in
      let one : w.reg ≡ cause.0 = same_Some w.reg cause.0 (sym (reg_at begin loaded runs colours caused same own beyond w is) ∙ cause.1) in
      key_less begin loaded runs colours caused same own beyond w z is (subst (λ (r : Registration P). r.at < z.reg.at) (sym one) cause.2)

  -- what nobody made is the first event
  pub made_by_none : (z : Item S P) → Is z → ((w : Item S P) → Is w → CausedBy w z → ⊥) → by_nobody z.reg.cause ≡ true
  made_by_none z is none = for z.reg.cause refl where
    for : (cause : Option (Colour × ℕ)) → z.reg.cause ≡ cause → by_nobody cause ≡ true
    for None by = refl
    for (Some run) by =
        let cause = caused.caused z.colour run.0 z.place run.1 z.reg (reg_at begin loaded runs colours caused same own beyond z is) by in
        let w = there_lane run.0 0 (came begin loaded runs colours caused same own beyond run.0) (runs run.0) (agree begin loaded runs colours caused same own beyond run.0) run.1 cause.0 cause.1 in
        let place = w.3 in
        absurd (none w.0 (item begin loaded runs colours caused same own beyond run.0 w.0 w.1) (ap (by_run w.0) by ∙ is_cause w.0 run w.2 (omega (arith, place))))
