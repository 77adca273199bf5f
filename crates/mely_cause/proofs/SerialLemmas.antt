-- A run on threads is a run of one thread: the runs of all colours in the order in which their
-- events were registered.
use Rattle.std.proofs.Common.{◌≡◌, ℕ, ◌<◌, ◌≤◌, ◌==◌, Bool, true, false, List, [], ◌∷◌, ◌++◌, ◌⊎◌, Option, Some, None, if◌then◌else◌, cond, map, refl, sym, ◌∙◌, ap, ap₂, subst, inl, inr, arith}
use Rattle.std.specs.List.{AllByRecursion}
use Rattle.std.proofs.lemmas.Bool.{cases_lt, eq-eqb, eqb-false, eqb-true, ne_eqb}
use Rattle.std.proofs.lemmas.List.{map-append}
use Rattle.std.proofs.lemmas.Option.{same_Some}
use Rattle.mely_event.specs.declared.colour.Colour.{Colour}
use Rattle.mely_event.specs.declared.event.Event.{Event}
use Rattle.mely_tally.specs.Account.{HandlerRun}
use Rattle.mely_chain.specs.Runs.{Follow, RunThrough, given_to, runs_on}
use Rattle.mely_cause.specs.Causes.{AreCaused}
use Rattle.mely_cause.specs.Serial.{MadeByOne, RanAsByOne, states_after}
use Rattle.mely_cause.proofs.AmongLemmas.{Among, all_at, among_back, among_either, among_front, cut_at}
use Rattle.mely_cause.proofs.AscendLemmas.{Pairs, Ascends, pairs-append, pairs_across, pairs_back, pairs_front}
use Rattle.mely_cause.proofs.SerialPutLemmas.{Item, what}
use Rattle.mely_cause.proofs.SerialLaneLemmas.{IsItem, among_items, each, items, items_are, items_ascend, key, one_name, what_run}
use Rattle.mely_cause.proofs.SerialChildLemmas.{Apart, ArePut, CausedBy, by_nobody, by_run, cause_is, cause_less, children, firsts, made_by_none}

module _ {S P : Type 0} where
  -- a colour has a state, and its later runs lead from there to the state that is left
  pub record Leads (now left : Option S) (later : List (HandlerRun S P)) : Type 0 where
    pub from : S
    pub to : S
    pub is : now ≡ Some from
    pub end : left ≡ Some to
    pub follow : Follow from later to

  -- or it has no later runs, and what it has is left
  abbrev pub Stands : Option S → Option S → List (HandlerRun S P) → Type 0
  Stands now left later = Leads now left later ⊎ ((later ≡ []) × (left ≡ now))

  pub stands_end : (now left : Option S) → Stands now left [] → left ≡ now
  stands_end now left (inl leads) = leads.end ∙ ap (λ s. Some s) leads.follow ∙ sym leads.is
  stands_end now left (inr none) = none.1

  -- the state of a colour is that on which its next run is
  first_state : (now left : Option S) (run : HandlerRun S P) (later : List (HandlerRun S P)) → Stands now left (run ∷ later) → now ≡ Some run.state
  first_state now left run later (inl leads) = leads.is ∙ ap (λ s. Some s) (sym leads.follow.0)
  first_state now left run later (inr none) = let no = none.0 in absurd (cc)

  pub state_here : (states left : Colour → Option S) (run : HandlerRun S P) (later : List (HandlerRun S P)) → Stands (states run.colour) (left run.colour) (runs_on run.colour (run ∷ later)) → states run.colour ≡ Some run.state
  state_here states left run later stands = first_state (states run.colour) (left run.colour) run (runs_on run.colour later)
      (subst (λ own. Stands (states run.colour) (left run.colour) (cond own (run ∷ runs_on run.colour later) (runs_on run.colour later))) (eq-eqb run.colour.0 run.colour.0 refl) stands)

  pub stands_after : (states left : Colour → Option S) (run : HandlerRun S P) (later : List (HandlerRun S P)) (c : Colour) → Stands (states c) (left c) (runs_on c (run ∷ later)) → Stands (states_after states run c) (left c) (runs_on c later)
  stands_after states left run later c stands = for (run.colour.0 == c.0) refl stands where
    own : Stands (states c) (left c) (run ∷ runs_on c later) → Stands (Some run.becomes) (left c) (runs_on c later)
    own (inl leads) = inl (record { from = run.becomes; to = leads.to; is = refl; end = leads.end; follow = leads.follow.1 })
    own (inr none) = let no = none.0 in absurd (cc)

    for : (of : Bool) → (run.colour.0 == c.0) ≡ of → Stands (states c) (left c) (cond of (run ∷ runs_on c later) (runs_on c later)) → Stands (if c.0 == run.colour.0 then Some run.becomes else states c) (left c) (runs_on c later)
    for true is stands = subst (λ (of : Bool). Stands (if of then Some run.becomes else states c) (left c) (runs_on c later)) (sym (eq-eqb c.0 run.colour.0 (sym (eqb-true run.colour.0 c.0 is)))) (own stands)
    for false is stands = subst (λ (of : Bool). Stands (if of then Some run.becomes else states c) (left c) (runs_on c later)) (sym (ne_eqb c.0 run.colour.0 (λ same. eqb-false run.colour.0 c.0 is (sym same)))) stands

  none_among : (xs : List (Item S P)) → ((x : Item S P) → Among x xs → ⊥) → xs ≡ []
  none_among [] none = refl
  none_among (x ∷ xs) none = absurd (none x (inl refl))

module _ {S P : Type 0} (begin : Colour × Event × Option P) (loaded : Colour → List (Event × Option P)) (runs : Colour → List (HandlerRun S P)) (colours : ℕ) (caused : AreCaused begin loaded runs)
    (same : (c : Colour) → map given_to (runs c) ≡ loaded c) (own : (c : Colour) → AllByRecursion (λ run. run.colour.0 ≡ c.0) (runs c)) (beyond : (c : Colour) → colours ≤ c.0 → runs c ≡ []) (left : Colour → Option S) where
  abbrev Is : Item S P → Type 0
  Is x = IsItem begin loaded runs colours caused same own beyond x

  abbrev number : Item S P → ℕ
  number x = key begin loaded runs colours caused same own beyond x

  abbrev all : List (Item S P)
  all = items begin loaded runs colours caused same own beyond

  -- What is known where some have their runs yet to come: under way are, each once, those of them
  -- that were made by none of them.
  record Goes (rest under_way : List (Item S P)) (states : Colour → Option S) : Type 0 where
    rise : Ascends number rest
    are : (z : Item S P) → Among z rest → Is z
    up : (w z : Item S P) → Among w rest → Is z → number w < number z → Among z rest
    ready : (z : Item S P) → Among z under_way → Among z rest
    free : (w z : Item S P) → Among z under_way → Among w rest → CausedBy w z → ⊥
    under : (z : Item S P) → Among z rest → ((w : Item S P) → Among w rest → CausedBy w z → ⊥) → Among z under_way
    apart : Pairs Apart under_way
    stand : (c : Colour) → Stands (states c) (left c) (runs_on c (map (λ x. x.run) rest))

  -- one of them runs
  module _ (x : Item S P) (rest front back : List (Item S P)) (states : Colour → Option S) (goes : Goes (x ∷ rest) (front ++ x ∷ back) states) where
    mine : Is x
    mine = goes.are x (inl refl)

    put : ArePut begin loaded runs colours caused same own beyond (by_run x) x.run.puts
    put = children begin loaded runs colours caused same own beyond x mine

    above : (z : Item S P) → Among z rest → number x < number z
    above z there = all_at (λ z. number x < number z) rest z goes.rise.0 there

    not_in_rest : (z : Item S P) → z ≡ x → Among z rest → ⊥
    not_in_rest z is there = let less = above z there in let equal = ap number is in absurd (omega (arith, less, equal))

    -- what was under way beside it is among the later ones
    old_among : (z : Item S P) → Among z front ⊎ Among z back → Among z (front ++ x ∷ back)
    old_among z (inl there) = among_front front (x ∷ back) z there
    old_among z (inr there) = among_back front (x ∷ back) z (inr there)

    other : (z : Item S P) → Among z front ⊎ Among z back → z ≡ x → ⊥
    other z (inl there) is = pairs_across Apart front (x ∷ back) z x goes.apart there (inl refl) is
    other z (inr there) is = all_at (λ y. Apart x y) back z (pairs_back Apart front (x ∷ back) goes.apart).0 there (sym is)

    later_of : (z : Item S P) → (z ≡ x → ⊥) → Among z (x ∷ rest) → Among z rest
    later_of z not (inl is) = absurd (not is)
    later_of z not (inr there) = there

    old_ready : (z : Item S P) → Among z front ⊎ Among z back → Among z rest
    old_ready z there = later_of z (other z there) (goes.ready z (old_among z there))

    new_above : (z : Item S P) → Among z put.news → number x < number z
    new_above z there = let is = put.within z there in cause_less begin loaded runs colours caused same own beyond x z mine is.0 is.1

    new_ready : (z : Item S P) → Among z put.news → Among z rest
    new_ready z there =
        let less = new_above z there in
        later_of z (λ is. let equal = ap number is in absurd (omega (arith, less, equal))) (goes.up x z (inl refl) (put.within z there).0 less)

    -- whose run made something is one
    one_cause : (w z : Item S P) → Is w → CausedBy w z → CausedBy x z → w ≡ x
    one_cause w z is by mine_by =
        let names : (w.colour, w.place) ≡ (x.colour, x.place) = same_Some (w.colour, w.place) (x.colour, x.place) (sym (cause_is w z by) ∙ cause_is x z mine_by) in
        one_name begin loaded runs colours caused same own beyond w x is mine (ap (λ (n : Colour × ℕ). n.0) names) (ap (λ (n : Colour × ℕ). n.1) names)

    old_free : (w z : Item S P) → Among z front ⊎ Among z back → Among w rest → CausedBy w z → ⊥
    old_free w z there in_rest by = goes.free w z (old_among z there) (inr in_rest) by

    new_free : (w z : Item S P) → Among z put.news → Among w rest → CausedBy w z → ⊥
    new_free w z there in_rest by = not_in_rest w (one_cause w z (goes.are w (inr in_rest)) by (put.within z there).1) in_rest

    -- of those that were under way, and those that were put
    by_part : (Holds : Item S P → Type 0) → ((z : Item S P) → Among z front ⊎ Among z back → Holds z) → ((z : Item S P) → Among z put.news → Holds z) → (z : Item S P) → Among z (front ++ back ++ put.news) → Holds z
    by_part Holds old new z there = for (among_either (front ++ back) put.news z there) where
      for : Among z (front ++ back) ⊎ Among z put.news → Holds z
      for (inl here) = old z (among_either front back z here)
      for (inr here) = new z here

    from_old : (z : Item S P) → Among z rest → Among z front ⊎ Among z (x ∷ back) → Among z (front ++ back ++ put.news)
    from_old z in_rest (inl here) = among_front (front ++ back) put.news z (among_front front back z here)
    from_old z in_rest (inr (inl is)) = absurd (not_in_rest z is in_rest)
    from_old z in_rest (inr (inr here)) = among_front (front ++ back) put.news z (among_back front back z here)

    under_after : (z : Item S P) → Among z rest → ((w : Item S P) → Among w rest → CausedBy w z → ⊥) → Among z (front ++ back ++ put.news)
    under_after z in_rest none = for (by_run x z.reg.cause) refl where
      none_of : by_run x z.reg.cause ≡ false → (w : Item S P) → Among w (x ∷ rest) → CausedBy w z → ⊥
      none_of not w (inl is) by = let no = sym not ∙ subst (λ (y : Item S P). CausedBy y z) is by in absurd (cc)
      none_of not w (inr there) by = none w there by

      for : (of : Bool) → by_run x z.reg.cause ≡ of → Among z (front ++ back ++ put.news)
      for true by = among_back (front ++ back) put.news z (put.there z (goes.are z (inr in_rest)) by)
      for false not = from_old z in_rest (among_either front (x ∷ back) z (goes.under z (inr in_rest) (none_of not)))

    -- what was put was not under way before
    fresh : (z w : Item S P) → Among z front ⊎ Among z back → Among w put.news → Apart z w
    fresh z w old new is = goes.free x z (old_among z old) (inl refl) (subst (λ (y : Item S P). CausedBy x y) (sym is) (put.within w new).1)

    old_apart : (z w : Item S P) → Among z front → Among w back → Apart z w
    old_apart z w here there = pairs_across Apart front (x ∷ back) z w goes.apart here (inr there)

    apart_after : Pairs Apart (front ++ back ++ put.news)
    apart_after = pairs-append Apart (front ++ back) put.news
        (pairs-append Apart front back (pairs_front Apart front (x ∷ back) goes.apart) (pairs_back Apart front (x ∷ back) goes.apart).1 old_apart)
        put.apart
        (λ z w here there. fresh z w (among_either front back z here) there)

    after : Goes rest (front ++ back ++ put.news) (states_after states x.run)
    after = record {
      rise = goes.rise.1;
      are = λ z there. goes.are z (inr there);
      up = λ w z there is less. later_of z (λ same. let more = above w there in let equal = ap number same in absurd (omega (arith, more, equal, less))) (goes.up w z (inr there) is less);
      ready = by_part (λ z. Among z rest) old_ready new_ready;
      free = λ w z there. by_part (λ z. Among w rest → CausedBy w z → ⊥) (λ z old. old_free w z old) (λ z new. new_free w z new) z there;
      under = under_after;
      apart = apart_after;
      stand = λ c. stands_after states left x.run (map (λ x. x.run) rest) c (goes.stand c);
    }

  -- the first of them was made by none of them, so it is under way
  first_under : (x : Item S P) (rest under_way : List (Item S P)) (states : Colour → Option S) → Goes (x ∷ rest) under_way states → Among x under_way
  first_under x rest under_way states goes = goes.under x (inl refl) (λ w there by. not_before w there (cause_less begin loaded runs colours caused same own beyond w x (goes.are w there) (goes.are x (inl refl)) by)) where
    not_before : (w : Item S P) → Among w (x ∷ rest) → number w < number x → ⊥
    not_before w (inl same) less = let equal = ap number same in absurd (omega (arith, equal, less))
    not_before w (inr later) less = let more = all_at (λ z. number x < number z) rest w goes.rise.0 later in absurd (omega (arith, more, less))

  -- so one thread makes their runs
  made : (rest under_way : List (Item S P)) (states : Colour → Option S) → Goes rest under_way states → MadeByOne states (map what under_way) (map (λ x. x.run) rest) left
  made [] under_way states goes = (ap (map what) (none_among under_way goes.ready), λ c. stands_end (states c) (left c) (goes.stand c))
  made (x ∷ rest) under_way states goes =
      let cut = cut_at under_way x (first_under x rest under_way states goes) in
      let here : Goes (x ∷ rest) (cut.0 ++ x ∷ cut.1) states = subst (λ l. Goes (x ∷ rest) l states) cut.2 goes in
      let news = (put x rest cut.0 cut.1 states here).news in
      let puts : map what (cut.0 ++ cut.1 ++ news) ≡ map what cut.0 ++ map what cut.1 ++ x.run.puts =
      map-append what (cut.0 ++ cut.1) news ∙ ap₂ (λ l m. l ++ m) (map-append what cut.0 cut.1) (put x rest cut.0 cut.1 states here).are in (
        map what cut.0,
        map what cut.1,
        ap (map what) cut.2 ∙ map-append what cut.0 (x ∷ cut.1) ∙ ap (λ p. map what cut.0 ++ p ∷ map what cut.1) (what_run begin loaded runs colours caused same own beyond x (goes.are x (inl refl))),
        state_here states left x.run (map (λ x. x.run) rest) (goes.stand x.run.colour),
        subst (λ l. MadeByOne (states_after states x.run) l (map (λ x. x.run) rest) left) puts (made rest (cut.0 ++ cut.1 ++ news) (states_after states x.run) (after x rest cut.0 cut.1 states here)),
      )

  module _ (given : Colour → Option S) (stand : (c : Colour) → Stands (given c) (left c) (runs c)) where
    first_goes : Goes all (firsts begin loaded runs colours caused same own beyond).news given
    first_goes =
        let first = firsts begin loaded runs colours caused same own beyond in
        record {
          rise = items_ascend begin loaded runs colours caused same own beyond;
          are = λ z there. items_are begin loaded runs colours caused same own beyond z there;
          up = λ w z there is less. among_items begin loaded runs colours caused same own beyond z is;
          ready = λ z there. among_items begin loaded runs colours caused same own beyond z (first.within z there).0;
          free = λ w z there in_rest by. uncaused w z.reg.cause (first.within z there).1 by;
          under = λ z there none. let is = items_are begin loaded runs colours caused same own beyond z there in first.there z is (made_by_none begin loaded runs colours caused same own beyond z is (λ w is. none w (among_items begin loaded runs colours caused same own beyond w is)));
          apart = first.apart;
          stand = λ c. subst (λ l. Stands (given c) (left c) l) (sym (each begin loaded runs colours caused same own beyond c)) (stand c);
        } where
          uncaused : (w : Item S P) (cause : Option (Colour × ℕ)) → by_nobody cause ≡ true → by_run w cause ≡ true → ⊥
          uncaused w None none by = absurd (cc)
          uncaused w (Some run) none by = absurd (cc)

    pub ran_as_stands : RanAsByOne begin given left runs
    ran_as_stands = record {
      all = map (λ x. x.run) all;
      each = each begin loaded runs colours caused same own beyond;
      made = subst (λ l. MadeByOne given l (map (λ x. x.run) all) left) (firsts begin loaded runs colours caused same own beyond).are (made all (firsts begin loaded runs colours caused same own beyond).news given first_goes);
    }

-- The runs of all colours, which have their causes and follow one another on each colour, might
-- have been made by one thread.
pub ran_as_by_one : {S P : Type 0} (begin : Colour × Event × Option P) (given left : Colour → Option S) (loaded : Colour → List (Event × Option P)) (runs : Colour → List (HandlerRun S P)) (colours : ℕ)
    → AreCaused begin loaded runs
    → ((c : Colour) (first last : S) → given c ≡ Some first → left c ≡ Some last → RunThrough first (loaded c) last (runs c))
    → ((c : Colour) → AllByRecursion (λ run. run.colour.0 ≡ c.0) (runs c))
    → ((c : Colour) → c.0 < colours → (first : S) × (last : S) × (given c ≡ Some first) × (left c ≡ Some last))
    → ((c : Colour) → colours ≤ c.0 → (runs c ≡ []) × (loaded c ≡ []) × (left c ≡ given c))
    → RanAsByOne begin given left runs
ran_as_by_one begin given left loaded runs colours caused through own there beyond =
    ran_as_stands begin loaded runs colours caused (λ c. same c (cases_lt c.0 colours)) own (λ c high. (beyond c high).0) left given (λ c. stand c (cases_lt c.0 colours)) where
      same : (c : Colour) → (c.0 < colours) ⊎ (colours ≤ c.0) → map given_to (runs c) ≡ loaded c
      same c (inl low) = let has = there c low in (through c has.0 has.1 has.2 has.3).given
      same c (inr high) = let none = beyond c high in ap (map given_to) none.0 ∙ sym none.1

      stand : (c : Colour) → (c.0 < colours) ⊎ (colours ≤ c.0) → Stands (given c) (left c) (runs c)
      stand c (inl low) = let has = there c low in inl (record { from = has.0; to = has.1; is = has.2; end = has.3; follow = (through c has.0 has.1 has.2 has.3).follow })
      stand c (inr high) = let none = beyond c high in inr (none.0, none.2)
