-- The mark that a thief takes: first of the highest class in the order of entering.
use Rattle.std.proofs.Common.{◌≡◌, ◌<◌, ◌≤◌, ◌+◌, ℕ, Bool, true, false, not, ◌&&◌, ◌||◌, cond, eqb, ltb, List, [], ◌∷◌, Option, None, Some, map, arith, refl, sym, ap, subst, ◌∙◌, inl, inr, ◌⊎◌}
use Rattle.std.specs.Prelude.{slice_get}
use Rattle.std.specs.List.{AllByRecursion, filter, find, list_any}
use Rattle.std.specs.Option.{option_or}
use Rattle.std.proofs.lemmas.Bool.{cases_Bool, cases_eq, cond-true, cond-false, eqb-true, eqb-false, eq-eqb, lt-ltb}
use Rattle.std.proofs.lemmas.Option.{none-some, same_Some}
use Rattle.std.proofs.lemmas.Map.Keys.{any_passes_from_place}
use Rattle.std.proofs.lemmas.List.Elements.{recursion_from_All}
use Rattle.std.proofs.lemmas.Bool.Decides.{nat_tests}
use Rattle.mely_event.specs.declared.colour.Colour.{Colour}
use Rattle.mely_event.specs.declared.mark.Mark.{Mark}
use Rattle.mely_steal.specs.Classes.{class_of}
use Rattle.mely_steal.specs.Marks.{is_of, mark_of, without}
use Rattle.mely_steal.specs.StealQueue.{is_worthy, pick_of, first_of}
use Rattle.mely_steal.proofs.StealLemmas.{worthy-from, class_of-cases, pick_of-mark_of, pick_of-none, each_is_mark_of}
use Rattle.mely_core.specs.CoreQueue.{CoreQueueState, HoldTogether, if_worthy}
use Rattle.mely_core.proofs.ChainLemmas.{if_worthy-some}
use Rattle.mely_weave.proofs.Entries.SideLemmas.{get_map}
use Rattle.mely_machine.specs.Listing.{Listed, class, to_steal, goes_before, first_to_steal, without_colour}
use Rattle.mely_run.specs.Corresponds.{listed_mark, times, Increases, IsListed}
use Rattle.mely_run.proofs.Lists.ElementsLemmas.{all_weaker, all_both, find_passes, find_has, find_place, find_none, find_only, filter_place, none_any, none_is}
use Rattle.mely_run.proofs.Lists.PushesLemmas.{increases_filter, all_filter}

-- ---- who goes before whom, by the class and by when it was entered

abbrev before : ℕ → ℕ → ℕ → ℕ → Bool
before ca sa cb sb = ltb cb ca || (eqb ca cb && ltb sa sb)

before_higher : (ca sa cb sb : ℕ) → cb < ca → before ca sa cb sb ≡ true
before_higher ca sa cb sb h = ap (λ b. b || (eqb ca cb && ltb sa sb)) (lt-ltb cb ca h)

not_before : (ca sa cb sb : ℕ) → before ca sa cb sb ≡ true → before cb sb ca sa ≡ false
not_before ca sa cb sb h = grind (arith, nat_tests)

not_itself : (c s : ℕ) → before c s c s ≡ false
not_itself c s = grind (arith, nat_tests)

before_same : (ca sa cb sb : ℕ) → ca ≡ cb → sa < sb → before ca sa cb sb ≡ true
before_same ca sa cb sb e h = grind (arith, nat_tests)

module _ (cost : ℕ) (since : ℕ → ℕ) where
  abbrev goes : Mark → Mark → Bool
  goes m o = goes_before cost (listed_mark since m) (listed_mark since o)

  abbrev has_class : ℕ → Mark → Bool
  has_class k m = eqb (class_of m.worth cost) k

  -- behind the first that passes, each entered later
  found_before : (p : Mark → Bool) (xs : List Mark) (m : Mark) → find p xs ≡ Some m → Increases (times since xs)
      → AllByRecursion (λ o. (o ≡ m) ⊎ ((p o ≡ true) → since m.colour.0 < since o.colour.0)) xs
  found_before p [] m h up = tt
  found_before p (x ∷ xs) m h up = elim (cases_Bool (p x)) [
    | inl met ↦
        let is : x ≡ m = same_Some x m (sym (cond-true (p x) (Some x) (find p xs) met) ∙ h) in
        (inl is, behind xs (subst (λ (z : Mark). AllByRecursion (λ n. since z.colour.0 < n) (times since xs)) is up.0))
    | inr un ↦ (
      inr (λ t. absurd (elim (p x) as (λ b. b ≡ true → b ≡ false → ⊥) [ true ↦ λ a c. cc | false ↦ λ a c. cc ] t un)),
      found_before p xs m (sym (cond-false (p x) (Some x) (find p xs) un) ∙ h) up.1,
    )
  ]
    where
      behind : (ys : List Mark) → AllByRecursion (λ n. since m.colour.0 < n) (times since ys) → AllByRecursion (λ o. (o ≡ m) ⊎ ((p o ≡ true) → since m.colour.0 < since o.colour.0)) ys
      behind [] all = tt
      behind (y ∷ ys) all = (inr (λ t. all.0), behind ys all.1)

  -- the first of a class, where none is of a higher one, goes before all others
  first_goes : (k : ℕ) (xs : List Mark) (m : Mark) → find (has_class k) xs ≡ Some m → Increases (times since xs) → AllByRecursion (λ o. class_of o.worth cost ≤ k) xs
      → AllByRecursion (λ o. (o ≡ m) ⊎ (goes m o ≡ true)) xs
  first_goes k xs m h up low =
      let of_k : class_of m.worth cost ≡ k = eqb-true (class_of m.worth cost) k (find_passes (has_class k) xs m h) in
      all_weaker
      (λ o. ((o ≡ m) ⊎ ((has_class k o ≡ true) → since m.colour.0 < since o.colour.0)) × (class_of o.worth cost ≤ k))
      (λ o. (o ≡ m) ⊎ (goes m o ≡ true)) xs
      (λ o both. elim both.0 [
        | inl is ↦ inl is
        | inr after ↦ inr (elim (cases_eq (class_of o.worth cost) k) [
          | inl e ↦ before_same (class_of m.worth cost) (since m.colour.0) (class_of o.worth cost) (since o.colour.0) (of_k ∙ sym e) (after (eq-eqb (class_of o.worth cost) k e))
          | inr apart ↦
              let less : class_of o.worth cost ≤ k = both.1 in
              before_higher (class_of m.worth cost) (since m.colour.0) (class_of o.worth cost) (since o.colour.0) (omega (arith, less, apart, of_k))
        ])
      ])
      (all_both _ _ xs (found_before (has_class k) xs m h up) low)

  -- what is picked goes before all others
  pick_goes : (xs : List Mark) (m : Mark) → AllByRecursion (λ o. cost < o.worth) xs → Increases (times since xs) → pick_of cost xs ≡ Some m → AllByRecursion (λ o. (o ≡ m) ⊎ (goes m o ≡ true)) xs
  pick_goes xs m worth up h =
      let at_most : AllByRecursion (λ o. class_of o.worth cost ≤ 3) xs =
      all_weaker (λ o. cost < o.worth) (λ o. class_of o.worth cost ≤ 3) xs
      (λ o w. elim (class_of-cases o.worth cost w) [ inl e ↦ omega arith | inr more ↦ elim more [ inl e ↦ omega arith | inr e ↦ omega arith ] ]) worth in
      by_first (first_of cost 3 xs) (first_of cost 2 xs) (first_of cost 1 xs) refl refl refl at_most h
    where
      less : (k : ℕ) → find (has_class (k + 1)) xs ≡ None → AllByRecursion (λ o. class_of o.worth cost ≤ k + 1) xs → AllByRecursion (λ o. class_of o.worth cost ≤ k) xs
      less k none low = all_weaker (λ o. (has_class (k + 1) o ≡ false) × (class_of o.worth cost ≤ k + 1)) (λ o. class_of o.worth cost ≤ k) xs
          (λ o both. let ne = eqb-false (class_of o.worth cost) (k + 1) both.0 in let le = both.1 in omega (arith, ne, le))
          (all_both _ _ xs (find_none (has_class (k + 1)) xs none) low)

      by_first : (three two one : Option Mark) → find (has_class 3) xs ≡ three → find (has_class 2) xs ≡ two → find (has_class 1) xs ≡ one
          → AllByRecursion (λ o. class_of o.worth cost ≤ 3) xs → option_or (option_or three two) one ≡ Some m → AllByRecursion (λ o. (o ≡ m) ⊎ (goes m o ≡ true)) xs
      by_first (Some x) two one e f g low p = first_goes 3 xs m (e ∙ p) up low
      by_first None (Some x) one e f g low p = first_goes 2 xs m (f ∙ p) up (less 2 e low)
      by_first None None one e f g low p = first_goes 1 xs m (g ∙ p) up (less 1 f (less 2 e low))

-- ---- the list of a chain

module _ (now : ℕ) (queue : CoreQueueState) (together : HoldTogether queue) (list : List Listed) (is : IsListed now queue list) where
  abbrev at : Mark → Listed
  at = listed_mark is.since

  abbrev able : Listed → Bool
  able l = is_worthy queue.cost queue.pinned l.mark

  -- a mark that may be stolen is a worthy one
  abbrev IsOfWorthy : Listed → Type 0
  IsOfWorthy l = (mark_of l.mark.colour queue.worthy ≡ Some l.mark) × (l ≡ at l.mark)

  worthy_of : (m : Mark) → mark_of m.colour queue.chain ≡ Some m → is_worthy queue.cost queue.pinned m ≡ true → mark_of m.colour queue.worthy ≡ Some m
  worthy_of m there on = together.same m.colour ∙ ap (if_worthy queue.cost queue.pinned) there ∙ cond-true (is_worthy queue.cost queue.pinned m) (Some m) None on

  all_able : (xs : List Mark) → AllByRecursion (λ m. mark_of m.colour queue.chain ≡ Some m) xs → AllByRecursion IsOfWorthy (filter able (map at xs))
  all_able [] all = tt
  all_able (x ∷ xs) all = elim (cases_Bool (able (at x))) [
    | inl on ↦ subst (AllByRecursion IsOfWorthy) (sym (cond-true (able (at x)) (at x ∷ filter able (map at xs)) (filter able (map at xs)) on)) ((worthy_of x all.0 on, refl), all_able xs all.1)
    | inr off ↦ subst (AllByRecursion IsOfWorthy) (sym (cond-false (able (at x)) (at x ∷ filter able (map at xs)) (filter able (map at xs)) off)) (all_able xs all.1)
  ]

  ables : AllByRecursion IsOfWorthy (to_steal queue.cost queue.pinned list)
  ables = subst (λ (ls : List Listed). AllByRecursion IsOfWorthy (filter able ls)) (sym is.marks)
      (all_able queue.chain (recursion_from_All (λ m. mark_of m.colour queue.chain ≡ Some m) queue.chain (each_is_mark_of queue.chain together.apart)))

  -- nothing may be stolen where nothing is picked
  pub no_pick : pick_of queue.cost queue.worthy ≡ None → first_to_steal queue.cost queue.pinned list ≡ None
  no_pick h =
      let empty : queue.worthy ≡ [] = pick_of-none queue.cost queue.worthy together.worthy.worthy h in
      let none : to_steal queue.cost queue.pinned list ≡ [] = none_is IsOfWorthy (to_steal queue.cost queue.pinned list) (λ l of. none-some l.mark (ap (mark_of l.mark.colour) (sym empty) ∙ of.0)) ables in
      ap (λ (ls : List Listed). find (λ l. not (list_any (λ other. goes_before queue.cost other l) ls)) ls) none

  -- a thief takes the mark that is picked
  module _ (m : Mark) (h : pick_of queue.cost queue.worthy ≡ Some m) where
    abbrev passes : Listed → Bool
    passes l = not (list_any (λ other. goes_before queue.cost other l) (to_steal queue.cost queue.pinned list))

    in_chain : (mark_of m.colour queue.chain ≡ Some m) × (queue.cost < m.worth) × (queue.pinned ≤ m.colour.0)
    in_chain = if_worthy-some queue.cost queue.pinned (mark_of m.colour queue.chain) m (sym (together.same m.colour) ∙ pick_of-mark_of queue.cost queue.worthy m together.worthy.apart h)

    place : (j : ℕ) × (slice_get (to_steal queue.cost queue.pinned list) j ≡ Some (at m))
    place =
        let in_list = find_place (is_of m.colour) queue.chain m in_chain.0 in
        let there : slice_get list in_list.0 ≡ Some (at m) = ap (λ (ls : List Listed). slice_get ls in_list.0) is.marks ∙ get_map at queue.chain in_list.0 m in_list.1 in
        filter_place able list (at m) in_list.0 there (worthy-from queue.cost queue.pinned m in_chain.2 in_chain.1)

    -- of two that may be stolen, it is the one, or goes before the other
    compared : AllByRecursion (λ l. (l ≡ at m) ⊎ (goes_before queue.cost (at m) l ≡ true)) (to_steal queue.cost queue.pinned list)
    compared = all_weaker IsOfWorthy (λ l. (l ≡ at m) ⊎ (goes_before queue.cost (at m) l ≡ true)) (to_steal queue.cost queue.pinned list)
        (λ l of. elim (find_has (λ o. (o ≡ m) ⊎ (goes queue.cost is.since m o ≡ true)) (is_of l.mark.colour) queue.worthy l.mark
        (pick_goes queue.cost is.since queue.worthy m (recursion_from_All (λ o. queue.cost < o.worth) queue.worthy together.worthy.worthy) is.increases h) of.0) [
          | inl same ↦ inl (of.1 ∙ ap at same)
          | inr first ↦ inr (subst (λ (k : Listed). goes_before queue.cost (at m) k ≡ true) (sym of.1) first)
        ])
        ables

    it_passes : passes (at m) ≡ true
    it_passes = ap not (none_any (λ other. goes_before queue.cost other (at m)) (to_steal queue.cost queue.pinned list)
        (all_weaker (λ l. (l ≡ at m) ⊎ (goes_before queue.cost (at m) l ≡ true)) (λ l. goes_before queue.cost l (at m) ≡ false) (to_steal queue.cost queue.pinned list)
        (λ l is_or. elim is_or [
          | inl same ↦ subst (λ (k : Listed). goes_before queue.cost k (at m) ≡ false) (sym same) (not_itself (class queue.cost (at m)) (at m).since)
          | inr first ↦ not_before (class queue.cost (at m)) (at m).since (class queue.cost l) l.since first
        ])
        compared))

    only : AllByRecursion (λ l. (l ≡ at m) ⊎ (passes l ≡ false)) (to_steal queue.cost queue.pinned list)
    only = all_weaker (λ l. (l ≡ at m) ⊎ (goes_before queue.cost (at m) l ≡ true)) (λ l. (l ≡ at m) ⊎ (passes l ≡ false)) (to_steal queue.cost queue.pinned list)
        (λ l is_or. elim is_or [
          | inl same ↦ inl same
          | inr first ↦ inr (ap not (any_passes_from_place (λ other. goes_before queue.cost other l) (to_steal queue.cost queue.pinned list) place.0 (at m) place.1 first))
        ])
        compared

    pub picked_first : first_to_steal queue.cost queue.pinned list ≡ Some (at m)
    picked_first = find_only passes (to_steal queue.cost queue.pinned list) (at m) place.0 place.1 it_passes only

  -- the other marks are those of the other colours
  others : (c : Colour) (xs : List Mark) → without_colour c (map at xs) ≡ map at (without c xs)
  others c [] = refl
  others c (x ∷ xs) = elim (is_of c x) as (λ b. cond (not b) (at x ∷ without_colour c (map at xs)) (without_colour c (map at xs)) ≡ map at (cond (not b) (x ∷ without c xs) (without c xs))) [
    | true ↦ others c xs
    | false ↦ ap (λ ls. at x ∷ ls) (others c xs)
  ]

  pub after_pick : (c : Colour) → IsListed (now + 1) (record queue { chain = without c queue.chain; worthy = without c queue.worthy }) (without_colour c list)
  after_pick c = record {
    since = is.since;
    marks = ap (without_colour c) is.marks ∙ others c queue.chain;
    increases = increases_filter (λ m. is.since m.colour.0) (λ m. not (is_of c m)) queue.worthy is.increases;
    past = all_filter (λ m. is.since m.colour.0) (λ m. not (is_of c m)) (λ n. n < now + 1) queue.worthy
        (all_weaker (λ n. n < now) (λ n. n < now + 1) (times is.since queue.worthy) (λ n low. omega (arith, low)) is.past);
  }
