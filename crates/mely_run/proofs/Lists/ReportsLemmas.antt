-- A report, to the list of a chain.
use Rattle.std.proofs.Common.{◌≡◌, ◌<◌, ◌+◌, ℕ, Bool, true, false, not, ◌&&◌, cond, eqb, max, List, [], ◌∷◌, ◌++◌, Option, None, Some, map, arith, refl, sym, ap, subst, ◌∙◌, inl, inr}
use Rattle.std.specs.List.{AllByRecursion}
use Rattle.std.specs.Option.{option_map_or}
use Rattle.std.proofs.lemmas.Bool.{cases_Bool, cond-true, cond-false, eqb-true, eq-eqb}
use Rattle.std.proofs.lemmas.Option.{none-some, same_Some}
use Rattle.mely_event.specs.declared.colour.Colour.{Colour}
use Rattle.mely_event.specs.declared.mark.Mark.{Mark}
use Rattle.mely_steal.specs.Classes.{class_of}
use Rattle.mely_steal.specs.Marks.{is_of, mark_of, without, after_replacement, IsOneEach}
use Rattle.mely_steal.specs.StealQueue.{is_worthy, after_entry, after_mark_change, keeps_class}
use Rattle.mely_steal.proofs.MarkLemmas.{none-parts, mark_of-colour, mark_of-same, mark_of-without_same}
use Rattle.mely_steal.proofs.StealLemmas.{class_of-worthy, worthy-class_of, worthy-parts, worthy-from}
use Rattle.mely_core.specs.CoreQueue.{CoreQueueState, HoldTogether, if_worthy, after_report, told_of}
use Rattle.mely_core.proofs.ChainLemmas.{if_worthy-some}
use Rattle.mely_machine.specs.Listing.{Listed, in_place_of, hears}
use Rattle.mely_run.specs.Corresponds.{listed_mark, times, Increases, IsListed}
use Rattle.mely_run.proofs.Lists.PushesLemmas.{increases_filter, all_filter, entering, entering_same, entering_other, times_replaced, IsSorted, past_more, entered_sorted}

module _ (cost now : ℕ) (c : Colour) (started worth : ℕ) where
  abbrev hear : Listed → Listed
  hear = hears cost now c started worth

  -- a mark of another colour doesn't hear it
  deaf : (l : Listed) → is_of c l.mark ≡ false → hear l ≡ l
  deaf l off = ap (λ b. cond (b && eqb l.mark.started started) (in_place_of cost l now (record l.mark { worth = max l.mark.worth worth })) l) off

  -- nor one of another period
  late : (l : Listed) → eqb l.mark.started started ≡ false → hear l ≡ l
  late l off = elim (is_of c l.mark) as (λ b. cond (b && eqb l.mark.started started) (in_place_of cost l now (record l.mark { worth = max l.mark.worth worth })) l ≡ l) [
    | true ↦ ap (λ b. cond b (in_place_of cost l now (record l.mark { worth = max l.mark.worth worth })) l) off
    | false ↦ refl
  ]

  heard : (l : Listed) → is_of c l.mark ≡ true → eqb l.mark.started started ≡ true → hear l ≡ in_place_of cost l now (record l.mark { worth = max l.mark.worth worth })
  heard l on same =
      ap (λ b. cond (b && eqb l.mark.started started) (in_place_of cost l now (record l.mark { worth = max l.mark.worth worth })) l) on
      ∙ ap (λ b. cond b (in_place_of cost l now (record l.mark { worth = max l.mark.worth worth })) l) same

  -- where no mark hears it, the list stays
  none_hears : (since : ℕ → ℕ) (xs : List Mark) → mark_of c xs ≡ None → map hear (map (listed_mark since) xs) ≡ map (listed_mark since) xs
  none_hears since [] none = refl
  none_hears since (x ∷ xs) none =
      let parts = none-parts c x xs none in
      let head = deaf (listed_mark since x) parts.0 in
      let rest = none_hears since xs parts.1 in
      λ i. head i ∷ rest i

  stays : (since : ℕ → ℕ) (xs : List Mark) → IsOneEach xs → told_of c started worth xs ≡ None → map hear (map (listed_mark since) xs) ≡ map (listed_mark since) xs
  stays since [] one none = refl
  stays since (x ∷ xs) one none = elim (cases_Bool (is_of c x)) [
    | inl met ↦
        let there : mark_of c (x ∷ xs) ≡ Some x = cond-true (is_of c x) (Some x) (mark_of c xs) met in
        let off : eqb x.started started ≡ false = elim (cases_Bool (eqb x.started started)) [
          | inl t ↦ absurd (none-some (record x { worth = max x.worth worth }) (sym none ∙ ap (after_report started worth) there ∙ cond-true (eqb x.started started) (Some (record x { worth = max x.worth worth })) None t))
          | inr f ↦ f
        ] in
        let head = late (listed_mark since x) off in
        let rest = none_hears since xs (mark_of-same c x.colour xs (sym (eqb-true x.colour.0 c.0 met)) ∙ one.0) in
        λ i. head i ∷ rest i
    | inr un ↦
        let head = deaf (listed_mark since x) un in
        let rest = stays since xs one.1 (ap (after_report started worth) (sym (cond-false (is_of c x) (Some x) (mark_of c xs) un)) ∙ none) in
        λ i. head i ∷ rest i
  ]

  -- the mark that hears it is in another's place
  module _ (since then : ℕ → ℕ) (old told : Mark) (of : told.colour.0 ≡ c.0) (head_is : hear (listed_mark since old) ≡ listed_mark then told) (other_is : (k : ℕ) → eqb k c.0 ≡ false → then k ≡ since k) where
    head_other : (x : Mark) → is_of c x ≡ false → hear (listed_mark since x) ≡ listed_mark then (cond (is_of told.colour x) told x)
    head_other x off =
        let out : is_of told.colour x ≡ false = ap (λ n. eqb x.colour.0 n) of ∙ off in
        deaf (listed_mark since x) off
        ∙ ap (λ (n : ℕ). record { mark = x; since = n }) (sym (other_is x.colour.0 off))
        ∙ ap (listed_mark then) (sym (cond-false (is_of told.colour x) told x out))

    tail_stays : (xs : List Mark) → mark_of c xs ≡ None → map hear (map (listed_mark since) xs) ≡ map (listed_mark then) (after_replacement told xs)
    tail_stays [] none = refl
    tail_stays (x ∷ xs) none =
        let parts = none-parts c x xs none in
        let head = head_other x parts.0 in
        let rest = tail_stays xs parts.1 in
        λ i. head i ∷ rest i

    one_hears : (xs : List Mark) → IsOneEach xs → mark_of c xs ≡ Some old → map hear (map (listed_mark since) xs) ≡ map (listed_mark then) (after_replacement told xs)
    one_hears [] one there = absurd (none-some old there)
    one_hears (x ∷ xs) one there = elim (cases_Bool (is_of c x)) [
      | inl met ↦
          let is : x ≡ old = same_Some x old (sym (cond-true (is_of c x) (Some x) (mark_of c xs) met) ∙ there) in
          let on : is_of told.colour x ≡ true = ap (λ n. eqb x.colour.0 n) of ∙ met in
          let head : hear (listed_mark since x) ≡ listed_mark then (cond (is_of told.colour x) told x) =
          ap (λ (m : Mark). hear (listed_mark since m)) is ∙ head_is ∙ ap (listed_mark then) (sym (cond-true (is_of told.colour x) told x on)) in
          let rest = tail_stays xs (mark_of-same c x.colour xs (sym (eqb-true x.colour.0 c.0 met)) ∙ one.0) in
          λ i. head i ∷ rest i
      | inr un ↦
          let head = head_other x un in
          let rest = one_hears xs one.1 (sym (cond-false (is_of c x) (Some x) (mark_of c xs) un) ∙ there) in
          λ i. head i ∷ rest i
    ]

module _ (now : ℕ) (queue : CoreQueueState) (together : HoldTogether queue) (list : List Listed) (is : IsListed now queue list) (c : Colour) (started worth : ℕ) where
  abbrev cost : ℕ
  cost = queue.cost

  abbrev pinned : ℕ
  pinned = queue.pinned

  -- nothing is told
  pub untold : told_of c started worth queue.chain ≡ None → IsListed (now + 1) queue (map (hears cost now c started worth) list)
  untold none = record {
    since = is.since;
    marks = ap (map (hears cost now c started worth)) is.marks ∙ stays cost now c started worth is.since queue.chain together.apart none;
    increases = is.increases;
    past = past_more now (times is.since queue.worthy) is.past;
  }

  record IsTold (told : Mark) : Type 0 where
    pub old : Mark
    pub there : mark_of c queue.chain ≡ Some old
    pub period : eqb old.started started ≡ true
    pub raised : told ≡ record old { worth = max old.worth worth }

  is_told : (told : Mark) (found : Option Mark) → mark_of c queue.chain ≡ found → after_report started worth found ≡ Some told → IsTold told
  is_told told None e h = absurd (none-some told h)
  is_told told (Some old) e h = elim (cases_Bool (eqb old.started started)) [
    | inl t ↦ record {
      old = old;
      there = e;
      period = t;
      raised = sym (same_Some (record old { worth = max old.worth worth }) told (sym (cond-true (eqb old.started started) (Some (record old { worth = max old.worth worth })) None t) ∙ h));
    }
    | inr f ↦ absurd (none-some told (sym (cond-false (eqb old.started started) (Some (record old { worth = max old.worth worth })) None f) ∙ h))
  ]

  module _ (old : Mark) (there : mark_of c queue.chain ≡ Some old) (period : eqb old.started started ≡ true) where
    abbrev new : Mark
    new = record old { worth = max old.worth worth }

    abbrev keeps : Bool
    keeps = eqb (class_of old.worth cost) (class_of new.worth cost)

    of : old.colour.0 ≡ c.0
    of = mark_of-colour c queue.chain old there

    on : is_of c old ≡ true
    on = eq-eqb old.colour.0 c.0 of

    -- the mark that is worth a steal is the chain's
    of_worthy : (o : Mark) → mark_of old.colour queue.worthy ≡ Some o → o ≡ old
    of_worthy o h =
        let both = if_worthy-some cost pinned (mark_of old.colour queue.chain) o (sym (together.same old.colour) ∙ h) in
        same_Some o old (sym both.0 ∙ mark_of-same old.colour c queue.chain of ∙ there)

    worthy_old : is_worthy cost pinned old ≡ true → mark_of old.colour queue.worthy ≡ Some old
    worthy_old on = together.same old.colour ∙ ap (if_worthy cost pinned) (mark_of-same old.colour c queue.chain of ∙ there) ∙ cond-true (is_worthy cost pinned old) (Some old) None on

    -- the marks without the colour
    abbrev rest : List Mark
    rest = without old.colour queue.worthy

    rest_increases : Increases (times is.since rest)
    rest_increases = increases_filter (λ m. is.since m.colour.0) (λ m. not (is_of old.colour m)) queue.worthy is.increases

    rest_past : AllByRecursion (λ n. n < now) (times is.since rest)
    rest_past = all_filter (λ m. is.since m.colour.0) (λ m. not (is_of old.colour m)) (λ n. n < now) queue.worthy is.past

    -- in the same class it keeps its place
    module _ (same : keeps ≡ true) where
      stays_out : is_worthy cost pinned new ≡ true → keeps_class cost new queue.worthy ≡ false → ⊥
      stays_out w off =
          let parts = worthy-parts cost pinned new w in
          let some : 0 < class_of new.worth cost = worthy-class_of new.worth cost parts.1 in
          let equal : class_of old.worth cost ≡ class_of new.worth cost = eqb-true (class_of old.worth cost) (class_of new.worth cost) same in
          let worthy : is_worthy cost pinned old ≡ true = worthy-from cost pinned old parts.0 (class_of-worthy old.worth cost (omega (arith, some, equal))) in
          let kept : keeps_class cost new queue.worthy ≡ true = ap (λ o. option_map_or (λ (m : Mark). eqb (class_of m.worth cost) (class_of new.worth cost)) o false) (worthy_old worthy) ∙ same in
          elim (keeps_class cost new queue.worthy) as (λ b. b ≡ true → b ≡ false → ⊥) [ true ↦ λ a b. cc | false ↦ λ a b. cc ] kept off

      sorted_out : IsSorted is.since (now + 1) rest
      sorted_out = record { increases = rest_increases; past = past_more now (times is.since rest) rest_past }

      sorted_same : IsSorted is.since (now + 1) (after_mark_change cost pinned new queue.worthy)
      sorted_same = elim (cases_Bool (keeps_class cost new queue.worthy)) [
        | inl met ↦ subst (IsSorted is.since (now + 1)) (sym (cond-true (keeps_class cost new queue.worthy) (after_replacement new queue.worthy) (after_entry cost pinned new rest) met)) (record {
          increases = subst Increases (sym (times_replaced is.since new queue.worthy)) is.increases;
          past = subst (AllByRecursion (λ n. n < now + 1)) (sym (times_replaced is.since new queue.worthy)) (past_more now (times is.since queue.worthy) is.past);
        })
        | inr un ↦ subst (IsSorted is.since (now + 1)) (sym (cond-false (keeps_class cost new queue.worthy) (after_replacement new queue.worthy) (after_entry cost pinned new rest) un))
            (elim (cases_Bool (is_worthy cost pinned new)) [
              | inl w ↦ absurd (stays_out w un)
              | inr w ↦ subst (IsSorted is.since (now + 1)) (sym (cond-false (is_worthy cost pinned new) (rest ++ new ∷ []) rest w)) sorted_out
            ])
      ]

      told_same : IsListed (now + 1) (record queue { chain = after_replacement new queue.chain; worthy = after_mark_change cost pinned new queue.worthy }) (map (hears cost now c started worth) list)
      told_same = record {
        since = is.since;
        marks = ap (map (hears cost now c started worth)) is.marks
            ∙ one_hears cost now c started worth is.since is.since old new of
            (heard cost now c started worth (listed_mark is.since old) on period ∙ ap (λ b. record { mark = new; since = cond b (is.since old.colour.0) now }) same)
            (λ k off. refl) queue.chain together.apart there;
        increases = sorted_same.increases;
        past = sorted_same.past;
      }

    -- in another class it enters that
    module _ (apart : keeps ≡ false) where
      abbrev then : ℕ → ℕ
      then = entering is.since new.colour.0 now

      leaves : keeps_class cost new queue.worthy ≡ false
      leaves = elim (cases_Bool (keeps_class cost new queue.worthy)) [ inl met ↦ absurd (by_found (mark_of old.colour queue.worthy) refl met) | inr un ↦ un ]
        where
          by_found : (found : Option Mark) → mark_of old.colour queue.worthy ≡ found → option_map_or (λ (m : Mark). eqb (class_of m.worth cost) (class_of new.worth cost)) found false ≡ true → ⊥
          by_found None e t = cc
          by_found (Some o) e t =
              let was : keeps ≡ true = ap (λ (m : Mark). eqb (class_of m.worth cost) (class_of new.worth cost)) (sym (of_worthy o e)) ∙ t in
              elim keeps as (λ b. b ≡ true → b ≡ false → ⊥) [ true ↦ λ a b. cc | false ↦ λ a b. cc ] was apart

      sorted_new : IsSorted then (now + 1) (after_mark_change cost pinned new queue.worthy)
      sorted_new = subst (IsSorted then (now + 1)) (sym (cond-false (keeps_class cost new queue.worthy) (after_replacement new queue.worthy) (after_entry cost pinned new rest) leaves))
          (entered_sorted is.since now cost pinned new rest (mark_of-without_same new.colour old.colour queue.worthy refl) rest_increases rest_past)

      told_new : IsListed (now + 1) (record queue { chain = after_replacement new queue.chain; worthy = after_mark_change cost pinned new queue.worthy }) (map (hears cost now c started worth) list)
      told_new = record {
        since = then;
        marks = ap (map (hears cost now c started worth)) is.marks
            ∙ one_hears cost now c started worth is.since then old new of
            (heard cost now c started worth (listed_mark is.since old) on period
            ∙ ap (λ b. record { mark = new; since = cond b (is.since old.colour.0) now }) apart
            ∙ ap (λ (n : ℕ). record { mark = new; since = n }) (sym (entering_same is.since new.colour.0 now new.colour.0 refl)))
            (λ k off. entering_other is.since new.colour.0 now k (ap (eqb k) of ∙ off)) queue.chain together.apart there;
        increases = sorted_new.increases;
        past = sorted_new.past;
      }

    told_either : IsListed (now + 1) (record queue { chain = after_replacement new queue.chain; worthy = after_mark_change cost pinned new queue.worthy }) (map (hears cost now c started worth) list)
    told_either = elim (cases_Bool keeps) [ inl same ↦ told_same same | inr apart ↦ told_new apart ]

  -- the mark of the colour hears it
  pub after_told : (told : Mark) → told_of c started worth queue.chain ≡ Some told
      → IsListed (now + 1) (record queue { chain = after_replacement told queue.chain; worthy = after_mark_change cost pinned told queue.worthy }) (map (hears cost now c started worth) list)
  after_told told h =
      let t = is_told told (mark_of c queue.chain) refl h in
      subst (λ (m : Mark). IsListed (now + 1) (record queue { chain = after_replacement m queue.chain; worthy = after_mark_change cost pinned m queue.worthy }) (map (hears cost now c started worth) list)) (sym t.raised)
      (told_either t.old t.there t.period)
