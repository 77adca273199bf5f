-- A list of marks and its chain, after a push and a pop.
use Rattle.std.proofs.Common.{◌≡◌, ◌<◌, ◌+◌, ℕ, Bool, true, false, not, cond, eqb, List, [], ◌∷◌, ◌++◌, None, map, arith, refl, sym, ap, subst, ◌∙◌}
use Rattle.std.specs.List.{AllByRecursion, filter}
use Rattle.std.proofs.lemmas.Bool.{cond-true, cond-false, eq-eqb}
use Rattle.std.proofs.lemmas.List.{map-append}
use Rattle.mely_event.specs.declared.colour.Colour.{Colour}
use Rattle.mely_event.specs.declared.mark.Mark.{Mark}
use Rattle.mely_steal.specs.Marks.{is_of, mark_of, without, after_replacement}
use Rattle.mely_steal.specs.StealQueue.{is_worthy, after_entry}
use Rattle.mely_steal.proofs.MarkLemmas.{none-parts, replaced-colour}
use Rattle.mely_core.specs.CoreQueue.{CoreQueueState}
use Rattle.mely_machine.specs.Listing.{Listed}
use Rattle.mely_run.specs.Corresponds.{listed_mark, times, Increases, IsListed}
use Rattle.mely_run.proofs.Lists.ElementsLemmas.{all_weaker, all_push}

-- ---- numbers that increase

increases_push : (ns : List ℕ) (n : ℕ) → Increases ns → AllByRecursion (λ k. k < n) ns → Increases (ns ++ n ∷ [])
increases_push [] n up below = (tt, tt)
increases_push (k ∷ ns) n up below = (all_push (λ other. k < other) ns n up.0 below.0, increases_push ns n up.1 below.1)

module _ {X : Type 0} (f : X → ℕ) (p : X → Bool) where
  pub all_filter : (P : ℕ → Type 0) (xs : List X) → AllByRecursion P (map f xs) → AllByRecursion P (map f (filter p xs))
  all_filter P [] all = tt
  all_filter P (x ∷ xs) all = elim (p x) as (λ b. AllByRecursion P (map f (cond b (x ∷ filter p xs) (filter p xs)))) [
    | true ↦ (all.0, all_filter P xs all.1)
    | false ↦ all_filter P xs all.1
  ]

  pub increases_filter : (xs : List X) → Increases (map f xs) → Increases (map f (filter p xs))
  increases_filter [] up = tt
  increases_filter (x ∷ xs) up = elim (p x) as (λ b. Increases (map f (cond b (x ∷ filter p xs) (filter p xs)))) [
    | true ↦ (all_filter (λ other. f x < other) xs up.0, increases_filter xs up.1)
    | false ↦ increases_filter xs up.1
  ]

-- ---- when each entered its class

-- the colour of a number entered its class in this step
abbrev pub entering : (ℕ → ℕ) → ℕ → ℕ → ℕ → ℕ
entering since colour now = λ k. cond (eqb k colour) now (since k)

pub entering_same : (since : ℕ → ℕ) (colour now k : ℕ) → k ≡ colour → entering since colour now k ≡ now
entering_same since colour now k e = cond-true (eqb k colour) now (since k) (eq-eqb k colour e)

pub entering_other : (since : ℕ → ℕ) (colour now k : ℕ) → eqb k colour ≡ false → entering since colour now k ≡ since k
entering_other since colour now k e = cond-false (eqb k colour) now (since k) e

-- where no mark is of the colour, nothing else changes
times_other : (since : ℕ → ℕ) (c : Colour) (now : ℕ) (xs : List Mark) → mark_of c xs ≡ None → times (entering since c.0 now) xs ≡ times since xs
times_other since c now [] none = refl
times_other since c now (x ∷ xs) none =
    let parts = none-parts c x xs none in
    let head = entering_other since c.0 now x.colour.0 parts.0 in
    let rest = times_other since c now xs parts.1 in
    λ i. head i ∷ rest i

listed_other : (since : ℕ → ℕ) (c : Colour) (now : ℕ) (xs : List Mark) → mark_of c xs ≡ None → map (listed_mark (entering since c.0 now)) xs ≡ map (listed_mark since) xs
listed_other since c now [] none = refl
listed_other since c now (x ∷ xs) none =
    let parts = none-parts c x xs none in
    let head : listed_mark (entering since c.0 now) x ≡ listed_mark since x = ap (λ (n : ℕ). record { mark = x; since = n }) (entering_other since c.0 now x.colour.0 parts.0) in
    let rest = listed_other since c now xs parts.1 in
    λ i. head i ∷ rest i

-- a mark keeps its time in another's place
pub times_replaced : (since : ℕ → ℕ) (new : Mark) (xs : List Mark) → times since (after_replacement new xs) ≡ times since xs
times_replaced since new [] = refl
times_replaced since new (x ∷ xs) =
    let head = ap since (replaced-colour new x) in
    let rest = times_replaced since new xs in
    λ i. head i ∷ rest i

-- worthy marks stand in the order of entering
pub record IsSorted (since : ℕ → ℕ) (now : ℕ) (marks : List Mark) : Type 0 where
  pub increases : Increases (times since marks)
  pub past : AllByRecursion (λ n. n < now) (times since marks)

pub past_more : (now : ℕ) (ns : List ℕ) → AllByRecursion (λ n. n < now) ns → AllByRecursion (λ n. n < now + 1) ns
past_more now ns past = all_weaker (λ n. n < now) (λ n. n < now + 1) ns (λ n low. omega (arith, low)) past

-- and so they do after a mark entered now
pub entered_sorted : (since : ℕ → ℕ) (now cost pinned : ℕ) (mark : Mark) (worthy : List Mark) → mark_of mark.colour worthy ≡ None → Increases (times since worthy) → AllByRecursion (λ n. n < now) (times since worthy)
    → IsSorted (entering since mark.colour.0 now) (now + 1) (after_entry cost pinned mark worthy)
entered_sorted since now cost pinned mark worthy none up past = elim (is_worthy cost pinned mark) as (λ b. IsSorted (entering since mark.colour.0 now) (now + 1) (cond b (worthy ++ mark ∷ []) worthy)) [
  | true ↦ record {
    increases = subst Increases (sym last) (increases_push (times since worthy) now up past);
    past = subst (AllByRecursion (λ n. n < now + 1)) (sym last) (all_push (λ n. n < now + 1) (times since worthy) now (past_more now (times since worthy) past) (omega arith));
  }
  | false ↦ record {
    increases = subst Increases (sym same) up;
    past = subst (AllByRecursion (λ n. n < now + 1)) (sym same) (past_more now (times since worthy) past);
  }
]
  where
    same : times (entering since mark.colour.0 now) worthy ≡ times since worthy
    same = times_other since mark.colour now worthy none

    last : times (entering since mark.colour.0 now) (worthy ++ mark ∷ []) ≡ times since worthy ++ now ∷ []
    last = map-append (λ (m : Mark). entering since mark.colour.0 now m.colour.0) worthy (mark ∷ []) ∙ (λ i. same i ++ entering_same since mark.colour.0 now mark.colour.0 refl i ∷ [])

-- ---- the calls

module _ (now : ℕ) (queue : CoreQueueState) (list : List Listed) (is : IsListed now queue list) where
  -- nothing happens
  pub later : IsListed (now + 1) queue list
  later = record {
    since = is.since;
    marks = is.marks;
    increases = is.increases;
    past = all_weaker (λ n. n < now) (λ n. n < now + 1) (times is.since queue.worthy) (λ n low. omega (arith, low)) is.past;
  }

  -- a mark is pushed
  pub after_push : (mark : Mark) → mark_of mark.colour queue.chain ≡ None → mark_of mark.colour queue.worthy ≡ None
      → IsListed (now + 1) (record queue { chain = queue.chain ++ mark ∷ []; worthy = after_entry queue.cost queue.pinned mark queue.worthy }) (list ++ record { mark = mark; since = now } ∷ [])
  after_push mark absent none =
      let sorted = entered_sorted is.since now queue.cost queue.pinned mark queue.worthy none is.increases is.past in
      record {
        since = entering is.since mark.colour.0 now;
        marks = sym (
            map-append (listed_mark (entering is.since mark.colour.0 now)) queue.chain (mark ∷ [])
            ∙ (λ i. listed_other is.since mark.colour now queue.chain absent i ++ record { mark = mark; since = entering_same is.since mark.colour.0 now mark.colour.0 refl i } ∷ [])
            ∙ ap (λ ls. ls ++ record { mark = mark; since = now } ∷ []) (sym is.marks)
            );
        increases = sorted.increases;
        past = sorted.past;
      }

  -- the front is popped
  pub after_pop : (mark : Mark) (chain : List Mark) → queue.chain ≡ mark ∷ chain
      → (list ≡ listed_mark is.since mark ∷ map (listed_mark is.since) chain)
      × IsListed (now + 1) (record queue { chain = chain; worthy = without mark.colour queue.worthy }) (map (listed_mark is.since) chain)
  unfolding later
  after_pop mark chain e = (
    is.marks ∙ ap (map (listed_mark is.since)) e,
    record {
      since = is.since;
      marks = refl;
      increases = increases_filter (λ m. is.since m.colour.0) (λ m. not (is_of mark.colour m)) queue.worthy is.increases;
      past = all_filter (λ m. is.since m.colour.0) (λ m. not (is_of mark.colour m)) (λ n. n < now + 1) queue.worthy later.past;
    },
  )
