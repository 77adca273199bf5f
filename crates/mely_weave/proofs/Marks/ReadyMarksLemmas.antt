-- The marks of the ready colours, in the chains of their owners.
use Rattle.std.proofs.Common.{◌≡◌, ◌≢◌, ℕ, zero, suc, ◌+◌, ◌≤◌, ◌<◌, Bool, true, false, cond, List, [], ◌∷◌, ◌++◌, Some, None, length, map, refl, ap, sym, ◌∙◌, subst, arith, inl, inr, zero-add, add-one, eq-eqb}
use Rattle.std.proofs.lemmas.Bool.{cases_Bool, cases_eq, cases_lt, eqb-true, ne_eqb, lt-ltb, le-ltb}
use Rattle.std.proofs.lemmas.Bool.Decides.{eqb_tells}
use Rattle.std.proofs.lemmas.List.{map-append, append-nil}
use Rattle.std.proofs.lemmas.List.Elements.{filter-append}
use Rattle.std.proofs.lemmas.List.FromFn.{filter_of_map_range_with_len_more}
use Rattle.std.specs.Prelude.{◌==◌, ◌&&◌, not, nat_lt, filter, slice_get}
use Rattle.std.specs.List.{count_by}
use Rattle.mely_event.specs.declared.colour.Colour.{Colour}
use Rattle.mely_event.specs.declared.mark.Mark.{Mark}
use Rattle.mely_history.specs.declared.setup.Setup.{Setup}
use Rattle.mely_history.specs.Setup.{shape_of, pinned_of}
use Rattle.mely_steal.specs.Marks.{mark_of}
use Rattle.mely_steal.specs.StealQueue.{after_entry, is_worthy}
use Rattle.mely_steal.proofs.MarkLemmas.{none-parts}
use Rattle.mely_steal.proofs.StealLemmas.{mark_of-push_other}
use Rattle.mely_core.specs.CoreQueue.{CoreQueueState, HoldTogether, if_worthy, empty_core}
use Rattle.mely_weave.specs.Side.{Readiness}
use Rattle.mely_weave.specs.Marks.{is_of, is_told, bit, in_chains, MarksStand}
use Rattle.mely_weave.specs.Gathering.{colours_below, is_ready_on, mark_for, marks_below, chain_of}
use Rattle.mely_weave.proofs.Marks.CountsLemmas.{lying, count_append, count_cons}
use Rattle.mely_weave.proofs.Marks.MarkLemmas.{told_where}

abbrev pub numbered : ℕ → Colour
numbered n = record { 0 = n }

-- a mark that is pushed on a chain into which these were pushed
pub pushed : (setup : Setup) (marks : List Mark) (mark : Mark) → chain_of setup (marks ++ mark ∷ []) ≡ record (chain_of setup marks) { chain = marks ++ mark ∷ []; worthy = after_entry (shape_of setup).steal_cost (pinned_of setup) mark (chain_of setup marks).worthy }
pushed setup marks mark = ap (λ worthy. record (chain_of setup marks) { chain = marks ++ mark ∷ []; worthy = worthy }) (filter-append (is_worthy (shape_of setup).steal_cost (pinned_of setup)) marks (mark ∷ []) ∙ one (is_worthy (shape_of setup).steal_cost (pinned_of setup) mark)) where
  one : (b : Bool) → filter (is_worthy (shape_of setup).steal_cost (pinned_of setup)) marks ++ cond b (mark ∷ []) [] ≡ cond b (filter (is_worthy (shape_of setup).steal_cost (pinned_of setup)) marks ++ mark ∷ []) (filter (is_worthy (shape_of setup).steal_cost (pinned_of setup)) marks)
  one true = refl
  one false = append-nil (filter (is_worthy (shape_of setup).steal_cost (pinned_of setup)) marks)

module _ (of : Colour → Readiness) (core n : ℕ) where
  map_cond : (b : Bool) (c : Colour) → map (mark_for of) (cond b (c ∷ []) []) ≡ cond b (mark_for of c ∷ []) []
  map_cond true c = refl
  map_cond false c = refl

  marks_more : marks_below of core (n + 1) ≡ marks_below of core n ++ cond (is_ready_on of core (numbered n)) (mark_for of (numbered n) ∷ []) []
  marks_more =
      ap (map (mark_for of)) (filter_of_map_range_with_len_more (is_ready_on of core) numbered 0 n n (zero-add n))
      ∙ map-append (mark_for of) (filter (is_ready_on of core) (colours_below n)) (cond (is_ready_on of core (numbered n)) (numbered n ∷ []) [])
      ∙ ap (λ more. marks_below of core n ++ more) (map_cond (is_ready_on of core (numbered n)) (numbered n))

  -- a ready colour of the core comes behind those below it
  marks_ready : is_ready_on of core (numbered n) ≡ true → marks_below of core (n + 1) ≡ marks_below of core n ++ mark_for of (numbered n) ∷ []
  marks_ready on = marks_more ∙ ap (λ b. marks_below of core n ++ cond b (mark_for of (numbered n) ∷ []) []) on

  -- another colour has no mark there
  pub marks_unready : is_ready_on of core (numbered n) ≡ false → marks_below of core (n + 1) ≡ marks_below of core n
  marks_unready off = marks_more ∙ ap (λ b. marks_below of core n ++ cond b (mark_for of (numbered n) ∷ []) []) off ∙ append-nil (marks_below of core n)

  -- the mark of a ready colour is pushed
  pub chain_ready : (setup : Setup) → is_ready_on of core (numbered n) ≡ true
      → record (chain_of setup (marks_below of core n)) { chain = marks_below of core n ++ mark_for of (numbered n) ∷ []; worthy = after_entry (shape_of setup).steal_cost (pinned_of setup) (mark_for of (numbered n)) (chain_of setup (marks_below of core n)).worthy } ≡ chain_of setup (marks_below of core (n + 1))
  chain_ready setup on = sym (ap (chain_of setup) (marks_ready on) ∙ pushed setup (marks_below of core n) (mark_for of (numbered n)))

-- no colour has a mark below its number
pub none_below : (of : Colour → Readiness) (core n k : ℕ) → k ≤ n → mark_of (numbered n) (marks_below of core k) ≡ None
none_below of core n zero low = refl
none_below of core n (suc k) low =
    let before : mark_of (numbered n) (marks_below of core k) ≡ None = none_below of core n k (omega arith) in
    subst (λ (m : ℕ). mark_of (numbered n) (marks_below of core m) ≡ None) (add-one k) (elim (cases_Bool (is_ready_on of core (numbered k))) [
      | inl on ↦ ap (mark_of (numbered n)) (marks_ready of core k on) ∙ mark_of-push_other (mark_for of (numbered k)) (numbered n) (marks_below of core k) (λ e. omega (arith, e, low)) ∙ before
      | inr off ↦ ap (mark_of (numbered n)) (marks_unready of core k off) ∙ before
    ])

-- both tests are passed
both : (a b : Bool) → (a && b) ≡ true → (a ≡ true) × (b ≡ true)
both true b h = (refl, h)
both false b h = cc

-- the marks of one chain are told
chain_told : (of : Colour → Readiness) (core n : ℕ) → count_by (λ p. not (is_told of p)) (lying core (marks_below of core n)) ≡ 0
chain_told of core zero = refl
chain_told of core (suc n) =
    let before = chain_told of core n in
    subst (λ (m : ℕ). count_by (λ p. not (is_told of p)) (lying core (marks_below of core m)) ≡ 0) (add-one n) (elim (cases_Bool (is_ready_on of core (numbered n))) [
      | inl on ↦
          let mark : Mark = mark_for of (numbered n) in
          let owner : core ≡ (of (numbered n)).owner = sym (eqb-true (of (numbered n)).owner core (both (of (numbered n)).ready ((of (numbered n)).owner == core) on).1) in
          let told : is_told of (core, mark) ≡ true = told_where of core mark owner refl (omega arith) in
          ap (λ marks. count_by (λ p. not (is_told of p)) (lying core marks)) (marks_ready of core n on)
          ∙ ap (count_by (λ p. not (is_told of p))) (map-append (λ m. (core, m)) (marks_below of core n) (mark ∷ []))
          ∙ omega (arith, before, count_append (λ p. not (is_told of p)) (lying core (marks_below of core n)) ((core, mark) ∷ []), ap (λ b. bit (not b)) told)
      | inr off ↦ ap (λ marks. count_by (λ p. not (is_told of p)) (lying core marks)) (marks_unready of core n off) ∙ before
    ])

-- whether the chain of a core has a mark of the colour, of those below a number
abbrev has_mark : (Colour → Readiness) → Colour → ℕ → ℕ → Bool
has_mark of c n core = is_ready_on of core c && nat_lt c.0 n

pub never : (b : Bool) → (b && false) ≡ false
never true = refl
never false = refl

-- one colour more makes no difference to another
less_same : (m n : ℕ) → (n ≡ m → ⊥) → nat_lt m (n + 1) ≡ nat_lt m n
less_same m n other = elim (cases_lt m n) [
  | inl low ↦ lt-ltb m (n + 1) (omega (arith, low)) ∙ sym (lt-ltb m n low)
  | inr high ↦ le-ltb m (n + 1) (let apart : n ≢ m = other in omega (arith, high, apart)) ∙ sym (le-ltb m n high)
]

chain_counts : (of : Colour → Readiness) (c : Colour) (core n : ℕ) → count_by (is_of c) (lying core (marks_below of core n)) ≡ bit (has_mark of c n core)
chain_counts of c core zero = sym (ap bit (ap (λ b. is_ready_on of core c && b) (le-ltb c.0 0 (omega arith)) ∙ never (is_ready_on of core c)))
chain_counts of c core (suc n) =
    subst (λ (m : ℕ). count_by (is_of c) (lying core (marks_below of core m)) ≡ bit (has_mark of c m core)) (add-one n) (elim (cases_Bool (is_ready_on of core (numbered n))) [
      | inl on ↦
          let mark : Mark = mark_for of (numbered n) in
          let more : count_by (is_of c) (lying core (marks_below of core (n + 1))) ≡ count_by (is_of c) (lying core (marks_below of core n)) + bit (n == c.0) =
          ap (λ marks. count_by (is_of c) (lying core marks)) (marks_ready of core n on)
          ∙ ap (count_by (is_of c)) (map-append (λ m. (core, m)) (marks_below of core n) (mark ∷ []))
          ∙ omega (arith, count_append (is_of c) (lying core (marks_below of core n)) ((core, mark) ∷ []), count_cons (is_of c) (core, mark) []) in
          elim (eqb_tells n c.0) [
            | inl same ↦
                let mine : is_ready_on of core c ≡ true = subst (λ (d : Colour). is_ready_on of core d ≡ true) (ap numbered same.1) on in
                let none : has_mark of c n core ≡ false = ap (λ b. is_ready_on of core c && b) (le-ltb c.0 n (omega (arith, same.1))) ∙ never (is_ready_on of core c) in
                let one : has_mark of c (n + 1) core ≡ true = ap (λ b. b && nat_lt c.0 (n + 1)) mine ∙ lt-ltb c.0 (n + 1) (omega (arith, same.1)) in
                omega (arith, more, chain_counts of c core n, ap bit none, ap bit one, ap bit same.0)
            | inr other ↦ omega (arith, more, chain_counts of c core n, ap bit other.0, ap (λ b. bit (is_ready_on of core c && b)) (less_same c.0 n other.1))
          ]
      | inr off ↦
          let as_before : count_by (is_of c) (lying core (marks_below of core (n + 1))) ≡ count_by (is_of c) (lying core (marks_below of core n)) = ap (λ marks. count_by (is_of c) (lying core marks)) (marks_unready of core n off) in
          elim (eqb_tells n c.0) [
            | inl same ↦
                let mine : is_ready_on of core c ≡ false = subst (λ (d : Colour). is_ready_on of core d ≡ false) (ap numbered same.1) off in
                omega (arith, as_before, chain_counts of c core n, ap (λ b. bit (b && nat_lt c.0 n)) mine, ap (λ b. bit (b && nat_lt c.0 (n + 1))) mine)
            | inr other ↦ omega (arith, as_before, chain_counts of c core n, ap (λ b. bit (is_ready_on of core c && b)) (less_same c.0 n other.1))
          ]
    ])

module _ (of : Colour → Readiness) (n : ℕ) where
  -- each chain from a core on has the marks of the ready colours of its core
  abbrev pub AreOwn : ℕ → List CoreQueueState → Type 0
  AreOwn core queues = (i : ℕ) (queue : CoreQueueState) → slice_get queues i ≡ Some queue → queue.chain ≡ marks_below of (core + i) n

  own_rest : (core : ℕ) (queue : CoreQueueState) (queues : List CoreQueueState) → AreOwn core (queue ∷ queues) → AreOwn (core + 1) queues
  own_rest core queue queues own i other at = own (suc i) other at ∙ ap (λ k. marks_below of k n) (omega arith)

  own_first : (core : ℕ) (queue : CoreQueueState) (queues : List CoreQueueState) → AreOwn core (queue ∷ queues) → lying core queue.chain ≡ lying core (marks_below of core n)
  own_first core queue queues own = ap (lying core) (own 0 queue refl ∙ ap (λ k. marks_below of k n) (omega arith))

  chains_told : (core : ℕ) (queues : List CoreQueueState) → AreOwn core queues → count_by (λ p. not (is_told of p)) (in_chains core queues) ≡ 0
  unfolding in_chains
  chains_told core [] own = refl
  chains_told core (queue ∷ queues) own =
      omega (arith, count_append (λ p. not (is_told of p)) (lying core queue.chain) (in_chains (core + 1) queues), ap (count_by (λ p. not (is_told of p))) (own_first core queue queues own), chain_told of core n, chains_told (core + 1) queues (own_rest core queue queues own))

  module _ (c : Colour) where
    -- where no chain has the mark of a colour
    chains_without : (core : ℕ) (queues : List CoreQueueState) → AreOwn core queues → ((k : ℕ) → core ≤ k → has_mark of c n k ≡ false) → count_by (is_of c) (in_chains core queues) ≡ 0
    unfolding in_chains
    chains_without core [] own none = refl
    chains_without core (queue ∷ queues) own none =
        omega (arith, count_append (is_of c) (lying core queue.chain) (in_chains (core + 1) queues), ap (count_by (is_of c)) (own_first core queue queues own), chain_counts of c core n, ap bit (none core (omega arith)), chains_without (core + 1) queues (own_rest core queue queues own) (λ k le. none k (omega (arith, le))))

    -- where one has it
    chains_with : (core owner : ℕ) (queues : List CoreQueueState) → AreOwn core queues → has_mark of c n owner ≡ true → ((k : ℕ) → (k ≡ owner → ⊥) → has_mark of c n k ≡ false) → core ≤ owner → owner < core + length queues → count_by (is_of c) (in_chains core queues) ≡ 1
    unfolding in_chains
    chains_with core owner [] own one others low high = absurd (omega (arith, low, high))
    chains_with core owner (queue ∷ queues) own one others low high =
        let split = count_append (is_of c) (lying core queue.chain) (in_chains (core + 1) queues) in
        let first = ap (count_by (is_of c)) (own_first core queue queues own) ∙ chain_counts of c core n in
        elim (cases_eq core owner) [
          | inl here ↦ omega (arith, split, first, ap (λ k. bit (has_mark of c n k)) here, ap bit one, chains_without (core + 1) queues (own_rest core queue queues own) (λ k le. others k (λ e. omega (arith, e, here, le))))
          | inr apart ↦ omega (arith, split, first, ap bit (others core apart), chains_with (core + 1) owner queues (own_rest core queue queues own) one others (let ne : core ≢ owner = apart in omega (arith, low, ne)) (omega (arith, high)))
        ]

  -- the marks of the ready colours of all cores, of which each has one, stand
  pub chained_stand : (queues : List CoreQueueState) → AreOwn 0 queues → ((c : Colour) → (of c).ready ≡ true → (c.0 < n) × ((of c).owner < length queues)) → MarksStand of (in_chains 0 queues)
  chained_stand queues own within = record {
    one = λ c. elim (cases_Bool (of c).ready) [
      | inl ready ↦
          let low = within c ready in
          let here : has_mark of c n (of c).owner ≡ true = ap (λ b. (b && ((of c).owner == (of c).owner)) && nat_lt c.0 n) ready ∙ ap (λ b. b && nat_lt c.0 n) (eq-eqb (of c).owner (of c).owner refl) ∙ lt-ltb c.0 n low.0 in
          let others : (k : ℕ) → (k ≡ (of c).owner → ⊥) → has_mark of c n k ≡ false = λ k apart. ap (λ b. ((of c).ready && b) && nat_lt c.0 n) (ne_eqb (of c).owner k (λ e. apart (sym e))) ∙ ap (λ b. b && nat_lt c.0 n) (never (of c).ready) in
          chains_with c 0 (of c).owner queues own here others (omega arith) (omega (arith, low.1)) ∙ sym (ap bit ready)
      | inr unready ↦ chains_without c 0 queues own (λ k low. ap (λ b. (b && ((of c).owner == k)) && nat_lt c.0 n) unready) ∙ sym (ap bit unready)
    ];
    told = chains_told 0 queues own;
  }

-- where no colour has a mark there is none
no_marks : (marks : List Mark) → ((c : Colour) → mark_of c marks ≡ None) → marks ≡ []
no_marks [] none = refl
no_marks (mark ∷ marks) none = absurd (let other = (none-parts mark.colour mark marks (none mark.colour)).0 in let same = eq-eqb mark.colour.0 mark.colour.0 refl in cc)

-- the stealing queue of an empty chain is empty
pub empty_worthy : (queue : CoreQueueState) → HoldTogether queue → queue.chain ≡ [] → queue.worthy ≡ []
empty_worthy queue together none = no_marks queue.worthy (λ c. together.same c ∙ ap (λ marks. if_worthy queue.cost queue.pinned (mark_of c marks)) none)

pub emptied : (queue : CoreQueueState) (colours cost pinned : ℕ) → HoldTogether queue → queue.chain ≡ [] → queue.colours ≡ colours → queue.cost ≡ cost → queue.pinned ≡ pinned → queue ≡ empty_core colours cost pinned
emptied queue colours cost pinned together none same_colours same_cost same_pinned = λ i. record { chain = none i; worthy = empty_worthy queue together none i; colours = same_colours i; cost = same_cost i; pinned = same_pinned i }
