-- Marks that move between chains and hands.
use Rattle.std.proofs.Common.{◌≡◌, ℕ, ◌+◌, ◌≤◌, Bool, true, false, List, [], ◌∷◌, ◌++◌, Some, None, refl, sym, ◌∙◌, ap, subst, arith, inl, inr, eq-eqb, eqb-true}
use Rattle.std.proofs.lemmas.Bool.{cases_Bool, cond-true, cond-false, leb-true}
use Rattle.std.proofs.lemmas.List.{map-append}
use Rattle.std.proofs.lemmas.Option.{none-some, same_Some}
use Rattle.std.specs.Prelude.{not, ◌==◌, ◌&&◌, nat_le, slice_get, slice_set, is_some, IsSome, flat_map}
use Rattle.std.specs.List.{count_by}
use Rattle.mely_event.specs.declared.colour.Colour.{Colour}
use Rattle.mely_event.specs.declared.mark.Mark.{Mark}
use Rattle.mely_steal.specs.Marks.{mark_of, without, after_replacement, IsOneEach, is_of as is_mark_of}
use Rattle.mely_steal.proofs.MarkLemmas.{mark_of-same, without-none}
use Rattle.mely_core.specs.CoreQueue.{CoreQueueState}
use Rattle.mely_weave.specs.Side.{Readiness}
use Rattle.mely_weave.specs.Marks.{Placed, is_of, is_told, bit, MarksStand, marks_in_system, in_chains}
use Rattle.mely_weave.proofs.Marks.CountsLemmas.{Alike, lying, count_append, count_cons, count_held, count_held_hand, count_held_chain, count_one_hand, count_one_chain}
use Rattle.mely_weave.proofs.Marks.MarkLemmas.{stand_changed}

-- a chain is one mark with the others
count_without : (p : Placed → Bool) (core : ℕ) (c : Colour) (chain : List Mark) (mark : Mark) → IsOneEach chain → mark_of c chain ≡ Some mark → count_by p (lying core chain) ≡ count_by p (lying core (without c chain)) + bit (p (core, mark))
count_without p core c [] mark one there = absurd (none-some mark there)
count_without p core c (x ∷ xs) mark one there = elim (cases_Bool (is_mark_of c x)) [
  | inl hit ↦
      let is : x ≡ mark = same_Some x mark (sym (cond-true (is_mark_of c x) (Some x) (mark_of c xs) hit) ∙ there) in
      let none : mark_of c xs ≡ None = mark_of-same c x.colour xs (sym (eqb-true x.colour.0 c.0 hit)) ∙ one.0 in
      let rest : without c (x ∷ xs) ≡ xs = cond-false (not (is_mark_of c x)) (x ∷ without c xs) (without c xs) (ap not hit) ∙ without-none c xs none in
      let same : bit (p (core, x)) ≡ bit (p (core, mark)) = ap (λ (m : Mark). let q : Placed = (core, m) in bit (p q)) is in
      rw rest (omega (arith, count_cons p (core, x) (lying core xs), same))
  | inr miss ↦
      let more : mark_of c xs ≡ Some mark = sym (cond-false (is_mark_of c x) (Some x) (mark_of c xs) miss) ∙ there in
      let rest : without c (x ∷ xs) ≡ x ∷ without c xs = cond-true (not (is_mark_of c x)) (x ∷ without c xs) (without c xs) (ap not miss) in
      rw rest (omega (arith, count_without p core c xs mark one.1 more, count_cons p (core, x) (lying core xs), count_cons p (core, x) (lying core (without c xs))))
]

-- nothing is replaced where no mark is of the colour
replaced-none : (new : Mark) (xs : List Mark) → mark_of new.colour xs ≡ None → after_replacement new xs ≡ xs
replaced-none new [] none = refl
replaced-none new (x ∷ xs) none = elim (cases_Bool (is_mark_of new.colour x)) [
  | inl hit ↦ absurd (none-some x (sym none ∙ cond-true (is_mark_of new.colour x) (Some x) (mark_of new.colour xs) hit))
  | inr miss ↦
      let more : mark_of new.colour xs ≡ None = sym (cond-false (is_mark_of new.colour x) (Some x) (mark_of new.colour xs) miss) ∙ none in
      let rest : after_replacement new xs ≡ xs = replaced-none new xs more in
      ap (λ (y : Mark). y ∷ after_replacement new xs) (cond-false (is_mark_of new.colour x) new x miss) ∙ ap (λ (ys : List Mark). x ∷ ys) rest
]

-- a chain in which a mark was replaced is the new one with the others
count_replaced : (p : Placed → Bool) (core : ℕ) (new old : Mark) (chain : List Mark) → IsOneEach chain → mark_of new.colour chain ≡ Some old → count_by p (lying core (after_replacement new chain)) ≡ count_by p (lying core (without new.colour chain)) + bit (p (core, new))
count_replaced p core new old [] one there = absurd (none-some old there)
count_replaced p core new old (x ∷ xs) one there =
    let c : Colour = new.colour in
    elim (cases_Bool (is_mark_of new.colour x)) [
      | inl hit ↦
          let none : mark_of c xs ≡ None = mark_of-same c x.colour xs (sym (eqb-true x.colour.0 c.0 hit)) ∙ one.0 in
          let rest : without c (x ∷ xs) ≡ xs = cond-false (not (is_mark_of c x)) (x ∷ without c xs) (without c xs) (ap not hit) ∙ without-none c xs none in
          let now : after_replacement new (x ∷ xs) ≡ new ∷ xs = ap (λ (y : Mark). y ∷ after_replacement new xs) (cond-true (is_mark_of c x) new x hit) ∙ ap (λ (ys : List Mark). new ∷ ys) (replaced-none new xs none) in
          rw rest (ap (λ (l : List Mark). count_by p (lying core l)) now ∙ omega (arith, count_cons p (core, new) (lying core xs)))
      | inr miss ↦
          let more : mark_of c xs ≡ Some old = sym (cond-false (is_mark_of c x) (Some x) (mark_of c xs) miss) ∙ there in
          let rest : without c (x ∷ xs) ≡ x ∷ without c xs = cond-true (not (is_mark_of c x)) (x ∷ without c xs) (without c xs) (ap not miss) in
          let now : after_replacement new (x ∷ xs) ≡ x ∷ after_replacement new xs = ap (λ (y : Mark). y ∷ after_replacement new xs) (cond-false (is_mark_of c x) new x miss) in
          rw rest (ap (λ (l : List Mark). count_by p (lying core l)) now ∙ omega (arith, count_replaced p core new old xs one.1 more, count_cons p (core, x) (lying core (after_replacement new xs)), count_cons p (core, x) (lying core (without c xs))))
    ]

-- a chain that has a mark of the colour counts one
count_there : (core : ℕ) (c : Colour) (chain : List Mark) → IsSome (mark_of c chain) → 1 ≤ count_by (is_of c) (lying core chain)
count_there core c [] there = let no : is_some {T = Mark} None ≡ true = there in cc
count_there core c (x ∷ xs) there = elim (cases_Bool (is_mark_of c x)) [
  | inl hit ↦ omega (arith, count_cons (is_of c) (core, x) (lying core xs), ap bit hit)
  | inr miss ↦
      let more : IsSome (mark_of c xs) = subst IsSome (cond-false (is_mark_of c x) (Some x) (mark_of c xs) miss) there in
      omega (arith, count_there core c xs more, count_cons (is_of c) (core, x) (lying core xs))
]

bit_true : (b : Bool) → 1 ≤ bit b → b ≡ true
bit_true true h = refl
bit_true false h = absurd (omega (arith, h))

bit_at_most_one : (b : Bool) → bit b ≤ 1
bit_at_most_one true = omega arith
bit_at_most_one false = omega arith

and_first : (x y : Bool) → (x && y) ≡ true → x ≡ true
and_first true y h = refl
and_first false y h = cc

and_second : (x y : Bool) → (x && y) ≡ true → y ≡ true
and_second true y h = h
and_second false y h = cc

-- a mark among all is told, and its colour is ready
pub record IsSoundMark (of : Colour → Readiness) (m : Placed) : Type 0 where
  pub ready : (of m.1.colour).ready ≡ true
  pub owner : m.0 ≡ (of m.1.colour).owner
  pub begun : m.1.started ≡ (of m.1.colour).begun
  pub worth : m.1.worth ≤ (of m.1.colour).worth

pub sound_mark : (of : Colour → Readiness) (marks : List Placed) (m : Placed) → ((p : Placed → Bool) → bit (p m) ≤ count_by p marks) → MarksStand of marks → IsSoundMark of m
sound_mark of marks m among stands =
    let c : Colour = m.1.colour in
    let told : is_told of m ≡ true = elim (is_told of m) as (λ b. b ≡ is_told of m → b ≡ true) [
      | true ↦ λ e. refl
      | false ↦ λ e. absurd (let at : bit (not (is_told of m)) ≤ 0 = omega (arith, among (λ p. not (is_told of p)), stands.told) in let one : bit (not (is_told of m)) ≡ 1 = ap (λ b. bit (not b)) (sym e) in omega (arith, at, one))
    ] refl in
    let more : ((m.1.started == (of c).begun) && nat_le m.1.worth (of c).worth) ≡ true = and_second (m.0 == (of c).owner) ((m.1.started == (of c).begun) && nat_le m.1.worth (of c).worth) told in
    record {
      ready = bit_true (of c).ready (let own : bit (is_of c m) ≡ 1 = ap bit (eq-eqb c.0 c.0 refl) in omega (arith, own, among (is_of c), stands.one c));
      owner = eqb-true m.0 (of c).owner (and_first (m.0 == (of c).owner) ((m.1.started == (of c).begun) && nat_le m.1.worth (of c).worth) told);
      begun = eqb-true m.1.started (of c).begun (and_first (m.1.started == (of c).begun) (nat_le m.1.worth (of c).worth) more);
      worth = leb-true m.1.worth (of c).worth (and_second (m.1.started == (of c).begun) (nat_le m.1.worth (of c).worth) more);
    }

module _ {W : Type 0} (in_hand : W → List Placed) (of : Colour → Readiness) (chains : List CoreQueueState) (ws : List W) (stands : MarksStand of (marks_in_system in_hand chains ws)) where
  -- a mark in a hand is sound
  pub hand_sound : (k : ℕ) (w : W) (m : Placed) → slice_get ws k ≡ Some w → in_hand w ≡ m ∷ [] → IsSoundMark of m
  hand_sound k w m here holds =
      sound_mark of (marks_in_system in_hand chains ws) m
      (λ p. omega (arith, count_one_hand in_hand p k ws w here, ap (λ (l : List Placed). count_by p l) holds, count_cons p m [], count_append p (in_chains 0 chains) (flat_map in_hand ws))) stands

  -- so is a mark of a chain
  pub chain_sound : (core : ℕ) (queue : CoreQueueState) (c : Colour) (mark : Mark) → slice_get chains core ≡ Some queue → IsOneEach queue.chain → mark_of c queue.chain ≡ Some mark → IsSoundMark of (core, mark)
  chain_sound core queue c mark there one is =
      sound_mark of (marks_in_system in_hand chains ws) (core, mark)
      (λ p. omega (arith, count_one_chain p 0 core core chains queue (omega arith) there, count_without p core c queue.chain mark one is, count_append p (in_chains 0 chains) (flat_map in_hand ws))) stands

  -- no chain has a mark of the colour of a mark in a hand
  pub none_there : (k core : ℕ) (w : W) (m : Placed) (queue : CoreQueueState) → slice_get ws k ≡ Some w → in_hand w ≡ m ∷ [] → slice_get chains core ≡ Some queue → IsSome (mark_of m.1.colour queue.chain) → ⊥
  none_there k core w m queue here holds there is =
      let c : Colour = m.1.colour in
      let mine : bit (is_of c m) ≡ 1 = ap bit (eq-eqb c.0 c.0 refl) in
      omega (
        arith,
        count_one_hand in_hand (is_of c) k ws w here,
        ap (λ (l : List Placed). count_by (is_of c) l) holds,
        count_cons (is_of c) m [],
        mine,
        count_one_chain (is_of c) 0 core core chains queue (omega arith) there,
        count_there core c queue.chain is,
        count_append (is_of c) (in_chains 0 chains) (flat_map in_hand ws),
        stands.one c,
        bit_at_most_one (of c).ready,
      )

module _ {W : Type 0} (in_hand : W → List Placed) (chains : List CoreQueueState) (ws : List W) (k : ℕ) (w v : W) (here : slice_get ws k ≡ Some w) where
  abbrev before : List Placed
  before = marks_in_system in_hand chains ws

  abbrev after : List Placed
  after = marks_in_system in_hand chains (slice_set ws k v)

  of_list : (p : Placed → Bool) (l l' : List Placed) → l ≡ l' → count_by p l ≡ count_by p l'
  of_list p l l' e = ap (λ (x : List Placed). count_by p x) e

  -- a worker has in hand what it had
  pub hand_same : in_hand v ≡ in_hand w → Alike after before
  hand_same same p = omega (arith, count_held_hand in_hand p chains ws k w v here, of_list p (in_hand v) (in_hand w) same)

  -- it has a mark more
  pub hand_gains : (m : Placed) → in_hand w ≡ [] → in_hand v ≡ m ∷ [] → Alike after (m ∷ before)
  hand_gains m none one p = omega (arith, count_held_hand in_hand p chains ws k w v here, of_list p (in_hand w) [] none, of_list p (in_hand v) (m ∷ []) one, count_cons p m before, count_cons p m [])

  -- it has a mark less
  pub hand_gives : (m : Placed) → in_hand w ≡ m ∷ [] → in_hand v ≡ [] → Alike before (m ∷ after)
  hand_gives m one none p = omega (arith, count_held_hand in_hand p chains ws k w v here, of_list p (in_hand w) (m ∷ []) one, of_list p (in_hand v) [] none, count_cons p m after, count_cons p m [])

  -- it has another mark in the place of its own; the rest is what there is without it
  pub hand_swaps : (u : W) (m n : Placed) → in_hand w ≡ m ∷ [] → in_hand v ≡ n ∷ [] → in_hand u ≡ [] → Alike after (n ∷ marks_in_system in_hand chains (slice_set ws k u))
  hand_swaps u m n was is none p = omega (arith, count_held_hand in_hand p chains ws k w v here, count_held_hand in_hand p chains ws k w u here, of_list p (in_hand w) (m ∷ []) was, of_list p (in_hand v) (n ∷ []) is, of_list p (in_hand u) [] none, count_cons p n (marks_in_system in_hand chains (slice_set ws k u)), count_cons p m [], count_cons p n [])

module _ {W : Type 0} (in_hand : W → List Placed) (chains : List CoreQueueState) (ws : List W) (k core : ℕ) (w v : W) (old new : CoreQueueState) (here : slice_get ws k ≡ Some w) (there : slice_get chains core ≡ Some old) where
  abbrev moved : List Placed
  moved = marks_in_system in_hand (slice_set chains core new) (slice_set ws k v)

  of_marks : (p : Placed → Bool) (l l' : List Placed) → l ≡ l' → count_by p l ≡ count_by p l'
  of_marks p l l' e = ap (λ (x : List Placed). count_by p x) e

  -- the front of a chain goes into a hand
  pub marks_popped : (mark : Mark) → old.chain ≡ mark ∷ new.chain → in_hand w ≡ [] → in_hand v ≡ (core, mark) ∷ [] → Alike (marks_in_system in_hand chains ws) moved
  marks_popped mark front none one p =
      omega (arith, count_held in_hand p chains ws core k old new w v there here, of_marks p (in_hand w) [] none, of_marks p (in_hand v) ((core, mark) ∷ []) one, ap (λ (l : List Mark). count_by p (lying core l)) front, count_cons p (core, mark) (lying core new.chain), count_cons p (core, mark) [])

  -- a mark within a chain goes into a hand
  pub marks_picked : (c : Colour) (mark : Mark) → IsOneEach old.chain → mark_of c old.chain ≡ Some mark → new.chain ≡ without c old.chain → in_hand w ≡ [] → in_hand v ≡ (core, mark) ∷ [] → Alike (marks_in_system in_hand chains ws) moved
  marks_picked c mark one_each is rest none one p =
      omega (arith, count_held in_hand p chains ws core k old new w v there here, of_marks p (in_hand w) [] none, of_marks p (in_hand v) ((core, mark) ∷ []) one, count_without p core c old.chain mark one_each is, ap (λ (l : List Mark). count_by p (lying core l)) rest, count_cons p (core, mark) [])

  -- a mark in a hand goes to the back of a chain
  pub marks_pushed : (mark : Mark) → new.chain ≡ old.chain ++ mark ∷ [] → in_hand w ≡ (core, mark) ∷ [] → in_hand v ≡ [] → Alike (marks_in_system in_hand chains ws) moved
  marks_pushed mark back one none p =
      omega (
        arith,
        count_held in_hand p chains ws core k old new w v there here,
        of_marks p (in_hand w) ((core, mark) ∷ []) one,
        of_marks p (in_hand v) [] none,
        ap (λ (l : List Mark). count_by p (lying core l)) back,
        of_marks p (lying core (old.chain ++ mark ∷ [])) (lying core old.chain ++ (core, mark) ∷ []) (map-append (λ (m : Mark). let q : Placed = (core, m) in q) old.chain (mark ∷ [])),
        count_append p (lying core old.chain) ((core, mark) ∷ []),
        count_cons p (core, mark) [],
      )

  -- nothing moves
  pub marks_stay : new ≡ old → in_hand v ≡ in_hand w → Alike (marks_in_system in_hand chains ws) moved
  marks_stay same hand p =
      omega (arith, count_held in_hand p chains ws core k old new w v there here, of_marks p (in_hand v) (in_hand w) hand, ap (λ (q : CoreQueueState). count_by p (lying core q.chain)) same)

  -- a mark is raised where it lies, as far as a report that is told
  pub marks_raised : (of : Colour → Readiness) (was now : Mark) → now.colour ≡ was.colour → now.started ≡ was.started → now.worth ≤ (of was.colour).worth → IsOneEach old.chain → mark_of now.colour old.chain ≡ Some was → new.chain ≡ after_replacement now old.chain → in_hand v ≡ in_hand w
      → (told : is_told of (core, now) ≡ true) → MarksStand of (marks_in_system in_hand chains ws) → MarksStand of moved
  marks_raised of was now of_colour started worth one_each is rest hand told stands =
      let c : Colour = now.colour in
      let others : List Placed = marks_in_system in_hand (slice_set chains core (record old { chain = without c old.chain })) ws in
      let ready : (of c).ready ≡ true = subst (λ (d : Colour). (of d).ready ≡ true) (sym of_colour) (chain_sound in_hand of chains ws stands core old c was there one_each is).ready in
      stand_changed of of c (marks_in_system in_hand chains ws) moved ((core, was) ∷ []) ((core, now) ∷ []) others (λ d _. refl) (ap (λ (d : Colour). d.0) (sym of_colour), tt) (refl, tt) (sym (ap bit ready)) (sym (ap bit ready)) (told, tt)
      (λ p. omega (arith, count_held_chain in_hand p chains ws core old (record old { chain = without c old.chain }) there, count_without p core c old.chain was one_each is, count_cons p (core, was) others))
      (λ p. omega (
        arith,
        count_held in_hand p chains ws core k old new w v there here,
        of_marks p (in_hand v) (in_hand w) hand,
        count_held_chain in_hand p chains ws core old (record old { chain = without c old.chain }) there,
        count_replaced p core now was old.chain one_each is,
        ap (λ (l : List Mark). count_by p (lying core l)) rest,
        count_cons p (core, now) others,
      ))
      stands

module _ {W : Type 0} (in_hand : W → List Placed) (chains : List CoreQueueState) (ws : List W) (core : ℕ) (old new : CoreQueueState) (there : slice_get chains core ≡ Some old) where
  -- a chain gains a mark at its back
  pub chain_gains : (mark : Mark) → new.chain ≡ old.chain ++ mark ∷ [] → Alike (marks_in_system in_hand (slice_set chains core new) ws) ((core, mark) ∷ marks_in_system in_hand chains ws)
  chain_gains mark back p =
      omega (
        arith,
        count_held_chain in_hand p chains ws core old new there,
        ap (λ (l : List Mark). count_by p (lying core l)) back,
        ap (λ (l : List Placed). count_by p l) (map-append (λ (m : Mark). let q : Placed = (core, m) in q) old.chain (mark ∷ [])),
        count_append p (lying core old.chain) ((core, mark) ∷ []),
        count_cons p (core, mark) [],
        count_cons p (core, mark) (marks_in_system in_hand chains ws),
      )

  -- an unready colour has no mark in a chain
  pub none_in_chain : (of : Colour → Readiness) (c : Colour) → (of c).ready ≡ false → MarksStand of (marks_in_system in_hand chains ws) → IsSome (mark_of c old.chain) → ⊥
  none_in_chain of c unready stands is =
      omega (
        arith,
        count_one_chain (is_of c) 0 core core chains old (omega arith) there,
        count_there core c old.chain is,
        count_append (is_of c) (in_chains 0 chains) (flat_map in_hand ws),
        stands.one c,
        ap bit unready,
      )
