-- Laws of classes, of the marks that are worth a steal, and of picks.
use Rattle.std.proofs.Common.{◌≡◌, ◌<◌, ◌≤◌, ◌==◌, ◌*◌, ◌⊎◌, ℕ, Bool, true, false, not, cond, leb, ltb, List, [], ◌∷◌, ◌++◌, Option, None, Some, All, IsNone, IfSome, ◌↔◌, find, arith, refl, sym, ap, subst, ◌∙◌, inl, inr}
use Rattle.std.specs.Option.{option_or, option_map_or}
use Rattle.std.proofs.lemmas.Bool.{cases_Bool, cond_both, true≢false, eqb-true, eq-eqb, ne_eqb, leb-false, leb-true, le-leb, lt-leb, lt-ltb, ltb-true, and_parts, and_from, and_left, cond-true, cond-false}
use Rattle.std.proofs.lemmas.Option.{none-some, same_Some}
use Rattle.std.proofs.lemmas.List.Elements.{All-nil, All-cons, All-head, All-tail, All-push, All-filter, All-map, All-weaker}
use Rattle.mely_event.specs.declared.colour.Colour.{Colour}
use Rattle.mely_event.specs.declared.mark.Mark.{Mark}
use Rattle.mely_steal.specs.Classes.{class_of}
use Rattle.mely_steal.specs.Marks.{is_of, mark_of, without, after_replacement, IsOneEach}
use Rattle.mely_steal.specs.StealQueue.{AreWorthy, is_worthy, after_entry, after_mark_change, keeps_class, first_of, pick_of}
use Rattle.mely_steal.proofs.MarkLemmas.{mark_of-same, mark_of-colour, without-none, replaced-colour, mark_of-append, mark_of-without_same, mark_of-without_other, mark_of-replaced_same, mark_of-replaced_other, AreApart-push, AreApart-without, AreApart-replaced}

-- a class over 0 is worth a steal
pub class_of-worthy : (worth cost : ℕ) → 0 < class_of worth cost → cost < worth
class_of-worthy worth cost h = elim (cases_Bool (leb worth cost)) [
  | inl t ↦ let none : class_of worth cost ≡ 0 = cond-true (leb worth cost) 0 (cond (leb worth (2 * cost)) 1 (cond (leb worth (4 * cost)) 2 3)) t in absurd (omega arith)
  | inr f ↦ leb-false worth cost f
]

-- and what is worth a steal is of class 1, 2 or 3
pub class_of-cases : (worth cost : ℕ) → cost < worth → (class_of worth cost ≡ 1) ⊎ ((class_of worth cost ≡ 2) ⊎ (class_of worth cost ≡ 3))
class_of-cases worth cost lt =
    let P : ℕ → Type 0 = λ k. (k ≡ 1) ⊎ ((k ≡ 2) ⊎ (k ≡ 3)) in
    let above : ℕ = cond (leb worth (4 * cost)) 2 3 in
    subst P (sym (cond-false (leb worth cost) 0 (cond (leb worth (2 * cost)) 1 above) (lt-leb worth cost lt)))
    (cond_both (leb worth (2 * cost)) 1 above P (λ t. inl refl)
    (λ f. cond_both (leb worth (4 * cost)) 2 3 P (λ t. inr (inl refl)) (λ f. inr (inr refl))))

pub worthy-class_of : (worth cost : ℕ) → cost < worth → 0 < class_of worth cost
worthy-class_of worth cost lt = elim (class_of-cases worth cost lt) [
  | inl one ↦ omega arith
  | inr more ↦ elim more [ inl two ↦ omega arith | inr three ↦ omega arith ]
]

-- what may be stolen, and what may not
pub worthy-parts : (cost pinned : ℕ) (m : Mark) → is_worthy cost pinned m ≡ true → (pinned ≤ m.colour.0) × (cost < m.worth)
worthy-parts cost pinned m h = let parts = and_parts (leb pinned m.colour.0) (ltb cost m.worth) h in (leb-true pinned m.colour.0 parts.0, ltb-true cost m.worth parts.1)

pub worthy-from : (cost pinned : ℕ) (m : Mark) → pinned ≤ m.colour.0 → cost < m.worth → is_worthy cost pinned m ≡ true
worthy-from cost pinned m loose worth = and_from (leb pinned m.colour.0) (ltb cost m.worth) (le-leb pinned m.colour.0 loose) (lt-ltb cost m.worth worth)

-- the first that passes is one of the list
pub find-All : (p : Mark → Bool) (P : Mark → Type 0) (xs : List Mark) (m : Mark) → All P xs → find p xs ≡ Some m → P m
find-All p P [] m all h = absurd (none-some m h)
find-All p P (x ∷ xs) m all h = elim (cases_Bool (p x)) [
  | inl t ↦ let is : x ≡ m = same_Some x m (sym (cond-true (p x) (Some x) (find p xs) t) ∙ h) in rw (sym is) (All-head P x xs all)
  | inr f ↦ find-All p P xs m (All-tail P x xs all) (sym (cond-false (p x) (Some x) (find p xs) f) ∙ h)
]

-- and it is the mark of its colour, where each colour has one
find-mark_of : (p : Mark → Bool) (xs : List Mark) (m : Mark) → IsOneEach xs → find p xs ≡ Some m → mark_of m.colour xs ≡ Some m
find-mark_of p [] m one h = absurd (none-some m h)
find-mark_of p (x ∷ xs) m one h = elim (cases_Bool (p x)) [
  | inl t ↦
      let is : x ≡ m = same_Some x m (sym (cond-true (p x) (Some x) (find p xs) t) ∙ h) in
      cond-true (is_of m.colour x) (Some x) (mark_of m.colour xs) (eq-eqb x.colour.0 m.colour.0 (ap (λ k. k.colour.0) is)) ∙ ap (λ k. Some k) is
  | inr f ↦
      let rest : mark_of m.colour xs ≡ Some m = find-mark_of p xs m one.1 (sym (cond-false (p x) (Some x) (find p xs) f) ∙ h) in
      let other : x.colour.0 ≡ m.colour.0 → ⊥ = λ e. none-some m (sym one.0 ∙ (mark_of-same x.colour m.colour xs e ∙ rest)) in
      cond-false (is_of m.colour x) (Some x) (mark_of m.colour xs) (ne_eqb x.colour.0 m.colour.0 other) ∙ rest
]

-- where none passes, the first doesn't
find-none_head : (p : Mark → Bool) (x : Mark) (xs : List Mark) → find p (x ∷ xs) ≡ None → p x ≡ true → ⊥
find-none_head p x xs h t = none-some x (sym h ∙ cond-true (p x) (Some x) (find p xs) t)

option_or-some : (a b : Option Mark) (m : Mark) → option_or a b ≡ Some m → (a ≡ Some m) ⊎ (b ≡ Some m)
option_or-some None b m h = inr h
option_or-some (Some x) b m h = inl h

option_or-none : (a b : Option Mark) → option_or a b ≡ None → (a ≡ None) × (b ≡ None)
option_or-none None b h = (refl, h)
option_or-none (Some x) b h = absurd (none-some x (sym h))

-- a pick is the first of its class
pick_of-find : (cost : ℕ) (xs : List Mark) (m : Mark) → pick_of cost xs ≡ Some m → (class : ℕ) × (first_of cost class xs ≡ Some m)
pick_of-find cost xs m h = elim (option_or-some (option_or (first_of cost 3 xs) (first_of cost 2 xs)) (first_of cost 1 xs) m h) [
  | inl higher ↦ elim (option_or-some (first_of cost 3 xs) (first_of cost 2 xs) m higher) [ inl three ↦ (3, three) | inr two ↦ (2, two) ]
  | inr one ↦ (1, one)
]

-- what holds of each mark holds of the pick
pub pick_of-All : (cost : ℕ) (P : Mark → Type 0) (xs : List Mark) (m : Mark) → All P xs → pick_of cost xs ≡ Some m → P m
pick_of-All cost P xs m all h = let first = pick_of-find cost xs m h in find-All (λ x. class_of x.worth cost == first.0) P xs m all first.1

-- the pick is the mark of its colour
pub pick_of-mark_of : (cost : ℕ) (xs : List Mark) (m : Mark) → IsOneEach xs → pick_of cost xs ≡ Some m → mark_of m.colour xs ≡ Some m
pick_of-mark_of cost xs m one h = let first = pick_of-find cost xs m h in find-mark_of (λ x. class_of x.worth cost == first.0) xs m one first.1

-- there is a pick wherever there is a mark that is worth a steal
pub pick_of-none : (cost : ℕ) (xs : List Mark) → All (λ m. cost < m.worth) xs → pick_of cost xs ≡ None → xs ≡ []
pick_of-none cost [] all h = refl
pick_of-none cost (x ∷ xs) all h =
    let P : Mark → Type 0 = λ m. cost < m.worth in
    let parts = option_or-none (option_or (first_of cost 3 (x ∷ xs)) (first_of cost 2 (x ∷ xs))) (first_of cost 1 (x ∷ xs)) h in
    let higher = option_or-none (first_of cost 3 (x ∷ xs)) (first_of cost 2 (x ∷ xs)) parts.0 in
    let k : ℕ = class_of x.worth cost in
    elim (class_of-cases x.worth cost (All-head P x xs all)) [
      | inl one ↦ absurd (find-none_head (λ m. class_of m.worth cost == 1) x xs parts.1 (eq-eqb k 1 one))
      | inr more ↦ elim more [
        | inl two ↦ absurd (find-none_head (λ m. class_of m.worth cost == 2) x xs higher.1 (eq-eqb k 2 two))
        | inr three ↦ absurd (find-none_head (λ m. class_of m.worth cost == 3) x xs higher.0 (eq-eqb k 3 three))
      ]
    ]

-- a list of worthy marks, with one more, one less, and one replaced
AreWorthy-push : (xs : List Mark) (n cost pinned : ℕ) (m : Mark) → AreWorthy (record { marks = xs; colours = n; cost = cost; pinned = pinned }) → m.colour.0 < n → mark_of m.colour xs ≡ None → pinned ≤ m.colour.0 → cost < m.worth
    → AreWorthy (record { marks = xs ++ m ∷ []; colours = n; cost = cost; pinned = pinned })
AreWorthy-push xs n cost pinned m kept lt none loose worth =
    let more = AreApart-push xs n m (record { below = kept.below; apart = kept.apart }) lt none in
    record { below = more.below; apart = more.apart; worthy = All-push (λ x. cost < x.worth) xs m kept.worthy worth; loose = All-push (λ x. pinned ≤ x.colour.0) xs m kept.loose loose }

pub AreWorthy-without : (c : Colour) (xs : List Mark) (n cost pinned : ℕ) → AreWorthy (record { marks = xs; colours = n; cost = cost; pinned = pinned }) → AreWorthy (record { marks = without c xs; colours = n; cost = cost; pinned = pinned })
AreWorthy-without c xs n cost pinned kept =
    let less = AreApart-without c xs n (record { below = kept.below; apart = kept.apart }) in
    record { below = less.below; apart = less.apart; worthy = All-filter (λ m. not (is_of c m)) (λ x. cost < x.worth) xs kept.worthy; loose = All-filter (λ m. not (is_of c m)) (λ x. pinned ≤ x.colour.0) xs kept.loose }

AreWorthy-replaced : (new : Mark) (xs : List Mark) (n cost pinned : ℕ) → AreWorthy (record { marks = xs; colours = n; cost = cost; pinned = pinned }) → cost < new.worth → AreWorthy (record { marks = after_replacement new xs; colours = n; cost = cost; pinned = pinned })
AreWorthy-replaced new xs n cost pinned kept worth =
    let put = AreApart-replaced new xs n (record { below = kept.below; apart = kept.apart }) in
    let P : Mark → Type 0 = λ m. cost < m.worth in
    let L : Mark → Type 0 = λ m. pinned ≤ m.colour.0 in
    record {
      below = put.below;
      apart = put.apart;
      worthy = All-map P (λ m. cond (is_of new.colour m) new m) xs (All-weaker P (λ m. P (cond (is_of new.colour m) new m)) (λ m lt. cond_both (is_of new.colour m) new m P (λ t. worth) (λ f. lt)) xs kept.worthy);
      loose = All-map L (λ m. cond (is_of new.colour m) new m) xs (All-weaker L (λ m. L (cond (is_of new.colour m) new m)) (λ m le. rw (replaced-colour new m) le) xs kept.loose);
    }

-- a mark that keeps its class is worth a steal
pub keeps_class-old : (cost : ℕ) (new : Mark) (o : Option Mark) → option_map_or (λ old. class_of old.worth cost == class_of new.worth cost) o false ≡ true
    → (old : Mark) × (o ≡ Some old) × (class_of old.worth cost ≡ class_of new.worth cost)
keeps_class-old cost new None h = absurd (true≢false (sym h))
keeps_class-old cost new (Some old) h = (old, refl, eqb-true (class_of old.worth cost) (class_of new.worth cost) h)

pub keeps_class-worthy : (cost : ℕ) (new : Mark) (xs : List Mark) → All (λ m. cost < m.worth) xs → keeps_class cost new xs ≡ true → cost < new.worth
keeps_class-worthy cost new xs all h =
    let P : Mark → Type 0 = λ m. cost < m.worth in
    let there = keeps_class-old cost new (mark_of new.colour xs) h in
    let old : cost < there.0.worth = find-All (λ m. is_of new.colour m) P xs there.0 all there.1 in
    let class : 0 < class_of there.0.worth cost = worthy-class_of there.0.worth cost old in
    let same : class_of there.0.worth cost ≡ class_of new.worth cost = there.2 in
    class_of-worthy new.worth cost (omega arith)

-- and of a colour that isn't pinned
pub keeps_class-loose : (cost pinned : ℕ) (new : Mark) (xs : List Mark) → All (λ m. pinned ≤ m.colour.0) xs → keeps_class cost new xs ≡ true → pinned ≤ new.colour.0
keeps_class-loose cost pinned new xs all h =
    let P : Mark → Type 0 = λ m. pinned ≤ m.colour.0 in
    let there = keeps_class-old cost new (mark_of new.colour xs) h in
    let old : pinned ≤ there.0.colour.0 = find-All (λ m. is_of new.colour m) P xs there.0 all there.1 in
    let same : there.0.colour.0 ≡ new.colour.0 = mark_of-colour new.colour xs there.0 there.1 in
    omega arith

-- a pinned colour has no mark, so a list without it is the list
absent-pinned : (pinned : ℕ) (c : Colour) (xs : List Mark) → All (λ m. pinned ≤ m.colour.0) xs → c.0 < pinned → mark_of c xs ≡ None
absent-pinned pinned c [] all lt = refl
absent-pinned pinned c (x ∷ xs) all lt =
    let P : Mark → Type 0 = λ m. pinned ≤ m.colour.0 in
    let le : pinned ≤ x.colour.0 = All-head P x xs all in
    cond-false (is_of c x) (Some x) (mark_of c xs) (ne_eqb x.colour.0 c.0 (λ e. absurd (omega arith))) ∙ absent-pinned pinned c xs (All-tail P x xs all) lt

pub without-pinned : (pinned : ℕ) (c : Colour) (xs : List Mark) → All (λ m. pinned ≤ m.colour.0) xs → c.0 < pinned → without c xs ≡ xs
without-pinned pinned c xs all lt = without-none c xs (absent-pinned pinned c xs all lt)

-- after a mark entered its class: what the list has of its colour, and of another
pub mark_of-entered_same : (cost pinned : ℕ) (new : Mark) (c : Colour) (xs : List Mark) → c.0 ≡ new.colour.0 → mark_of c xs ≡ None → mark_of c (after_entry cost pinned new xs) ≡ cond (is_worthy cost pinned new) (Some new) None
mark_of-entered_same cost pinned new c xs e h = elim (cases_Bool (is_worthy cost pinned new)) [
  | inl t ↦
      ap (mark_of c) (cond-true (is_worthy cost pinned new) (xs ++ new ∷ []) xs t)
      ∙ (mark_of-append c xs (new ∷ [])
      ∙ (ap (λ o. option_or o (mark_of c (new ∷ []))) h
      ∙ (cond-true (is_of c new) (Some new) None (eq-eqb new.colour.0 c.0 (sym e))
      ∙ sym (cond-true (is_worthy cost pinned new) (Some new) None t))))
  | inr f ↦ ap (mark_of c) (cond-false (is_worthy cost pinned new) (xs ++ new ∷ []) xs f) ∙ (h ∙ sym (cond-false (is_worthy cost pinned new) (Some new) None f))
]

option_or-nothing : (o : Option Mark) → option_or o None ≡ o
option_or-nothing None = refl
option_or-nothing (Some x) = refl

pub mark_of-push_other : (new : Mark) (c : Colour) (xs : List Mark) → (c.0 ≡ new.colour.0 → ⊥) → mark_of c (xs ++ new ∷ []) ≡ mark_of c xs
mark_of-push_other new c xs ne =
    mark_of-append c xs (new ∷ [])
    ∙ (ap (λ o. option_or (mark_of c xs) o) (cond-false (is_of c new) (Some new) None (ne_eqb new.colour.0 c.0 (λ e. ne (sym e))))
    ∙ option_or-nothing (mark_of c xs))

pub mark_of-entered_other : (cost pinned : ℕ) (new : Mark) (c : Colour) (xs : List Mark) → (c.0 ≡ new.colour.0 → ⊥) → mark_of c (after_entry cost pinned new xs) ≡ mark_of c xs
mark_of-entered_other cost pinned new c xs ne = cond_both (is_worthy cost pinned new) (xs ++ new ∷ []) xs (λ ys. mark_of c ys ≡ mark_of c xs) (λ t. mark_of-push_other new c xs ne) (λ f. refl)

-- after the mark of a colour became another: what the list has of its colour, and of another
pub mark_of-changed_same : (cost pinned : ℕ) (new : Mark) (c : Colour) (xs : List Mark) → c.0 ≡ new.colour.0 → All (λ m. cost < m.worth) xs → All (λ m. pinned ≤ m.colour.0) xs → mark_of c (after_mark_change cost pinned new xs) ≡ cond (is_worthy cost pinned new) (Some new) None
mark_of-changed_same cost pinned new c xs e all loose = elim (cases_Bool (keeps_class cost new xs)) [
  | inl t ↦
      let there = keeps_class-old cost new (mark_of new.colour xs) t in
      let old : mark_of c xs ≡ Some there.0 = mark_of-same c new.colour xs e ∙ there.1 in
      ap (mark_of c) (cond-true (keeps_class cost new xs) (after_replacement new xs) (after_entry cost pinned new (without new.colour xs)) t)
      ∙ (mark_of-replaced_same new there.0 c xs e old
      ∙ sym (cond-true (is_worthy cost pinned new) (Some new) None (worthy-from cost pinned new (keeps_class-loose cost pinned new xs loose t) (keeps_class-worthy cost new xs all t))))
  | inr f ↦
      ap (mark_of c) (cond-false (keeps_class cost new xs) (after_replacement new xs) (after_entry cost pinned new (without new.colour xs)) f)
      ∙ mark_of-entered_same cost pinned new c (without new.colour xs) e (mark_of-without_same c new.colour xs e)
]

pub mark_of-changed_other : (cost pinned : ℕ) (new : Mark) (c : Colour) (xs : List Mark) → (c.0 ≡ new.colour.0 → ⊥) → mark_of c (after_mark_change cost pinned new xs) ≡ mark_of c xs
mark_of-changed_other cost pinned new c xs ne = cond_both (keeps_class cost new xs) (after_replacement new xs) (after_entry cost pinned new (without new.colour xs)) (λ ys. mark_of c ys ≡ mark_of c xs)
    (λ t. mark_of-replaced_other new c xs ne)
    (λ f. mark_of-entered_other cost pinned new c (without new.colour xs) ne ∙ mark_of-without_other c new.colour xs ne)

-- each mark is the mark of its colour
pub each_is_mark_of : (xs : List Mark) → IsOneEach xs → All (λ m. mark_of m.colour xs ≡ Some m) xs
each_is_mark_of [] one = All-nil (λ m. mark_of m.colour [] ≡ Some m)
each_is_mark_of (x ∷ xs) one =
    let P : Mark → Type 0 = λ m. mark_of m.colour (x ∷ xs) ≡ Some m in
    let Q : Mark → Type 0 = λ m. mark_of m.colour xs ≡ Some m in
    let later : (m : Mark) → Q m → P m = λ m h.
    let other : x.colour.0 ≡ m.colour.0 → ⊥ = λ e. none-some m (sym one.0 ∙ (mark_of-same x.colour m.colour xs e ∙ h)) in
    cond-false (is_of m.colour x) (Some x) (mark_of m.colour xs) (ne_eqb x.colour.0 m.colour.0 other) ∙ h in
    All-cons P x xs (cond-true (is_of x.colour x) (Some x) (mark_of x.colour xs) (eq-eqb x.colour.0 x.colour.0 refl)) (All-weaker Q P later xs (each_is_mark_of xs one.1))

-- after a mark entered its class, and after the mark of a colour became another
pub AreWorthy-entered : (m : Mark) (xs : List Mark) (n cost pinned : ℕ) → AreWorthy (record { marks = xs; colours = n; cost = cost; pinned = pinned }) → m.colour.0 < n → mark_of m.colour xs ≡ None → AreWorthy (record { marks = after_entry cost pinned m xs; colours = n; cost = cost; pinned = pinned })
AreWorthy-entered m xs n cost pinned kept lt none =
    let Kept : List Mark → Type 0 = λ ys. AreWorthy (record { marks = ys; colours = n; cost = cost; pinned = pinned }) in
    cond_both (is_worthy cost pinned m) (xs ++ m ∷ []) xs Kept (λ t. let parts = worthy-parts cost pinned m t in AreWorthy-push xs n cost pinned m kept lt none parts.0 parts.1) (λ f. kept)

pub AreWorthy-changed : (m : Mark) (xs : List Mark) (n cost pinned : ℕ) → AreWorthy (record { marks = xs; colours = n; cost = cost; pinned = pinned }) → m.colour.0 < n → AreWorthy (record { marks = after_mark_change cost pinned m xs; colours = n; cost = cost; pinned = pinned })
AreWorthy-changed m xs n cost pinned kept lt =
    let Kept : List Mark → Type 0 = λ ys. AreWorthy (record { marks = ys; colours = n; cost = cost; pinned = pinned }) in
    cond_both (keeps_class cost m xs) (after_replacement m xs) (after_entry cost pinned m (without m.colour xs)) Kept
    (λ t. AreWorthy-replaced m xs n cost pinned kept (keeps_class-worthy cost m xs kept.worthy t))
    (λ f. AreWorthy-entered m (without m.colour xs) n cost pinned (AreWorthy-without m.colour xs n cost pinned kept) lt (mark_of-without_same m.colour m.colour xs refl))

-- nothing is picked exactly where there is no mark
pub pick_of-empty : (cost : ℕ) (xs : List Mark) (o : Option Mark) → All (λ m. cost < m.worth) xs → o ≡ pick_of cost xs → IsNone o ↔ (xs ≡ [])
pick_of-empty cost xs None all is = (λ h. pick_of-none cost xs all (sym is), λ e. refl)
pick_of-empty cost xs (Some m) all is = (λ h. absurd (true≢false h), λ e. absurd (none-some m (sym (is ∙ ap (pick_of cost) e))))

-- what holds of each mark holds of what is picked
pub pick_of-IfSome : (cost : ℕ) (P : Mark → Type 0) (xs : List Mark) (o : Option Mark) → All P xs → o ≡ pick_of cost xs → IfSome o P
pick_of-IfSome cost P xs None all is = tt
pick_of-IfSome cost P xs (Some m) all is = pick_of-All cost P xs m all (sym is)

-- what changes of a pinned colour
pub changed-pinned : (cost pinned : ℕ) (m : Mark) (xs : List Mark) → All (λ x. pinned ≤ x.colour.0) xs → m.colour.0 < pinned → after_mark_change cost pinned m xs ≡ xs
changed-pinned cost pinned m xs all lt =
    let none = absent-pinned pinned m.colour xs all lt in
    let idle : is_worthy cost pinned m ≡ false = and_left (leb pinned m.colour.0) (ltb cost m.worth) (lt-leb pinned m.colour.0 lt) in
    ap (λ o. cond (option_map_or (λ (old : Mark). class_of old.worth cost == class_of m.worth cost) o false) (after_replacement m xs) (after_entry cost pinned m (without m.colour xs))) none
    ∙ (ap (after_entry cost pinned m) (without-none m.colour xs none)
    ∙ cond-false (is_worthy cost pinned m) (xs ++ m ∷ []) xs idle)
