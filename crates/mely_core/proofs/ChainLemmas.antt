-- Laws of a chain and its stealing queue.
use Rattle.std.proofs.Common.{◌≡◌, ◌<◌, ◌≤◌, ℕ, true, false, eqb, cond, map, List, [], ◌∷◌, ◌++◌, Option, None, Some, All, not, ltb, slice_get, arith, refl, sym, ap, subst, ◌∙◌, inl, inr}
use Rattle.std.specs.Option.{option_map, option_or}
use Rattle.std.proofs.lemmas.Bool.{cases_eq, cases_Bool, cond-true, cond-false, eq-eqb, true≢false, eqb-false, ne_eqb, or_parts, ltb-true, ltb-false, not_from_true, not_from_false}
use Rattle.std.proofs.lemmas.List.{map-append}
use Rattle.std.proofs.lemmas.Option.{none-some, same_Some}
use Rattle.std.proofs.lemmas.List.Elements.{All-weaker}
use Rattle.mely_event.specs.declared.colour.Colour.{Colour}
use Rattle.mely_event.specs.declared.mark.Mark.{Mark}
use Rattle.mely_steal.specs.Marks.{is_of, mark_of, without, after_replacement, IsOneEach}
use Rattle.mely_steal.specs.StealQueue.{is_worthy, after_entry, after_mark_change, pick_of}
use Rattle.mely_steal.proofs.MarkLemmas.{mark_of-same, mark_of-append, mark_of-without_same, mark_of-without_other, mark_of-replaced_same, mark_of-replaced_other, AreApart-push, AreApart-without, AreApart-replaced}
use Rattle.mely_steal.proofs.StealLemmas.{mark_of-entered_same, mark_of-entered_other, mark_of-push_other, mark_of-changed_same, mark_of-changed_other, each_is_mark_of, worthy-parts, worthy-from, find-All, pick_of-mark_of, AreWorthy-entered, AreWorthy-without, AreWorthy-changed}
use Rattle.mely_steal.specs.Links.{is_in, without_place}
use Rattle.mely_steal.specs.StealTable.{MarkTableState, StealTableState, SetsMark, mark_in, worthy_of}
use Rattle.mely_steal.proofs.LinkLemmas.{in-other, dropped-first, dropped-later}
use Rattle.mely_steal.proofs.EnterLemmas.{eqb-swap}
use Rattle.mely_core.specs.CoreQueue.{HoldTogether, chain_of, if_worthy}

-- of each colour the stealing queue has the mark that the chain has where that is worth a steal
abbrev pub AreSame : ℕ → ℕ → List Mark → List Mark → Type 0
AreSame cost pinned chain worthy = (c : Colour) → mark_of c worthy ≡ if_worthy cost pinned (mark_of c chain)

-- the mark that was pushed is the mark of its colour
mark_of-push_same : (m : Mark) (c : Colour) (xs : List Mark) → c.0 ≡ m.colour.0 → mark_of c xs ≡ None → mark_of c (xs ++ m ∷ []) ≡ Some m
mark_of-push_same m c xs e h =
    mark_of-append c xs (m ∷ [])
    ∙ (ap (λ o. option_or o (mark_of c (m ∷ []))) h
    ∙ cond-true (is_of c m) (Some m) None (eq-eqb m.colour.0 c.0 (sym e)))

-- after a mark of a new colour
same-push : (cost pinned : ℕ) (m : Mark) (chain worthy : List Mark) → AreSame cost pinned chain worthy → mark_of m.colour chain ≡ None → AreSame cost pinned (chain ++ m ∷ []) (after_entry cost pinned m worthy)
same-push cost pinned m chain worthy same none c = elim (cases_eq c.0 m.colour.0) [
  | inl e ↦
      let absent : mark_of c chain ≡ None = mark_of-same c m.colour chain e ∙ none in
      mark_of-entered_same cost pinned m c worthy e (same c ∙ ap (if_worthy cost pinned) absent)
      ∙ sym (ap (if_worthy cost pinned) (mark_of-push_same m c chain e absent))
  | inr ne ↦ mark_of-entered_other cost pinned m c worthy ne ∙ (same c ∙ sym (ap (if_worthy cost pinned) (mark_of-push_other m c chain ne)))
]

-- without a colour
same-without : (cost pinned : ℕ) (d : Colour) (chain worthy : List Mark) → AreSame cost pinned chain worthy → AreSame cost pinned (without d chain) (without d worthy)
same-without cost pinned d chain worthy same c = elim (cases_eq c.0 d.0) [
  | inl e ↦ mark_of-without_same c d worthy e ∙ sym (ap (if_worthy cost pinned) (mark_of-without_same c d chain e))
  | inr ne ↦ mark_of-without_other c d worthy ne ∙ (same c ∙ sym (ap (if_worthy cost pinned) (mark_of-without_other c d chain ne)))
]

-- after the mark of a colour became another
same-told : (cost pinned : ℕ) (new old : Mark) (chain worthy : List Mark) → AreSame cost pinned chain worthy → All (λ m. cost < m.worth) worthy → All (λ m. pinned ≤ m.colour.0) worthy → mark_of new.colour chain ≡ Some old → AreSame cost pinned (after_replacement new chain) (after_mark_change cost pinned new worthy)
same-told cost pinned new old chain worthy same all loose there c = elim (cases_eq c.0 new.colour.0) [
  | inl e ↦
      mark_of-changed_same cost pinned new c worthy e all loose
      ∙ sym (ap (if_worthy cost pinned) (mark_of-replaced_same new old c chain e (mark_of-same c new.colour chain e ∙ there)))
  | inr ne ↦ mark_of-changed_other cost pinned new c worthy ne ∙ (same c ∙ sym (ap (if_worthy cost pinned) (mark_of-replaced_other new c chain ne)))
]

-- a colour that the chain doesn't have is not in the stealing queue
pub absent-worthy : (cost pinned : ℕ) (c : Colour) (chain worthy : List Mark) → AreSame cost pinned chain worthy → mark_of c chain ≡ None → mark_of c worthy ≡ None
absent-worthy cost pinned c chain worthy same none = same c ∙ ap (if_worthy cost pinned) none

-- what is worth a steal
pub if_worthy-some : (cost pinned : ℕ) (o : Option Mark) (m : Mark) → if_worthy cost pinned o ≡ Some m → (o ≡ Some m) × (cost < m.worth) × (pinned ≤ m.colour.0)
if_worthy-some cost pinned None m h = absurd (none-some m h)
if_worthy-some cost pinned (Some x) m h = elim (cases_Bool (is_worthy cost pinned x)) [
  | inl t ↦
      let is : x ≡ m = same_Some x m (sym (cond-true (is_worthy cost pinned x) (Some x) None t) ∙ h) in
      let parts = worthy-parts cost pinned x t in
      let P : Mark → Type 0 = λ k. cost < k.worth in
      let L : Mark → Type 0 = λ k. pinned ≤ k.colour.0 in
      (ap (λ k. Some k) is, subst P is parts.1, subst L is parts.0)
  | inr f ↦ absurd (none-some m (sym (cond-false (is_worthy cost pinned x) (Some x) None f) ∙ h))
]

if_worthy-none : (cost pinned : ℕ) (m : Mark) → if_worthy cost pinned (Some m) ≡ None → pinned ≤ m.colour.0 → m.worth ≤ cost
if_worthy-none cost pinned m h loose = elim (cases_Bool (ltb cost m.worth)) [
  | inl t ↦ absurd (none-some m (sym h ∙ cond-true (is_worthy cost pinned m) (Some m) None (worthy-from cost pinned m loose (ltb-true cost m.worth t))))
  | inr f ↦ ltb-false cost m.worth f
]

-- a pick is in the chain
pub picked-there : (cost pinned : ℕ) (chain worthy : List Mark) (m : Mark) → AreSame cost pinned chain worthy → IsOneEach worthy → pick_of cost worthy ≡ Some m → (mark_of m.colour chain ≡ Some m) × (cost < m.worth) × (pinned ≤ m.colour.0)
picked-there cost pinned chain worthy m same one h = if_worthy-some cost pinned (mark_of m.colour chain) m (sym (same m.colour) ∙ pick_of-mark_of cost worthy m one h)

-- without a pick no mark of the chain is worth a steal
pub none-worthy : (cost pinned : ℕ) (chain worthy : List Mark) → AreSame cost pinned chain worthy → IsOneEach chain → worthy ≡ [] → All (λ m. pinned ≤ m.colour.0 → m.worth ≤ cost) chain
none-worthy cost pinned chain worthy same one e =
    All-weaker (λ m. mark_of m.colour chain ≡ Some m) (λ m. pinned ≤ m.colour.0 → m.worth ≤ cost)
    (λ m h. if_worthy-none cost pinned m (sym (ap (if_worthy cost pinned) h) ∙ (sym (same m.colour) ∙ ap (mark_of m.colour) e)))
    chain (each_is_mark_of chain one)

-- and where none is, there is no pick
pub no-pick : (cost pinned : ℕ) (chain worthy : List Mark) (m : Mark) → AreSame cost pinned chain worthy → IsOneEach worthy → All (λ x. pinned ≤ x.colour.0 → x.worth ≤ cost) chain → pick_of cost worthy ≡ Some m → ⊥
no-pick cost pinned chain worthy m same one all h =
    let there = picked-there cost pinned chain worthy m same one h in
    let P : Mark → Type 0 = λ x. pinned ≤ x.colour.0 → x.worth ≤ cost in
    let low : m.worth ≤ cost = find-All (λ x. is_of m.colour x) P chain m all there.0 there.2 in
    let high : cost < m.worth = there.1 in
    omega arith

-- a chain and its stealing queue with a mark more, without a colour, and with a mark replaced
hold-push : (m : Mark) (chain worthy : List Mark) (n cost pinned : ℕ) → HoldTogether (record { chain = chain; worthy = worthy; colours = n; cost = cost; pinned = pinned }) → m.colour.0 < n → mark_of m.colour chain ≡ None
    → HoldTogether (record { chain = chain ++ m ∷ []; worthy = after_entry cost pinned m worthy; colours = n; cost = cost; pinned = pinned })
hold-push m chain worthy n cost pinned held lt none =
    let more = AreApart-push chain n m (record { below = held.below; apart = held.apart }) lt none in
    record {
      below = more.below;
      apart = more.apart;
      worthy = AreWorthy-entered m worthy n cost pinned held.worthy lt (absent-worthy cost pinned m.colour chain worthy held.same none);
      same = same-push cost pinned m chain worthy held.same none;
    }

hold-without : (c : Colour) (chain worthy : List Mark) (n cost pinned : ℕ) → HoldTogether (record { chain = chain; worthy = worthy; colours = n; cost = cost; pinned = pinned })
    → HoldTogether (record { chain = without c chain; worthy = without c worthy; colours = n; cost = cost; pinned = pinned })
hold-without c chain worthy n cost pinned held =
    let less = AreApart-without c chain n (record { below = held.below; apart = held.apart }) in
    record { below = less.below; apart = less.apart; worthy = AreWorthy-without c worthy n cost pinned held.worthy; same = same-without cost pinned c chain worthy held.same }

hold-told : (new old : Mark) (chain worthy : List Mark) (n cost pinned : ℕ) → HoldTogether (record { chain = chain; worthy = worthy; colours = n; cost = cost; pinned = pinned }) → new.colour.0 < n → mark_of new.colour chain ≡ Some old
    → HoldTogether (record { chain = after_replacement new chain; worthy = after_mark_change cost pinned new worthy; colours = n; cost = cost; pinned = pinned })
hold-told new old chain worthy n cost pinned held lt there =
    let put = AreApart-replaced new chain n (record { below = held.below; apart = held.apart }) in
    record {
      below = put.below;
      apart = put.apart;
      worthy = AreWorthy-changed new worthy n cost pinned held.worthy lt;
      same = same-told cost pinned new old chain worthy held.same held.worthy.worthy held.worthy.loose there;
    }

-- the marks of a list of colours
abbrev pub marks_by : MarkTableState → List ℕ → List Mark
marks_by t l = map (λ colour. mark_in t colour) l

-- the mark of a colour that is in the list, and of one that isn't
pub mark_of-in : (t : MarkTableState) (c : Colour) (l : List ℕ) → is_in l c.0 ≡ true → mark_of c (marks_by t l) ≡ Some (mark_in t c.0)
mark_of-in t c [] h = absurd (true≢false (sym h))
mark_of-in t c (x ∷ l) h = elim (cases_eq c.0 x) [
  | inl e ↦ cond-true (eqb x c.0) (Some (mark_in t x)) (mark_of c (marks_by t l)) (eq-eqb x c.0 (sym e)) ∙ ap (λ z. Some (mark_in t z)) (sym e)
  | inr ne ↦
      cond-false (eqb x c.0) (Some (mark_in t x)) (mark_of c (marks_by t l)) (ne_eqb x c.0 (λ e. ne (sym e)))
      ∙ mark_of-in t c l (sym (in-other c.0 x l ne) ∙ h)
]

pub mark_of-out : (t : MarkTableState) (c : Colour) (l : List ℕ) → is_in l c.0 ≡ false → mark_of c (marks_by t l) ≡ None
mark_of-out t c [] off = refl
mark_of-out t c (x ∷ l) off =
    let parts = or_parts (eqb c.0 x) (is_in l c.0) off in
    cond-false (eqb x c.0) (Some (mark_in t x)) (mark_of c (marks_by t l)) (eqb-swap x c.0 ∙ parts.0) ∙ mark_of-out t c l parts.1

pub none-out : (t : MarkTableState) (c : Colour) (l : List ℕ) → mark_of c (marks_by t l) ≡ None → is_in l c.0 ≡ false
none-out t c l h = elim (cases_Bool (is_in l c.0)) [ inl t' ↦ absurd (none-some (mark_in t c.0) (sym h ∙ mark_of-in t c l t')) | inr f ↦ f ]

-- without a colour, with one more, and with the mark of one written
without-by : (t : MarkTableState) (c : Colour) (l : List ℕ) → without c (marks_by t l) ≡ marks_by t (without_place c.0 l)
without-by t c [] = refl
without-by t c (x ∷ l) = elim (cases_eq c.0 x) [
  | inl e ↦
      cond-false (not (eqb x c.0)) (mark_in t x ∷ without c (marks_by t l)) (without c (marks_by t l)) (not_from_true (eqb x c.0) (eq-eqb x c.0 (sym e)))
      ∙ (without-by t c l ∙ sym (ap (marks_by t) (cond-false (not (eqb c.0 x)) (x ∷ without_place c.0 l) (without_place c.0 l) (not_from_true (eqb c.0 x) (eq-eqb c.0 x e)))))
  | inr ne ↦
      cond-true (not (eqb x c.0)) (mark_in t x ∷ without c (marks_by t l)) (without c (marks_by t l)) (not_from_false (eqb x c.0) (ne_eqb x c.0 (λ e. ne (sym e))))
      ∙ (ap (λ ys. mark_in t x ∷ ys) (without-by t c l) ∙ sym (ap (marks_by t) (dropped-later c.0 x l ne)))
]

stay-by : (t u : MarkTableState) (m : Mark) (l : List ℕ) → SetsMark m t u → is_in l m.colour.0 ≡ false → marks_by u l ≡ marks_by t l
stay-by t u m [] sets off = refl
stay-by t u m (x ∷ l) sets off =
    let parts = or_parts (eqb m.colour.0 x) (is_in l m.colour.0) off in
    ap (λ k. k ∷ marks_by u l) (sets.others x (eqb-false m.colour.0 x parts.0)) ∙ ap (λ ys. mark_in t x ∷ ys) (stay-by t u m l sets parts.1)

push-by : (t u : MarkTableState) (m : Mark) (l : List ℕ) → SetsMark m t u → is_in l m.colour.0 ≡ false → marks_by u (l ++ m.colour.0 ∷ []) ≡ marks_by t l ++ m ∷ []
push-by t u m l sets off =
    map-append (λ (x : ℕ). mark_in u x) l (m.colour.0 ∷ [])
    ∙ (ap (λ ys. ys ++ mark_in u m.colour.0 ∷ []) (stay-by t u m l sets off) ∙ ap (λ k. marks_by t l ++ k ∷ []) sets.here)

told-by : (t u : MarkTableState) (m : Mark) (l : List ℕ) → SetsMark m t u → marks_by u l ≡ after_replacement m (marks_by t l)
told-by t u m [] sets = refl
told-by t u m (x ∷ l) sets =
    let here : mark_in u x ≡ cond (eqb x m.colour.0) m (mark_in t x) = elim (cases_eq m.colour.0 x) [
      | inl e ↦ ap (mark_in u) (sym e) ∙ (sets.here ∙ sym (cond-true (eqb x m.colour.0) m (mark_in t x) (eq-eqb x m.colour.0 (sym e))))
      | inr ne ↦ sets.others x ne ∙ sym (cond-false (eqb x m.colour.0) m (mark_in t x) (ne_eqb x m.colour.0 (λ e. ne (sym e))))
    ] in
    ap (λ k. k ∷ marks_by u l) here ∙ ap (λ ys. cond (eqb x m.colour.0) m (mark_in t x) ∷ ys) (told-by t u m l sets)

-- what a chain and its table become: these marks, these of them that may be stolen, and
-- the numbers as they were
pub record Becomes (l : List ℕ) (T : StealTableState) (xs : List ℕ) (U : StealTableState) (chain worthy : List Mark) : Type 0 where
  pub is : chain_of xs U ≡ record (chain_of l T) { chain = chain; worthy = worthy }
  pub holds : HoldTogether (chain_of xs U)

becomes : (l : List ℕ) (T : StealTableState) (xs : List ℕ) (U : StealTableState) (chain worthy : List Mark) → marks_by U.marks xs ≡ chain → worthy_of U ≡ record (worthy_of T) { marks = worthy }
    → HoldTogether (record (chain_of l T) { chain = chain; worthy = worthy }) → Becomes l T xs U chain worthy
becomes l T xs U chain worthy marks w held =
    let is : chain_of xs U ≡ record (chain_of l T) { chain = chain; worthy = worthy } = λ i. record { chain = marks i; worthy = (w i).marks; colours = (w i).colours; cost = (w i).cost; pinned = (w i).pinned } in
    record { is = is; holds = subst HoldTogether (sym is) held }

-- the chain and the table after a push, after a colour left both, and after a report
pub push-holds : (l xs : List ℕ) (T U : StealTableState) (m : Mark) → HoldTogether (chain_of l T) → xs ≡ l ++ m.colour.0 ∷ [] → m.colour.0 < T.colours → mark_of m.colour (marks_by T.marks l) ≡ None → SetsMark m T.marks U.marks
    → worthy_of U ≡ record (worthy_of T) { marks = after_entry T.cost T.pinned m (worthy_of T).marks }
    → Becomes l T xs U (marks_by T.marks l ++ m ∷ []) (after_entry T.cost T.pinned m (worthy_of T).marks)
push-holds l xs T U m held list lt none sets w =
    becomes l T xs U (marks_by T.marks l ++ m ∷ []) (after_entry T.cost T.pinned m (worthy_of T).marks) (ap (marks_by U.marks) list ∙ push-by T.marks U.marks m l sets (none-out T.marks m.colour l none)) w
    (hold-push m (marks_by T.marks l) (worthy_of T).marks T.colours T.cost T.pinned held lt none)

pub leave-holds : (l xs : List ℕ) (T U : StealTableState) (c : Colour) → HoldTogether (chain_of l T) → xs ≡ without_place c.0 l → U.marks ≡ T.marks → worthy_of U ≡ record (worthy_of T) { marks = without c (worthy_of T).marks }
    → Becomes l T xs U (without c (marks_by T.marks l)) (without c (worthy_of T).marks)
leave-holds l xs T U c held list told w =
    let chain : marks_by U.marks xs ≡ without c (marks_by T.marks l) = ap (marks_by U.marks) list ∙ (ap (λ t. marks_by t (without_place c.0 l)) told ∙ sym (without-by T.marks c l)) in
    becomes l T xs U (without c (marks_by T.marks l)) (without c (worthy_of T).marks) chain w (hold-without c (marks_by T.marks l) (worthy_of T).marks T.colours T.cost T.pinned held)

pub told-holds : (l : List ℕ) (T U : StealTableState) (m old : Mark) → HoldTogether (chain_of l T) → m.colour.0 < T.colours → mark_of m.colour (marks_by T.marks l) ≡ Some old → SetsMark m T.marks U.marks
    → worthy_of U ≡ record (worthy_of T) { marks = after_mark_change T.cost T.pinned m (worthy_of T).marks }
    → Becomes l T l U (after_replacement m (marks_by T.marks l)) (after_mark_change T.cost T.pinned m (worthy_of T).marks)
told-holds l T U m old held lt there sets w =
    becomes l T l U (after_replacement m (marks_by T.marks l)) (after_mark_change T.cost T.pinned m (worthy_of T).marks) (told-by T.marks U.marks m l sets) w
    (hold-told m old (marks_by T.marks l) (worthy_of T).marks T.colours T.cost T.pinned held lt there)

-- the first of the chain, and what is left without its colour
first-gone : (t : MarkTableState) (l : List ℕ) (c : ℕ) → IsOneEach (marks_by t l) → slice_get l 0 ≡ Some c → marks_by t l ≡ mark_in t c ∷ marks_by t (without_place c l)
first-gone t [] c one h = absurd (none-some c h)
first-gone t (x ∷ l) c one h =
    let is : x ≡ c = same_Some x c h in
    let off : is_in l x ≡ false = none-out t (record { 0 = x }) l one.0 in
    let less : without_place c (x ∷ l) ≡ l = ap (λ z. without_place z (x ∷ l)) (sym is) ∙ dropped-first x l off in
    ap (λ z. mark_in t z ∷ marks_by t l) is ∙ ap (λ ys. mark_in t c ∷ marks_by t ys) (sym less)

pub front-holds : (t : MarkTableState) (l : List ℕ) (o : Option Colour) (c : Colour) → IsOneEach (marks_by t l) → o ≡ Some c → option_map (λ x. x.0) o ≡ slice_get l 0 → marks_by t l ≡ mark_in t c.0 ∷ marks_by t (without_place c.0 l)
front-holds t l o c one is at = first-gone t l c.0 one (sym at ∙ ap (option_map (λ (x : Colour). x.0)) is)

pub front-none : (t : MarkTableState) (l : List ℕ) (o : Option Colour) → o ≡ None → option_map (λ x. x.0) o ≡ slice_get l 0 → marks_by t l ≡ []
front-none t [] o is at = refl
front-none t (x ∷ l) o is at = absurd (none-some x (sym (ap (option_map (λ (c : Colour). c.0)) is) ∙ at))
