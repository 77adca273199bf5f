-- Laws of a table of marks with those that may be stolen.
use Rattle.std.proofs.Common.{◌≡◌, ◌<◌, ◌==◌, ℕ, true, false, cond, eqb, List, [], ◌∷◌, ◌++◌, Option, None, Some, ◌⊎◌, inl, inr, arith, refl, sym, ap, subst, ◌∙◌}
use Rattle.std.specs.Option.{option_map_or}
use Rattle.std.proofs.lemmas.Bool.{cases_Bool, cases_eq, eq-eqb, ne_eqb, cond-true, cond-false}
use Rattle.std.proofs.lemmas.List.{map-append}
use Rattle.mely_event.specs.declared.colour.Colour.{Colour}
use Rattle.mely_event.specs.declared.mark.Mark.{Mark}
use Rattle.mely_steal.specs.Classes.{class_of}
use Rattle.mely_steal.specs.Marks.{mark_of, without, after_replacement}
use Rattle.mely_steal.specs.StealQueue.{AreWorthy, is_worthy, after_entry, after_mark_change, keeps_class}
use Rattle.mely_steal.specs.Entering.{Ranked, entries_without, has_entry, class_in, joined_by, moved_to}
use Rattle.mely_steal.specs.StealTable.{MarkTableState, AreStealable, mark_in, SetsMark, marks_of, AreOfClass}
use Rattle.mely_steal.proofs.MarkLemmas.{without-none}
use Rattle.mely_steal.proofs.StealLemmas.{worthy-parts, worthy-from, worthy-class_of, find-All, keeps_class-worthy, keeps_class-loose, keeps_class-old, AreWorthy-entered, AreWorthy-changed, AreWorthy-without}
use Rattle.mely_steal.proofs.TableMarksLemmas.{mark_of-entries, without-entries, marks-absent, marks-replaced, class-at, classed-push, classed-entries_without, classed-absent, classed-same, absent-has, entries_without-has, class-none, mark-at, none-entries_without}

-- the class in which a mark may be stolen, and 0 where it may not
abbrev pub stealing_class : ℕ → ℕ → Mark → ℕ
stealing_class cost pinned m = cond (is_worthy cost pinned m) (class_of m.worth cost) 0

-- a mark that may be stolen has a class
stealing-some : (cost pinned : ℕ) (m : Mark) → is_worthy cost pinned m ≡ true → (stealing_class cost pinned m ≡ class_of m.worth cost) × (0 < class_of m.worth cost)
stealing-some cost pinned m w = (cond-true (is_worthy cost pinned m) (class_of m.worth cost) 0 w, worthy-class_of m.worth cost (worthy-parts cost pinned m w).1)

-- a colour that has no mark yet enters
pub enter-stealable : (t u : MarkTableState) (g : List Ranked) (n cost pinned : ℕ) (m : Mark) → AreStealable (record { marks = t; entries = g; colours = n; cost = cost; pinned = pinned }) → SetsMark m t u → m.colour.0 < n → has_entry m.colour.0 g ≡ false → mark_of m.colour (marks_of t g) ≡ None
    → (marks_of u (joined_by (stealing_class cost pinned m) m.colour.0 g) ≡ after_entry cost pinned m (marks_of t g))
    × AreStealable (record { marks = u; entries = joined_by (stealing_class cost pinned m) m.colour.0 g; colours = n; cost = cost; pinned = pinned })
enter-stealable t u g n cost pinned m s sets lt off none =
    let k = stealing_class cost pinned m in
    let c = m.colour.0 in
    let Kept : List Mark → Type 0 = λ xs. AreWorthy (record { marks = xs; colours = n; cost = cost; pinned = pinned }) in
    let after : Kept (after_entry cost pinned m (marks_of t g)) = AreWorthy-entered m (marks_of t g) n cost pinned s.worthy lt none in
    let stays : marks_of u g ≡ marks_of t g = marks-absent t u m g sets off in
    elim (cases_Bool (is_worthy cost pinned m)) [
      | inl w ↦
          let some = stealing-some cost pinned m w in
          let r : Ranked = record { colour = c; class = k } in
          let ne : eqb k 0 ≡ false = ne_eqb k 0 (λ e. let low : 0 < class_of m.worth cost = some.1 in let at : k ≡ class_of m.worth cost = some.0 in absurd (omega arith)) in
          let more : joined_by k c g ≡ g ++ r ∷ [] = cond-false (eqb k 0) g (g ++ r ∷ []) ne in
          let marks : marks_of u (joined_by k c g) ≡ after_entry cost pinned m (marks_of t g) =
          ap (marks_of u) more ∙ (map-append (λ (e : Ranked). mark_in u e.colour) g (r ∷ [])
          ∙ (ap (λ ys. ys ++ mark_in u c ∷ []) stays ∙ (ap (λ x. marks_of t g ++ x ∷ []) sets.here
          ∙ sym (cond-true (is_worthy cost pinned m) (marks_of t g ++ m ∷ []) (marks_of t g) w)))) in
          let Classed : List Ranked → Type 0 = λ h. AreOfClass cost u h in (
            marks,
            record {
              worthy = subst Kept (sym marks) after;
              classed = subst Classed (sym more) (classed-push cost u g r (classed-absent cost t u m g sets off s.classed) (some.0 ∙ sym (ap (λ (x : Mark). class_of x.worth cost) sets.here)));
            },
          )
      | inr f ↦
          let zero' : k ≡ 0 = cond-false (is_worthy cost pinned m) (class_of m.worth cost) 0 f in
          let same : joined_by k c g ≡ g = cond-true (eqb k 0) g (g ++ record { colour = c; class = k } ∷ []) (eq-eqb k 0 zero') in
          let marks : marks_of u (joined_by k c g) ≡ after_entry cost pinned m (marks_of t g) =
          ap (marks_of u) same ∙ (stays ∙ sym (cond-false (is_worthy cost pinned m) (marks_of t g ++ m ∷ []) (marks_of t g) f)) in
          let Classed : List Ranked → Type 0 = λ h. AreOfClass cost u h in
          (marks, record { worthy = subst Kept (sym marks) after; classed = subst Classed (sym same) (classed-absent cost t u m g sets off s.classed) })
    ]

-- a colour leaves
pub leave-stealable : (t : MarkTableState) (g : List Ranked) (n cost pinned : ℕ) (c : Colour) → AreStealable (record { marks = t; entries = g; colours = n; cost = cost; pinned = pinned })
    → AreStealable (record { marks = t; entries = entries_without c.0 g; colours = n; cost = cost; pinned = pinned })
leave-stealable t g n cost pinned c s =
    let Kept : List Mark → Type 0 = λ xs. AreWorthy (record { marks = xs; colours = n; cost = cost; pinned = pinned }) in
    record { worthy = subst Kept (without-entries t c g) (AreWorthy-without c (marks_of t g) n cost pinned s.worthy); classed = classed-entries_without cost t c.0 g s.classed }

-- what a colour that has a mark there is
there-class : (t : MarkTableState) (g : List Ranked) (n cost pinned : ℕ) (c : Colour) (old : Mark) → AreStealable (record { marks = t; entries = g; colours = n; cost = cost; pinned = pinned }) → mark_of c (marks_of t g) ≡ Some old
    → (class_in c.0 g ≡ class_of old.worth cost) × (0 < class_in c.0 g)
there-class t g n cost pinned c old s there =
    let is : class_in c.0 g ≡ class_of old.worth cost = class-at cost t c.0 g s.classed ∙ ap (λ o. option_map_or (λ (m : Mark). class_of m.worth cost) o 0) (sym (mark_of-entries t c g) ∙ there) in
    let P : Mark → Type 0 = λ m. cost < m.worth in
    let low = worthy-class_of old.worth cost (find-All (λ m. m.colour.0 == c.0) P (marks_of t g) old s.worthy.worthy there) in
    (is, rw is low)

-- a mark keeps its class exactly where its colour is moved to where it is, and has a mark there
keeps-is : (t : MarkTableState) (g : List Ranked) (n cost pinned : ℕ) (m : Mark) → AreStealable (record { marks = t; entries = g; colours = n; cost = cost; pinned = pinned }) → keeps_class cost m (marks_of t g) ≡ true
    → class_in m.colour.0 g ≡ stealing_class cost pinned m
keeps-is t g n cost pinned m s keeps =
    let old = keeps_class-old cost m (mark_of m.colour (marks_of t g)) keeps in
    let there = there-class t g n cost pinned m.colour old.0 s old.1 in
    let worthy = worthy-from cost pinned m (keeps_class-loose cost pinned m (marks_of t g) s.worthy.loose keeps) (keeps_class-worthy cost m (marks_of t g) s.worthy.worthy keeps) in
    there.0 ∙ (old.2 ∙ sym (stealing-some cost pinned m worthy).0)

-- where a colour that has a mark is of the class in which the new mark may be stolen,
-- the mark keeps its class
stays-keeps : (t : MarkTableState) (g : List Ranked) (n cost pinned : ℕ) (m : Mark) → AreStealable (record { marks = t; entries = g; colours = n; cost = cost; pinned = pinned }) → class_in m.colour.0 g ≡ stealing_class cost pinned m
    → (o : Option Mark) → mark_of m.colour (marks_of t g) ≡ o → (option_map_or (λ old. class_of old.worth cost == class_of m.worth cost) o false ≡ true) ⊎ (o ≡ None)
stays-keeps t g n cost pinned m s is None at = inr refl
stays-keeps t g n cost pinned m s is (Some old) at =
    let there = there-class t g n cost pinned m.colour old s at in
    elim (cases_Bool (is_worthy cost pinned m)) [
      | inl w ↦ inl (eq-eqb (class_of old.worth cost) (class_of m.worth cost) (sym there.0 ∙ (is ∙ (stealing-some cost pinned m w).0)))
      | inr f ↦
          let none : stealing_class cost pinned m ≡ 0 = cond-false (is_worthy cost pinned m) (class_of m.worth cost) 0 f in
          let low : 0 < class_in m.colour.0 g = there.1 in
          absurd (omega arith)
    ]

-- the mark of a colour changes
pub change-stealable : (t u : MarkTableState) (g : List Ranked) (n cost pinned : ℕ) (m : Mark) → AreStealable (record { marks = t; entries = g; colours = n; cost = cost; pinned = pinned }) → SetsMark m t u → m.colour.0 < n
    → (marks_of u (moved_to (stealing_class cost pinned m) m.colour.0 g) ≡ after_mark_change cost pinned m (marks_of t g))
    × AreStealable (record { marks = u; entries = moved_to (stealing_class cost pinned m) m.colour.0 g; colours = n; cost = cost; pinned = pinned })
change-stealable t u g n cost pinned m s sets lt =
    let k = stealing_class cost pinned m in
    let c = m.colour.0 in
    let xs = marks_of t g in
    let Kept : List Mark → Type 0 = λ ys. AreWorthy (record { marks = ys; colours = n; cost = cost; pinned = pinned }) in
    let after : Kept (after_mark_change cost pinned m xs) = AreWorthy-changed m xs n cost pinned s.worthy lt in
    let Classed : List Ranked → Type 0 = λ h. AreOfClass cost u h in
    elim (cases_eq (class_in c g) k) [
      | inl is ↦
          let same : moved_to k c g ≡ g = cond-true (eqb (class_in c g) k) g (joined_by k c (entries_without c g)) (eq-eqb (class_in c g) k is) in
          elim (stays-keeps t g n cost pinned m s is (mark_of m.colour xs) refl) [
            | inl keeps ↦
                let marks : marks_of u (moved_to k c g) ≡ after_mark_change cost pinned m xs =
                ap (marks_of u) same ∙ (marks-replaced t u m g sets ∙ sym (cond-true (keeps_class cost m xs) (after_replacement m xs) (after_entry cost pinned m (without m.colour xs)) keeps)) in
                let old = keeps_class-old cost m (mark_of m.colour xs) keeps in
                let at : mark_in t c ≡ old.0 = mark-at t m.colour g old.0 old.1 in
                let classed = classed-same cost t u m g sets (ap (λ (x : Mark). class_of x.worth cost) at ∙ old.2) s.classed in
                (marks, record { worthy = subst Kept (sym marks) after; classed = subst Classed (sym same) classed })
            | inr none ↦
                let off = absent-has t m.colour g none in
                let zero' : k ≡ 0 = sym is ∙ class-none c g off in
                let idle : is_worthy cost pinned m ≡ false = elim (cases_Bool (is_worthy cost pinned m)) [
                  | inl w ↦ let some = stealing-some cost pinned m w in let at : k ≡ class_of m.worth cost = some.0 in let low : 0 < class_of m.worth cost = some.1 in absurd (omega arith)
                  | inr f ↦ f
                ] in
                let marks : marks_of u (moved_to k c g) ≡ after_mark_change cost pinned m xs =
                ap (marks_of u) same ∙ (marks-absent t u m g sets off
                ∙ sym (ap (λ o. cond (option_map_or (λ (old : Mark). class_of old.worth cost == class_of m.worth cost) o false) (after_replacement m xs) (after_entry cost pinned m (without m.colour xs))) none
                ∙ (ap (after_entry cost pinned m) (without-none m.colour xs none)
                ∙ cond-false (is_worthy cost pinned m) (xs ++ m ∷ []) xs idle))) in
                (marks, record { worthy = subst Kept (sym marks) after; classed = subst Classed (sym same) (classed-absent cost t u m g sets off s.classed) })
          ]
      | inr ne ↦
          let rest = enter-stealable t u (entries_without c g) n cost pinned m (leave-stealable t g n cost pinned m.colour s) sets lt (entries_without-has c g) (none-entries_without t m.colour g) in
          let moved : moved_to k c g ≡ joined_by k c (entries_without c g) = cond-false (eqb (class_in c g) k) g (joined_by k c (entries_without c g)) (ne_eqb (class_in c g) k ne) in
          let loses : keeps_class cost m xs ≡ false = elim (cases_Bool (keeps_class cost m xs)) [ inl keeps ↦ absurd (ne (keeps-is t g n cost pinned m s keeps)) | inr f ↦ f ] in
          let marks : marks_of u (moved_to k c g) ≡ after_mark_change cost pinned m xs =
          ap (marks_of u) moved ∙ (rest.0
          ∙ (ap (after_entry cost pinned m) (sym (without-entries t m.colour g))
          ∙ sym (cond-false (keeps_class cost m xs) (after_replacement m xs) (after_entry cost pinned m (without m.colour xs)) loses))) in
          (marks, record { worthy = subst Kept (sym marks) after; classed = subst Classed (sym moved) rest.1.classed })
    ]
