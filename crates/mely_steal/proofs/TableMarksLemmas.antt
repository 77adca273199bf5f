-- Laws of the marks of entries.
use Rattle.std.proofs.Common.{◌≡◌, ◌==◌, ◌||◌, ℕ, true, false, not, cond, eqb, List, [], ◌∷◌, ◌++◌, Option, None, Some, find, inl, inr, refl, sym, ap, ◌∙◌}
use Rattle.std.specs.Option.{option_map, option_map_or, option_or}
use Rattle.std.proofs.lemmas.Bool.{cases_Bool, cases_eq, eqb-true, eqb-false, eq-eqb, ne_eqb, or_parts, cond-true, cond-false, cond_both}
use Rattle.std.proofs.lemmas.Option.{none-some, same_Some}
use Rattle.mely_event.specs.declared.colour.Colour.{Colour}
use Rattle.mely_event.specs.declared.mark.Mark.{Mark}
use Rattle.mely_steal.specs.Classes.{class_of}
use Rattle.mely_steal.specs.Marks.{mark_of, without, after_replacement}
use Rattle.mely_steal.specs.StealQueue.{first_of, pick_of}
use Rattle.mely_steal.specs.Entering.{Ranked, entries_without, has_entry, class_in}
use Rattle.mely_steal.specs.StealTable.{MarkTableState, mark_in, SetsMark, marks_of, AreOfClass}

-- the mark of a colour is that of its entry
pub mark_of-entries : (t : MarkTableState) (c : Colour) (g : List Ranked) → mark_of c (marks_of t g) ≡ option_map (λ e. mark_in t e.colour) (find (λ e. e.colour == c.0) g)
mark_of-entries t c [] = refl
mark_of-entries t c (x ∷ g) = elim (eqb x.colour c.0) as (λ b. cond b (Some (mark_in t x.colour)) (mark_of c (marks_of t g)) ≡ option_map (λ e. mark_in t e.colour) (cond b (Some x) (find (λ e. e.colour == c.0) g))) [
  | true ↦ refl
  | false ↦ mark_of-entries t c g
]

-- the marks without a colour are those of the entries without it
pub without-entries : (t : MarkTableState) (c : Colour) (g : List Ranked) → without c (marks_of t g) ≡ marks_of t (entries_without c.0 g)
without-entries t c [] = refl
without-entries t c (x ∷ g) = elim (eqb x.colour c.0) as (λ b. cond (not b) (mark_in t x.colour ∷ without c (marks_of t g)) (without c (marks_of t g)) ≡ marks_of t (cond (not b) (x ∷ entries_without c.0 g) (entries_without c.0 g))) [
  | true ↦ without-entries t c g
  | false ↦ ap (λ ys. mark_in t x.colour ∷ ys) (without-entries t c g)
]

-- the marks where one colour's is written: as before where it has no entry, and else
-- with this one in its place
pub marks-absent : (old new : MarkTableState) (m : Mark) (g : List Ranked) → SetsMark m old new → has_entry m.colour.0 g ≡ false → marks_of new g ≡ marks_of old g
marks-absent old new m [] sets off = refl
marks-absent old new m (x ∷ g) sets off =
    let parts = or_parts (eqb x.colour m.colour.0) (has_entry m.colour.0 g) off in
    ap (λ k. k ∷ marks_of new g) (sets.others x.colour (λ e. eqb-false x.colour m.colour.0 parts.0 (sym e)))
    ∙ ap (λ ys. mark_in old x.colour ∷ ys) (marks-absent old new m g sets parts.1)

pub marks-replaced : (old new : MarkTableState) (m : Mark) (g : List Ranked) → SetsMark m old new → marks_of new g ≡ after_replacement m (marks_of old g)
marks-replaced old new m [] sets = refl
marks-replaced old new m (x ∷ g) sets =
    let here : mark_in new x.colour ≡ cond (eqb x.colour m.colour.0) m (mark_in old x.colour) = elim (cases_eq m.colour.0 x.colour) [
      | inl e ↦ ap (mark_in new) (sym e) ∙ (sets.here ∙ sym (cond-true (eqb x.colour m.colour.0) m (mark_in old x.colour) (eq-eqb x.colour m.colour.0 (sym e))))
      | inr ne ↦ sets.others x.colour ne ∙ sym (cond-false (eqb x.colour m.colour.0) m (mark_in old x.colour) (ne_eqb x.colour m.colour.0 (λ e. ne (sym e))))
    ] in
    ap (λ k. k ∷ marks_of new g) here ∙ ap (λ ys. cond (eqb x.colour m.colour.0) m (mark_in old x.colour) ∷ ys) (marks-replaced old new m g sets)

-- the first mark of a class is that of the first entry of the class
first-entries : (cost k : ℕ) (t : MarkTableState) (g : List Ranked) → AreOfClass cost t g → first_of cost k (marks_of t g) ≡ option_map (λ e. mark_in t e.colour) (find (λ e. e.class == k) g)
first-entries cost k t [] classed = refl
first-entries cost k t (x ∷ g) classed =
    ap (λ n. cond (eqb n k) (Some (mark_in t x.colour)) (first_of cost k (marks_of t g))) (sym classed.0)
    ∙ (elim (eqb x.class k) as (λ b. cond b (Some (mark_in t x.colour)) (first_of cost k (marks_of t g)) ≡ option_map (λ e. mark_in t e.colour) (cond b (Some x) (find (λ e. e.class == k) g))) [
      | true ↦ refl
      | false ↦ first-entries cost k t g classed.1
    ])

joined-or : (t : MarkTableState) (a b c : Option Ranked) → option_or (option_or (option_map (λ e. mark_in t e.colour) a) (option_map (λ e. mark_in t e.colour) b)) (option_map (λ e. mark_in t e.colour) c)
    ≡ option_map (mark_in t) (option_or (option_or (option_map (λ e. e.colour) a) (option_map (λ e. e.colour) b)) (option_map (λ e. e.colour) c))
joined-or t (Some x) b c = refl
joined-or t None (Some y) c = refl
joined-or t None None (Some z) = refl
joined-or t None None None = refl

-- the colours of first entries, and their marks
pub pick-entries : (cost : ℕ) (t : MarkTableState) (g : List Ranked) → AreOfClass cost t g
    → pick_of cost (marks_of t g) ≡ option_map (mark_in t) (option_or (option_or (option_map (λ e. e.colour) (find (λ e. e.class == 3) g)) (option_map (λ e. e.colour) (find (λ e. e.class == 2) g))) (option_map (λ e. e.colour) (find (λ e. e.class == 1) g)))
pick-entries cost t g classed =
    ap (λ o. option_or (option_or o (first_of cost 2 (marks_of t g))) (first_of cost 1 (marks_of t g))) (first-entries cost 3 t g classed)
    ∙ (ap (λ o. option_or (option_or (option_map (λ e. mark_in t e.colour) (find (λ e. e.class == 3) g)) o) (first_of cost 1 (marks_of t g))) (first-entries cost 2 t g classed)
    ∙ (ap (λ o. option_or (option_or (option_map (λ e. mark_in t e.colour) (find (λ e. e.class == 3) g)) (option_map (λ e. mark_in t e.colour) (find (λ e. e.class == 2) g))) o) (first-entries cost 1 t g classed)
    ∙ joined-or t (find (λ e. e.class == 3) g) (find (λ e. e.class == 2) g) (find (λ e. e.class == 1) g)))

-- the class of a colour's entry is that of its mark
pub class-at : (cost : ℕ) (t : MarkTableState) (c : ℕ) (g : List Ranked) → AreOfClass cost t g → class_in c g ≡ option_map_or (λ m. class_of m.worth cost) (option_map (λ e. mark_in t e.colour) (find (λ e. e.colour == c) g)) 0
class-at cost t c [] classed = refl
class-at cost t c (x ∷ g) classed = elim (eqb x.colour c) as (λ b. option_map_or (λ e. e.class) (cond b (Some x) (find (λ e. e.colour == c) g)) 0 ≡ option_map_or (λ m. class_of m.worth cost) (option_map (λ e. mark_in t e.colour) (cond b (Some x) (find (λ e. e.colour == c) g))) 0) [
  | true ↦ classed.0
  | false ↦ class-at cost t c g classed.1
]

-- entries stay in the classes of their marks
pub classed-push : (cost : ℕ) (t : MarkTableState) (g : List Ranked) (r : Ranked) → AreOfClass cost t g → r.class ≡ class_of (mark_in t r.colour).worth cost → AreOfClass cost t (g ++ r ∷ [])
classed-push cost t [] r classed is = (is, tt)
classed-push cost t (x ∷ g) r classed is = (classed.0, classed-push cost t g r classed.1 is)

pub classed-entries_without : (cost : ℕ) (t : MarkTableState) (c : ℕ) (g : List Ranked) → AreOfClass cost t g → AreOfClass cost t (entries_without c g)
classed-entries_without cost t c [] classed = tt
classed-entries_without cost t c (x ∷ g) classed = cond_both (not (eqb x.colour c)) (x ∷ entries_without c g) (entries_without c g) (AreOfClass cost t) (λ k. (classed.0, classed-entries_without cost t c g classed.1)) (λ f. classed-entries_without cost t c g classed.1)

-- where one colour's mark is written, and the colour has no entry or its
-- entry is of the mark's class
pub classed-absent : (cost : ℕ) (old new : MarkTableState) (m : Mark) (g : List Ranked) → SetsMark m old new → has_entry m.colour.0 g ≡ false → AreOfClass cost old g → AreOfClass cost new g
classed-absent cost old new m [] sets off classed = tt
classed-absent cost old new m (x ∷ g) sets off classed =
    let parts = or_parts (eqb x.colour m.colour.0) (has_entry m.colour.0 g) off in
    let same = sets.others x.colour (λ e. eqb-false x.colour m.colour.0 parts.0 (sym e)) in
    (classed.0 ∙ sym (ap (λ (k : Mark). class_of k.worth cost) same), classed-absent cost old new m g sets parts.1 classed.1)

pub classed-same : (cost : ℕ) (old new : MarkTableState) (m : Mark) (g : List Ranked) → SetsMark m old new → class_of (mark_in old m.colour.0).worth cost ≡ class_of m.worth cost → AreOfClass cost old g → AreOfClass cost new g
classed-same cost old new m [] sets is classed = tt
classed-same cost old new m (x ∷ g) sets is classed = (
  elim (cases_eq m.colour.0 x.colour) [
    | inl e ↦
        classed.0 ∙ (ap (λ z. class_of (mark_in old z).worth cost) (sym e) ∙ (is
        ∙ (sym (ap (λ (k : Mark). class_of k.worth cost) sets.here) ∙ ap (λ z. class_of (mark_in new z).worth cost) e)))
    | inr ne ↦ classed.0 ∙ sym (ap (λ (k : Mark). class_of k.worth cost) (sets.others x.colour ne))
  ],
  classed-same cost old new m g sets is classed.1,
)

-- whether a colour has an entry
pub has-find : (c : ℕ) (g : List Ranked) → has_entry c g ≡ false → find (λ e. e.colour == c) g ≡ None
has-find c [] off = refl
has-find c (x ∷ g) off =
    let parts = or_parts (eqb x.colour c) (has_entry c g) off in
    cond-false (eqb x.colour c) (Some x) (find (λ e. e.colour == c) g) parts.0 ∙ has-find c g parts.1

pub absent-has : (t : MarkTableState) (c : Colour) (g : List Ranked) → mark_of c (marks_of t g) ≡ None → has_entry c.0 g ≡ false
absent-has t c [] h = refl
absent-has t c (x ∷ g) h = elim (cases_Bool (eqb x.colour c.0)) [
  | inl k ↦ absurd (none-some (mark_in t x.colour) (sym h ∙ cond-true (eqb x.colour c.0) (Some (mark_in t x.colour)) (mark_of c (marks_of t g)) k))
  | inr f ↦ ap (λ b. b || has_entry c.0 g) f ∙ absent-has t c g (sym (cond-false (eqb x.colour c.0) (Some (mark_in t x.colour)) (mark_of c (marks_of t g)) f) ∙ h)
]

pub entries_without-has : (c : ℕ) (g : List Ranked) → has_entry c (entries_without c g) ≡ false
entries_without-has c [] = refl
entries_without-has c (x ∷ g) = elim (cases_Bool (eqb x.colour c)) [
  | inl k ↦ ap (has_entry c) (ap (λ b. cond (not b) (x ∷ entries_without c g) (entries_without c g)) k) ∙ entries_without-has c g
  | inr f ↦ ap (has_entry c) (ap (λ b. cond (not b) (x ∷ entries_without c g) (entries_without c g)) f) ∙ (ap (λ b. b || has_entry c (entries_without c g)) f ∙ entries_without-has c g)
]

pub class-none : (c : ℕ) (g : List Ranked) → has_entry c g ≡ false → class_in c g ≡ 0
class-none c g off = ap (λ o. option_map_or (λ (e : Ranked). e.class) o 0) (has-find c g off)

-- the mark that a list has of a colour is the colour's
pub mark-at : (t : MarkTableState) (c : Colour) (g : List Ranked) (old : Mark) → mark_of c (marks_of t g) ≡ Some old → mark_in t c.0 ≡ old
mark-at t c [] old h = absurd (none-some old h)
mark-at t c (x ∷ g) old h = elim (cases_Bool (eqb x.colour c.0)) [
  | inl k ↦ ap (mark_in t) (sym (eqb-true x.colour c.0 k)) ∙ same_Some (mark_in t x.colour) old (sym (cond-true (eqb x.colour c.0) (Some (mark_in t x.colour)) (mark_of c (marks_of t g)) k) ∙ h)
  | inr f ↦ mark-at t c g old (sym (cond-false (eqb x.colour c.0) (Some (mark_in t x.colour)) (mark_of c (marks_of t g)) f) ∙ h)
]

-- entries without a colour have no mark of it
pub none-entries_without : (t : MarkTableState) (c : Colour) (g : List Ranked) → mark_of c (marks_of t (entries_without c.0 g)) ≡ None
none-entries_without t c g = mark_of-entries t c (entries_without c.0 g) ∙ ap (option_map (λ (e : Ranked). mark_in t e.colour)) (has-find c.0 (entries_without c.0 g) (entries_without-has c.0 g))
