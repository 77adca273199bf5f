-- One entry more of a history that is counted.
use Rattle.std.proofs.Common.{◌≡◌, ◌≢◌, ◌<◌, ◌≤◌, ℕ, ◌+◌, ◌*◌, ◌/◌, ◌^◌, ◌==◌, min, Bool, true, false, cond, List, [], ◌∷◌, ◌++◌, length, get_or, set, refl, sym, ap, ◌∙◌, subst, arith, length-append, true-eqb, eq-eqb}
use Rattle.std.specs.Prelude.{◌&&◌}
use Rattle.std.proofs.lemmas.List.{get_or-set_other}
use Rattle.std.proofs.lemmas.Grind.{get_or-set_at, get_or_default_zero}
use Rattle.mely_history.specs.Entries.{colour_of, pass_of}
use Rattle.mely_history.specs.Setup.{place}
use Rattle.mely_history.specs.declared.setup.Setup.{Setup}
use Rattle.mely_history.specs.declared.entry.Entry.{Entry}
use Rattle.mely_picture.specs.declared.counts.Counts.{Counts}
use Rattle.mely_picture.specs.declared.plot.Plot.{Plot}
use Rattle.mely_picture.specs.declared.plot.Plot.TheVariants.{Counted}
use Rattle.mely_picture.specs.Buckets.{Cell, is_in, count_from, class_of, width_of}
use Rattle.mely_picture.specs.Plots.{place_of, AreCounts, AddsOne, IsCounted, IsPlot}

-- the entry behind a history is counted beside it
pub count_push : (setup : Setup) (width : ℕ) (cell : Cell) (at : ℕ) (history : List Entry) (e : Entry)
    → count_from setup width cell at (history ++ e ∷ []) ≡ count_from setup width cell at history + cond (is_in setup width cell (at + length history) e) 1 0
count_push setup width cell at [] e =
    let place : at + length {A = Entry} [] ≡ at = omega arith in
    let one : cond {A = ℕ} (is_in setup width cell (at + length {A = Entry} []) e) 1 0 ≡ cond {A = ℕ} (is_in setup width cell at e) 1 0 = ap (λ n. cond {A = ℕ} (is_in setup width cell n e) 1 0) place in
    omega (arith, one)
count_push setup width cell at (x ∷ history) e =
    let rest = count_push setup width cell (at + 1) history e in
    let same : at + 1 + length history ≡ at + length (x ∷ history) = omega arith in
    let place : cond {A = ℕ} (is_in setup width cell (at + 1 + length history) e) 1 0 ≡ cond {A = ℕ} (is_in setup width cell (at + length (x ∷ history)) e) 1 0 = ap (λ n. cond {A = ℕ} (is_in setup width cell n e) 1 0) same in
    omega (arith, rest, place)

-- no more are counted than there are
pub count_low : (setup : Setup) (width : ℕ) (cell : Cell) (at : ℕ) (history : List Entry) → count_from setup width cell at history ≤ length history
count_low setup width cell at [] = omega arith
count_low setup width cell at (x ∷ history) =
    let rest = count_low setup width cell (at + 1) history in
    let one = bit_low (is_in setup width cell at x) in omega (arith, rest, one)
  where
    bit_low : (t : Bool) → cond t 1 0 ≤ 1
    bit_low true = omega arith
    bit_low false = omega arith

-- ---- one cell

true_false : {X : Type 0} → false ≡ true → X
true_false e = absurd (no e)
  where
    no : false ≡ true → ⊥
    no e = cc

and_split : (a b c : Bool) → (a && b && c) ≡ true → (a ≡ true) × (b ≡ true) × (c ≡ true)
and_split true true true h = (refl, refl, refl)
and_split true true false h = true_false h
and_split true false c h = true_false h
and_split false b c h = true_false h

and_join : (a b c : Bool) → a ≡ true → b ≡ true → c ≡ true → (a && b && c) ≡ true
and_join true true true p q r = refl
and_join true true false p q r = true_false r
and_join true false c p q r = true_false q
and_join false b c p q r = true_false p

-- an entry of the cell has its core, bucket and class
in_cell : (setup : Setup) (width : ℕ) (cell : Cell) (at : ℕ) (e : Entry) → is_in setup width cell at e ≡ true → (at / width ≡ cell.bucket) × (pass_of e ≡ cell.core) × (class_of setup (colour_of e) ≡ cell.class)
in_cell setup width cell at e is =
    let parts = and_split (at / width == cell.bucket) (pass_of e == cell.core) (class_of setup (colour_of e) == cell.class) is in
    (true-eqb (at / width) cell.bucket (sym parts.0), true-eqb (pass_of e) cell.core (sym parts.1), true-eqb (class_of setup (colour_of e)) cell.class (sym parts.2))

is_in_cell : (setup : Setup) (width : ℕ) (cell : Cell) (at : ℕ) (e : Entry) → at / width ≡ cell.bucket → pass_of e ≡ cell.core → class_of setup (colour_of e) ≡ cell.class → is_in setup width cell at e ≡ true
is_in_cell setup width cell at e bucket core class =
    and_join (at / width == cell.bucket) (pass_of e == cell.core) (class_of setup (colour_of e) == cell.class) (eq-eqb (at / width) cell.bucket bucket) (eq-eqb (pass_of e) cell.core core)
    (eq-eqb (class_of setup (colour_of e)) cell.class class)

-- an entry that isn't in the cell is not counted there
not_in : (setup : Setup) (width : ℕ) (cell : Cell) (at : ℕ) (e : Entry) (n : ℕ) → (is_in setup width cell at e ≡ true → ⊥) → n ≡ n + cond (is_in setup width cell at e) 1 0
not_in setup width cell at e n never = cases (is_in setup width cell at e) refl
  where
    cases : (t : Bool) → is_in setup width cell at e ≡ t → n ≡ n + cond t 1 0
    cases true is = absurd (never is)
    cases false is = omega arith

pub other_core : (setup : Setup) (width cores : ℕ) (cell : Cell) (at : ℕ) (e : Entry) (n : ℕ) → cores ≤ pass_of e → cell.core < cores → n ≡ n + cond (is_in setup width cell at e) 1 0
other_core setup width cores cell at e n high low = not_in setup width cell at e n (λ is. let same = (in_cell setup width cell at e is).1 in omega (arith, same, high, low))

pub other_bucket : (setup : Setup) (width : ℕ) (cell : Cell) (at : ℕ) (e : Entry) (n : ℕ) → 128 ≤ at / width → cell.bucket < 128 → n ≡ n + cond (is_in setup width cell at e) 1 0
other_bucket setup width cell at e n high low = not_in setup width cell at e n (λ is. let same = (in_cell setup width cell at e is).0 in omega (arith, same, high, low))

-- the places of different cells differ
same_place : (a b c : ℕ) (cell : Cell) → b < 128 → c < 17 → cell.bucket < 128 → cell.class < 17 → 17 * (128 * a + b) + c ≡ place_of cell → (b ≡ cell.bucket) × (a ≡ cell.core) × (c ≡ cell.class)
same_place a b c cell b_low c_low bucket_low class_low is =
    let all : 17 * (128 * a + b) + c ≡ 17 * (128 * cell.core + cell.bucket) + cell.class = is in
    let core : a ≡ cell.core = omega (arith, b_low, c_low, bucket_low, class_low, all) in
    let bucket : b ≡ cell.bucket = omega (arith, b_low, c_low, bucket_low, class_low, all, core) in
    (bucket, core, omega (arith, all, core, bucket))

-- an entry was counted in its cell
pub one_more : (setup : Setup) (width cores : ℕ) (cell : Cell) (at : ℕ) (e : Entry) (cells : List ℕ) (core bucket class n old other value : ℕ) → core ≡ pass_of e → bucket ≡ at / width → class ≡ class_of setup (colour_of e)
    → n ≡ 17 * (128 * core + bucket) + class → core < cores → bucket < 128 → length cells ≡ 2176 * cores → old ≡ get_or cells n other → value ≡ min (old + 1) 4294967295 → cell.bucket < 128 → cell.class < 17
    → get_or cells (place_of cell) 0 + 1 < 2 ^ 32 → get_or (set cells n value) (place_of cell) 0 ≡ get_or cells (place_of cell) 0 + cond (is_in setup width cell at e) 1 0
one_more setup width cores cell at e cells core bucket class n old other value is_core is_bucket is_class is_n core_low bucket_low many is_old is_value cell_bucket cell_class room = cases (is_in setup width cell at e) refl
  where
    full : (k : ℕ) → k < 2 ^ 32 → min k 4294967295 ≡ k
    full k low = grind arith

    none : (k : ℕ) → k ≡ k + 0
    none k = omega arith

    low_class : (k : ℕ) → min k 16 < 17
    low_class k = grind arith

    class_low : class < 17
    class_low = let low = low_class (place setup (colour_of e)) in omega (arith, is_class, low)

    within : n < length cells
    within = let low = class_low in omega (arith, is_n, core_low, bucket_low, low, many)

    cases : (t : Bool) → is_in setup width cell at e ≡ t → get_or (set cells n value) (place_of cell) 0 ≡ get_or cells (place_of cell) 0 + cond t 1 0
    cases true is =
        let parts = in_cell setup width cell at e is in
        let same : place_of cell ≡ n =
        sym (is_n ∙ ap (λ k. 17 * (128 * k + bucket) + class) (is_core ∙ parts.1) ∙ ap (λ k. 17 * (128 * cell.core + k) + class) (is_bucket ∙ parts.0) ∙ ap (λ k. 17 * (128 * cell.core + cell.bucket) + k) (is_class ∙ parts.2)) in
        let there = ap (λ k. get_or cells k 0) same in
        let zero_read : get_or cells n other ≡ get_or cells n 0 = get_or_default_zero cells n other within in
        let less : old + 1 < 2 ^ 32 = omega (arith, is_old, zero_read, there, room) in
        get_or-set_at cells n (place_of cell) value 0 same within ∙ is_value ∙ full (old + 1) less ∙ ap (λ k. k + 1) (is_old ∙ zero_read ∙ sym there)
    cases false is =
        let other_place : place_of cell ≢ n = λ same.
        let parts = same_place core bucket class cell bucket_low class_low cell_bucket cell_class (sym is_n ∙ sym same) in
        true_false (sym is ∙ is_in_cell setup width cell at e (sym is_bucket ∙ parts.0) (sym is_core ∙ parts.1) (sym is_class ∙ parts.2)) in
        get_or-set_other cells n (place_of cell) value 0 other_place ∙ none (get_or cells (place_of cell) 0)

-- ---- a history

-- the entry behind a history was counted
pub counted_more : (setup : Setup) (entries : ℕ) (history : List Entry) (e : Entry) (before after : Counts) (next : ℕ) → next ≡ min (before.heard + 1) 4294967295 → after.heard ≡ next → after.cores ≡ before.cores
    → after.entries ≡ before.entries → after.width ≡ before.width → AddsOne setup before.width before.cores before.heard e before.cells.items after.cells.items → IsCounted setup entries history before
    → IsCounted setup entries (history ++ e ∷ []) after
counted_more setup entries history e before after next is_next heard cores entries_are width adds is = record {
  cores = cores ∙ is.cores;
  entries_are = λ low. entries_are ∙ is.entries_are low;
  width = width ∙ is.width ∙ sym (ap width_of entries_are);
  heard = λ low. heard ∙ is_next ∙ full (before.heard + 1) (place low) ∙ whole low;
  cells = λ low cell core bucket class. more low cell core bucket class;
}
  where
    long : length (history ++ e ∷ []) ≡ length history + 1
    long = length-append history (e ∷ [])

    short : length (history ++ e ∷ []) < 2 ^ 32 → length history < 2 ^ 32
    short low = let l = long in omega (arith, l, low)

    place : length (history ++ e ∷ []) < 2 ^ 32 → before.heard + 1 < 2 ^ 32
    place low = let l = long in let at = is.heard (short low) in omega (arith, l, at, low)

    whole : length (history ++ e ∷ []) < 2 ^ 32 → before.heard + 1 ≡ length (history ++ e ∷ [])
    whole low = let l = long in let at = is.heard (short low) in omega (arith, l, at)

    full : (k : ℕ) → k < 2 ^ 32 → min k 4294967295 ≡ k
    full k low = grind arith

    more : length (history ++ e ∷ []) < 2 ^ 32 → AreCounts setup after.width after.cores (history ++ e ∷ []) after.cells.items
    more low cell core bucket class =
        let core_low : cell.core < before.cores = subst (λ k. cell.core < k) cores core in
        let old = is.cells (short low) cell core_low bucket class in
        let few = count_low setup before.width cell 0 history in
        let l = long in
        let at = is.heard (short low) in
        let from : before.heard ≡ 0 + length history = omega (arith, at) in
        let room : get_or before.cells.items (place_of cell) 0 + 1 < 2 ^ 32 = omega (arith, old, few, l, low) in
        adds cell core_low bucket class room ∙ ap (λ k. k + cond (is_in setup before.width cell before.heard e) 1 0) old
        ∙ ap (λ k. count_from setup before.width cell 0 history + cond (is_in setup before.width cell k e) 1 0) from
        ∙ sym (count_push setup before.width cell 0 history e) ∙ ap (λ k. count_from setup k cell 0 (history ++ e ∷ [])) (sym width)

-- the entry behind a long history was counted
pub counted_added : (setup : Setup) (e : Entry) (plot : Plot) (before after : Counts) → plot ≡ Counted before
    → ((entries : ℕ) (history : List Entry) → IsCounted setup entries history before → IsCounted setup entries (history ++ e ∷ []) after) → (entries : ℕ) (history : List Entry) → IsPlot setup entries history plot
    → IsPlot setup entries (history ++ e ∷ []) (Counted after)
counted_added setup e plot before after is added entries history was = let kept = subst (IsPlot setup entries history) is was in (kept.0, added entries history kept.1)
