-- The registrations of a colour among the first entries, and behind them.
use Rattle.std.proofs.Common.{◌≡◌, ℕ, ◌+◌, ◌<◌, ◌≤◌, List, [], ◌∷◌, ◌++◌, Option, length, take, drop, get_or, sym, ◌∙◌, ap, arith, length-drop}
use Rattle.std.specs.List.{cons_option, sum_by}
use Rattle.std.proofs.lemmas.List.{take_more, drop-append-le, take-append-drop}
use Rattle.std.proofs.lemmas.List.Elements.{filter_map-append}
use Rattle.std.proofs.lemmas.List.Sums.{sum_by-append}
use Rattle.std.proofs.Math.Seq.{take-append_seam}
use Rattle.mely_event.specs.declared.colour.Colour.{Colour}
use Rattle.mely_event.specs.declared.event.Event.{Event}
use Rattle.mely_history.specs.declared.setup.Setup.{Setup}
use Rattle.mely_history.specs.declared.entry.Entry.{Entry}
use Rattle.mely_history.specs.Entries.{registration_on}
use Rattle.mely_history.specs.History.{registered_of, weight}
use Rattle.mely_history.specs.ColourCounts.{PassesOver}

-- what an entry registers is added
pub registered-more : (entries : List Entry) (i : ℕ) (c : Colour) (d : Entry) (found : Option Event) → i < length entries → registration_on c (get_or entries i d) ≡ found → registered_of (take (i + 1) entries) c ≡ registered_of (take i entries) c ++ cons_option found []
registered-more entries i c d found low is =
    ap (λ es. registered_of es c) (take_more entries i d low)
    ∙ filter_map-append (registration_on c) (take i entries) (get_or entries i d ∷ [])
    ∙ ap (λ o. registered_of (take i entries) c ++ cons_option o []) is

-- the sum behind the first ones grows by what is added behind them
pub sum_by-drop-append : {X : Type 0} (f : X → ℕ) (xs : List X) (n : ℕ) (x : X) → n ≤ length xs → sum_by f (drop n (xs ++ x ∷ [])) ≡ sum_by f (drop n xs) + f x
sum_by-drop-append f xs n x le = rw (drop-append-le n xs (x ∷ []) le, sum_by-append f (drop n xs) (x ∷ [])) (grind arith)

-- the registrations among the first entries, and those behind
registered-split : (entries : List Entry) (i : ℕ) (c : Colour) → registered_of entries c ≡ registered_of (take i entries) c ++ registered_of (drop i entries) c
registered-split entries i c = ap (λ es. registered_of es c) (sym (take-append-drop i entries)) ∙ filter_map-append (registration_on c) (take i entries) (drop i entries)

-- what stands behind the first ones of a prefix, and is as many, are the next ones
next_ones : {X : Type 0} (front back : List X) (first count : ℕ) → length front ≡ first + count → take count (drop first (front ++ back)) ≡ drop first front
next_ones front back first count many =
    let le : first ≤ length front = omega arith in
    let left : length (drop first front) ≡ count = length-drop first front ∙ omega arith in
    ap (take count) (drop-append-le first front back le) ∙ ap (λ n. take n (drop first front ++ back)) (sym left) ∙ take-append_seam (drop first front) back

-- a walk that has passed so many registrations passes over them
pub passes_over : (setup : Setup) (entries : List Entry) (c : Colour) (from count place sum : ℕ) → place ≤ length entries → length (registered_of (take place entries) c) ≡ length (registered_of (take from entries) c) + count → sum ≡ sum_by (weight setup) (drop (length (registered_of (take from entries) c)) (registered_of (take place entries) c)) → PassesOver setup entries c from count place sum
passes_over setup entries c from count place sum within passed weighed = record {
  within = within;
  passed = passed;
  weighed = weighed ∙ ap (sum_by (weight setup)) (sym (ap (λ es. take count (drop (length (registered_of (take from entries) c)) es)) (registered-split entries place c)
      ∙ next_ones (registered_of (take place entries) c) (registered_of (drop place entries) c) (length (registered_of (take from entries) c)) count passed));
}
