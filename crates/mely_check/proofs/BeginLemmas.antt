-- What was read begins a journal: the entries that are left, and the shards, can be filled in.
use Rattle.std.proofs.Common.{◌≡◌, ℕ, zero, suc, ◌+◌, ◌-◌, ◌≤◌, List, [], ◌∷◌, ◌++◌, length, refl, sym, ap, subst, ◌∙◌, arith, append_assoc, length-append}
use Rattle.std.specs.List.{flat_map, AllByRecursion}
use Rattle.std.proofs.lemmas.Grind.{flat_map-append}
use Rattle.mely_history.specs.declared.entry.Entry.{Entry}
use Rattle.mely_history.specs.declared.entry.Entry.TheVariants.{Fin}
use Rattle.mely_journal.specs.Journal.{entry_line, shard_line, journal_from, journal}
use Rattle.mely_check.specs.Journals.{IsFit, IsFitHistory, BeginsJournal, join_lines}
use Rattle.mely_check.specs.Hearing.{Walk, start, within, begun_in}
use Rattle.mely_check.specs.Walks.{walk_text, IsFitWalk, IsAt}
use Rattle.mely_check.specs.declared.place.Place.{Place}
use Rattle.mely_check.proofs.WalkLemmas.{all_append, journal_from-append}

any : Entry
any = Fin (record { 0 = 0 }) 0 0

fill : ℕ → List Entry
fill zero = []
fill (suc n) = any ∷ fill n

length-fill : (n : ℕ) → length (fill n) ≡ n
unfolding fill
length-fill zero = refl
length-fill (suc n) = ap suc (length-fill n)

fill-fit : (n : ℕ) → AllByRecursion IsFit (fill n)
unfolding fill any
fill-fit zero = tt
fill-fit (suc n) = ((omega arith, omega arith, omega arith), fill-fit n)

empties : ℕ → List (List Entry)
empties zero = []
empties (suc n) = [] ∷ empties n

length-empties : (n : ℕ) → length (empties n) ≡ n
unfolding empties
length-empties zero = refl
length-empties (suc n) = ap suc (length-empties n)

empties-fit : (n : ℕ) → AllByRecursion IsFitHistory (empties n)
unfolding empties
empties-fit zero = tt
empties-fit (suc n) = ((tt, omega arith), empties-fit n)

walk-begins : (shards : ℕ) (walk : Walk) → begun_in walk ≤ shards → IsFitWalk walk → BeginsJournal shards (walk_text walk)
walk-begins shards start few fit = record {
  more = journal (empties shards);
  is = record { histories = empties shards; fit = record { many = length-empties shards; fit = empties-fit shards }; is = refl };
}
walk-begins shards (within done last left) few fit =
    let whole : List Entry = last ++ fill left in
    let rest : List (List Entry) = empties (shards - (length done + 1)) in
    let number : ℕ = length done in
    let more : List ℕ = flat_map entry_line (fill left) ++ journal_from (0 + number + 1) rest in
    let long : length whole ≡ length last + left = length-append last (fill left) ∙ ap (λ n. length last + n) (length-fill left) in
    let here : 0 + number ≡ number = omega arith in
    let counted = length-append done (whole ∷ rest) in
    let others = length-empties (shards - (length done + 1)) in
    record {
      more = more;
      is = record {
        histories = done ++ whole ∷ rest;
        fit = record {
          many = omega (arith, counted, others);
          fit = all_append IsFitHistory done (whole ∷ rest) fit.0
              ((all_append IsFit last (fill left) fit.1 (fill-fit left), (let small = fit.2 in omega arith)), empties-fit (shards - (length done + 1)));
        };
        is = append_assoc (journal done) (shard_line number (length last + left) ++ flat_map entry_line last) more
            ∙ ap (λ t. journal done ++ t)
            (append_assoc (shard_line number (length last + left)) (flat_map entry_line last) more
            ∙ (λ i. shard_line (sym here i) (sym long i) ++ (flat_map entry_line last ++ more))
            ∙ ap (λ t. shard_line (0 + number) (length whole) ++ t)
            (sym (append_assoc (flat_map entry_line last) (flat_map entry_line (fill left)) (journal_from (0 + number + 1) rest))
            ∙ ap (λ t. t ++ journal_from (0 + number + 1) rest) (sym (flat_map-append entry_line last (fill left))))
            ∙ sym (append_assoc (shard_line (0 + number) (length whole)) (flat_map entry_line whole) (journal_from (0 + number + 1) rest)))
            ∙ sym (journal_from-append 0 done (whole ∷ rest));
      };
    }

-- the lines that were read begin a journal
pub at_begins : (lines : List (List ℕ)) (place : Place) → place.begun ≤ place.shards → IsAt lines place → BeginsJournal place.shards (join_lines lines)
at_begins lines place few at = subst (BeginsJournal place.shards) (sym at.is) (walk-begins place.shards at.walk (let b = at.begun in omega arith) at.fit)
