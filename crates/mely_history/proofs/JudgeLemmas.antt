-- A history is legal where the entries of each of its colours are allowed.
use Rattle.std.proofs.Common.{◌≡◌, ℕ, zero, suc, ◌+◌, ◌<◌, ◌≤◌, ◌⊎◌, List, [], ◌∷◌, ◌++◌, Some, length, take, get_or, refl, sym, ◌∙◌, ap, subst, arith, inl, inr, ⊎_elim}
use Rattle.std.specs.List.{slice_get}
use Rattle.std.proofs.lemmas.Grind.{common_steps}
use Rattle.std.proofs.lemmas.List.{get_or-take, length-take-le}
use Rattle.std.proofs.Math.Seq.{take-length}
use Rattle.std.proofs.lemmas.Option.{slice_get_within, slice_get_cases, slice_get-get_or, get_or_from_slice_get}
use Rattle.mely_event.specs.declared.colour.Colour.{Colour}
use Rattle.mely_history.specs.declared.setup.Setup.{Setup}
use Rattle.mely_history.specs.declared.entry.Entry.{Entry}
use Rattle.mely_history.specs.declared.entry.Entry.TheVariants.{Reg}
use Rattle.mely_history.specs.declared.colour_counts.ColourCounts.{ColourCounts}
use Rattle.mely_history.specs.Entries.{colour_of}
use Rattle.mely_history.specs.Legal.{IsAllowed, IsLegal}
use Rattle.mely_history.specs.Judging.{HasColour, IsColourFault}
use Rattle.mely_history.specs.ColourCounts.{Tells, Allows}
use Rattle.mely_history.proofs.LegalLemmas.{slice_get_from_take, split_below, legal_below}
use Rattle.mely_history.proofs.BatchLemmas.{take-entry}
use Rattle.mely_history.proofs.ColourCountsLemmas.{tells_other, allows_exactly}
use Rattle.mely_history.proofs.LegalAccountLemmas.{same_colour}

-- the entry at a place, as indexing reads it
abbrev pub first_entry : Entry
first_entry = Reg (record { 0 = 0 }) (record { handler = 0; arg = 0 }) 0

abbrev pub entry_at : List Entry → ℕ → Entry
entry_at history at = get_or history at first_entry

-- each entry of the colour below the place may follow the entries before it
abbrev pub AreAllowed : Setup → List Entry → Colour → ℕ → Type 0
AreAllowed setup history c n = (at : ℕ) (entry : Entry) → at < n → slice_get history at ≡ Some entry → (colour_of entry).0 ≡ c.0 → IsAllowed setup (take at history) entry

-- what stands below a place stands in the beginning up to it
slice_get-take : (history : List Entry) (n at : ℕ) (entry : Entry) → at < n → slice_get history at ≡ Some entry → slice_get (take n history) at ≡ Some entry
slice_get-take history n at entry lt is =
    let within : at < length history = slice_get_within history at entry is in
    slice_get-get_or (take n history) at entry (grind (arith, common_steps)) ∙ ap (λ y. Some y) (get_or-take n history at entry lt ∙ get_or_from_slice_get history at entry entry is)

-- where the colour does not occur, its numbers are the first ones
tells_first : (setup : Setup) (entries : List Entry) (c : Colour) (counts : ColourCounts) → ((at : ℕ) (entry : Entry) → slice_get entries at ≡ Some entry → (colour_of entry).0 ≡ c.0 → ⊥) → Tells setup [] c counts → (n : ℕ) → n ≤ length entries → Tells setup (take n entries) c counts
tells_first setup entries c counts none first zero le = first
tells_first setup entries c counts none first (suc n) le =
    let within : n < length entries = omega arith in
    let before = tells_first setup entries c counts none first n (omega arith) in
    let next : suc n ≡ n + 1 = omega arith in
    ⊎_elim
    (λ there. subst (λ es. Tells setup es c counts) (sym (ap (λ k. take k entries) next ∙ take-entry entries n there.0 there.2)) (tells_other setup (take n entries) there.0 c counts (none n there.0 there.2) before))
    (λ past. let beyond = past.0 in absurd (omega (arith, beyond, within)))
    (slice_get_cases entries n).1

-- before its first entry a colour has the first numbers, and no entry
pub before_first : (setup : Setup) (history : List Entry) (c : Colour) (counts : ColourCounts) (n : ℕ) → n ≤ length history → ¬ HasColour c (take n history) → Tells setup [] c counts → Tells setup (take n history) c counts × AreAllowed setup history c n
before_first setup history c counts n le none first =
    let many : length (take n history) ≡ n = length-take-le n history le in (
      subst (λ es. Tells setup es c counts) (ap (λ k. take k (take n history)) (sym many) ∙ take-length (take n history)) (tells_first setup (take n history) c counts (λ at entry is own. none (at, entry, is, own)) first n (omega (arith, many))),
      λ at entry lt is own. absurd (none (at, entry, slice_get-take history n at entry lt is, own)),
    )

-- the entries of the colour are allowed below the next place too
pub allowed_more : (setup : Setup) (history : List Entry) (c : Colour) (n : ℕ) (entry : Entry) → AreAllowed setup history c n → slice_get history n ≡ Some entry → ((colour_of entry).0 ≡ c.0 → IsAllowed setup (take n history) entry) → AreAllowed setup history c (n + 1)
allowed_more setup history c n entry below is may at other lt there own = ⊎_elim
    (λ (less : at < n). below at other less there own)
    (λ (same : at ≡ n).
    let one : Some entry ≡ Some other = sym is ∙ ap (slice_get history) (sym same) ∙ there in
    let which : entry ≡ other = cc in
    subst (λ e. IsAllowed setup (take at history) e) which (subst (λ k. IsAllowed setup (take k history) entry) (sym same) (may (ap (λ e. (colour_of e).0) which ∙ own))))
    (split_below at n lt)

-- the numbers of an entry's colour
pub tells_of : (setup : Setup) (entries : List Entry) (c : Colour) (counts : ColourCounts) (entry : Entry) → (colour_of entry).0 ≡ c.0 → Tells setup entries c counts → Tells setup entries (colour_of entry) counts
tells_of setup entries c counts entry own tells = subst (λ k. Tells setup entries k counts) (sym (same_colour (colour_of entry) c own)) tells

-- the numbers after the entry of the colour at a place
pub tells_next : (setup : Setup) (history : List Entry) (c : Colour) (counts : ColourCounts) (n : ℕ) (entry : Entry) → slice_get history n ≡ Some entry → (colour_of entry).0 ≡ c.0 → Tells setup (take n history ++ entry ∷ []) (colour_of entry) counts → Tells setup (take (n + 1) history) c counts
tells_next setup history c counts n entry is own tells = subst (λ es. Tells setup es c counts) (sym (take-entry history n entry is)) (subst (λ k. Tells setup (take n history ++ entry ∷ []) k counts) (same_colour (colour_of entry) c own) tells)

-- and after one of another colour
pub tells_past : (setup : Setup) (history : List Entry) (c : Colour) (counts : ColourCounts) (n : ℕ) (entry : Entry) → slice_get history n ≡ Some entry → ((colour_of entry).0 ≡ c.0 → ⊥) → Tells setup (take n history) c counts → Tells setup (take (n + 1) history) c counts
tells_past setup history c counts n entry is other tells = subst (λ es. Tells setup es c counts) (sym (take-entry history n entry is)) (tells_other setup (take n history) entry c counts other tells)

-- an entry of the colour that its numbers do not allow is a fault
pub not_allowed : (setup : Setup) (history : List Entry) (c : Colour) (counts : ColourCounts) (n : ℕ) (entry other : Entry) → slice_get history n ≡ Some entry → (colour_of entry).0 ≡ c.0 → Tells setup (take n history) c counts → (Allows setup counts entry → ⊥) → slice_get history n ≡ Some other → ¬ IsAllowed setup (take n history) other
not_allowed setup history c counts n entry other is own tells not there may =
    let one : Some entry ≡ Some other = sym is ∙ there in
    let which : entry ≡ other = cc in
    not ((allows_exactly setup (take n history) entry counts (tells_of setup (take n history) c counts entry own tells)).1 (subst (λ e. IsAllowed setup (take n history) e) (sym which) may))

-- what a judge knows of the colours that occur before a place: their entries below the limit are
-- allowed, and the entry at the limit is not, if there is one
pub record IsJudged (setup : Setup) (history : List Entry) (n limit : ℕ) : Type 0 where
  pub within : limit ≤ length history
  pub fault : limit < length history → (entry : Entry) → slice_get history limit ≡ Some entry → ¬ IsAllowed setup (take limit history) entry
  pub allowed : (at : ℕ) (entry : Entry) → at < limit → slice_get history at ≡ Some entry → HasColour (colour_of entry) (take n history) → IsAllowed setup (take at history) entry

-- an entry stands in the beginning behind it
occurs_there : (history : List Entry) (n at : ℕ) (entry : Entry) → at < n → slice_get history at ≡ Some entry → HasColour (colour_of entry) (take n history)
occurs_there history n at entry lt is = (at, entry, slice_get-take history n at entry lt is, refl)

-- a colour that occurs in a beginning occurs in the one before it, or is that of its last entry
occurs_before : (history : List Entry) (n : ℕ) (c : Colour) (last : Entry) → slice_get history n ≡ Some last → HasColour c (take (n + 1) history) → HasColour c (take n history) ⊎ ((colour_of last).0 ≡ c.0)
occurs_before history n c last there (at, entry, is, own) =
    let found = slice_get_from_take history (n + 1) at entry is in
    ⊎_elim
    (λ (less : at < n). inl (at, entry, slice_get-take history n at entry less found.2, own))
    (λ (same : at ≡ n).
    let one : Some last ≡ Some entry = sym there ∙ ap (slice_get history) (sym same) ∙ found.2 in
    let which : last ≡ entry = cc in
    inr (ap (λ e. (colour_of e).0) which ∙ own))
    (split_below at n found.0)

-- the colour of the next entry was judged before
pub judged_same : (setup : Setup) (history : List Entry) (n limit : ℕ) (last : Entry) → slice_get history n ≡ Some last → HasColour (colour_of last) (take n history) → IsJudged setup history n limit → IsJudged setup history (n + 1) limit
judged_same setup history n limit last there (place, other, stands, same) judged = record {
  within = judged.within;
  fault = judged.fault;
  allowed = λ at entry lt is occurs. judged.allowed at entry lt is (⊎_elim
      (λ (before : HasColour (colour_of entry) (take n history)). before)
      (λ (own : (colour_of last).0 ≡ (colour_of entry).0). (place, other, stands, same ∙ own))
      (occurs_before history n (colour_of entry) last there occurs));
}

-- nothing is left to judge below the limit
pub judged_past : (setup : Setup) (history : List Entry) (n limit : ℕ) → limit ≤ n → IsJudged setup history n limit → IsJudged setup history (n + 1) limit
judged_past setup history n limit le judged = record {
  within = judged.within;
  fault = judged.fault;
  allowed = λ at entry lt is occurs. judged.allowed at entry lt is (occurs_there history n at entry (omega (arith, lt, le)) is);
}

-- the colour of the next entry is judged
pub judged_next : (setup : Setup) (history : List Entry) (n limit next : ℕ) (last : Entry) → slice_get history n ≡ Some last → IsColourFault setup history (colour_of last) limit next → IsJudged setup history n limit → IsJudged setup history (n + 1) next
judged_next setup history n limit next last there found judged =
    let low = found.within in let within = judged.within in
    record {
      within = omega (arith, low, within);
      fault = λ lt. ⊎_elim
          (λ (less : next < limit). found.fault less)
          (λ (same : next ≡ limit). subst (λ k. (entry : Entry) → slice_get history k ≡ Some entry → ¬ IsAllowed setup (take k history) entry) (sym same) (judged.fault (omega (arith, same, lt))))
          (split_below next limit (omega (arith, low)));
      allowed = λ at entry lt is occurs. ⊎_elim
          (λ (before : HasColour (colour_of entry) (take n history)). judged.allowed at entry (omega (arith, lt, low)) is before)
          (λ (own : (colour_of last).0 ≡ (colour_of entry).0). found.legal_before at entry lt is (sym own))
          (occurs_before history n (colour_of entry) last there occurs);
    }

-- once all colours are judged, each entry below the limit is allowed
pub judged_all : (setup : Setup) (history : List Entry) (n limit : ℕ) → length history ≤ n → IsJudged setup history n limit → IsLegal setup (take limit history)
judged_all setup history n limit le judged = legal_below setup history limit (λ at entry lt is. let within : at < length history = slice_get_within history at entry is in judged.allowed at entry lt is (occurs_there history n at entry (omega (arith, within, le)) is))
