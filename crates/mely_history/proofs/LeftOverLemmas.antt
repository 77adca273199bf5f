-- What waits where the fronts of all cores are drained.
use Rattle.std.proofs.Common.{◌≡◌, ℕ, zero, suc, ◌+◌, ◌-◌, ◌<◌, ◌≤◌, ◌⊎◌, true, false, List, [], ◌∷◌, ◌++◌, take, drop, refl, sym, ◌∙◌, ap, subst, arith, ⊎_elim, eq-eqb, append_assoc, add-zero}
use Rattle.std.specs.List.{AllByRecursion}
use Rattle.std.proofs.lemmas.Bool.{cases_lt}
use Rattle.std.proofs.lemmas.List.{take-append-drop, drop-append-le, drop-drop}
use Rattle.std.proofs.lemmas.List.Elements.{filter_map-append}
use Rattle.std.proofs.lemmas.List.Sums.{sum_by-append, sum_by-cons}
use Rattle.mely_event.specs.declared.colour.Colour.{Colour}
use Rattle.mely_history.specs.Setup.{shape_of}
use Rattle.mely_history.specs.declared.setup.Setup.{Setup}
use Rattle.mely_history.specs.declared.entry.Entry.{Entry}
use Rattle.mely_history.specs.declared.entry.Entry.TheVariants.{Reg, Take, Fin, Steal}
use Rattle.mely_history.specs.Entries.{pass_of, entries_by, registration_on, taken_on}
use Rattle.mely_history.specs.History.{registered_of, begun_of, queued_of}
use Rattle.mely_history.specs.Legal.{IsAllowed, IsLegal, IsDrained}
use Rattle.mely_history.specs.LeftOver.{HaveDrainedFronts, HasSeenMost, IsLeftOver}
use Rattle.mely_history.proofs.LegalLemmas.{legal_front, legal_before}
use Rattle.mely_history.proofs.LegalAccountLemmas.{begun_within, owner_within}
use Rattle.mely_history.proofs.OwingLemmas.{others_first}

-- where a pass made none of the entries, it made none of the last ones
none_behind : (n k : ℕ) (entries : List Entry) → entries_by n entries ≡ [] → entries_by n (drop k entries) ≡ []
none_behind n zero entries none = none
none_behind n (suc k) [] none = none
none_behind n (suc k) (entry ∷ entries) none = none_behind n k entries (others_first n entry entries none).1

-- what no core made was made by passes of higher numbers
by_none : (cores : ℕ) (entries : List Entry) → ((core : ℕ) → core < cores → entries_by core entries ≡ []) → AllByRecursion (λ entry. cores ≤ pass_of entry) entries
by_none cores [] none = tt
by_none cores (entry ∷ entries) none = (first (cases_lt (pass_of entry) cores), by_none cores entries (λ core lt. (others_first core entry entries (none core lt)).1)) where
  first : (pass_of entry < cores) ⊎ (cores ≤ pass_of entry) → cores ≤ pass_of entry
  first cases = ⊎_elim
      (λ (lt : pass_of entry < cores).
      let not = (others_first (pass_of entry) entry entries (none (pass_of entry) lt)).0 in
      let wrong : true ≡ false = sym (eq-eqb (pass_of entry) (pass_of entry) refl) ∙ not in
      cc)
      (λ (le : cores ≤ pass_of entry). le)
      cases

-- an entry that may follow and that no core made takes nothing
takes_none : (setup : Setup) (history : List Entry) (entry : Entry) → IsLegal setup history → IsAllowed setup history entry → (shape_of setup).cores ≤ pass_of entry → (c : Colour) → taken_on c entry ≡ 0
takes_none setup history (Reg colour event by) legal may high c = refl
takes_none setup history (Take colour core count) legal may high c = let owner = owner_within setup history colour legal in let is = may.by_owner in absurd (omega (arith, owner, is, high))
takes_none setup history (Fin colour core count) legal may high c = refl
takes_none setup history (Steal colour from to) legal may high c = refl

-- nothing is taken behind a place where no core made an entry
none_begun : (setup : Setup) (done behind : List Entry) → IsLegal setup (done ++ behind) → AllByRecursion (λ entry. (shape_of setup).cores ≤ pass_of entry) behind → (c : Colour) → begun_of behind c ≡ 0
none_begun setup done [] legal all c = refl
none_begun setup done (entry ∷ behind) legal (first, others) c =
    let whole : IsLegal setup ((done ++ entry ∷ []) ++ behind) = subst (IsLegal setup) (sym (append_assoc done (entry ∷ []) behind)) legal in
    let last = legal_before setup done entry (legal_front setup (done ++ entry ∷ []) behind whole) in
    let none = takes_none setup done entry last.0 last.1 first c in
    let rest = none_begun setup (done ++ entry ∷ []) behind whole others c in
    let split : begun_of (entry ∷ behind) c ≡ taken_on c entry + begun_of behind c = sum_by-cons (taken_on c) entry behind in
    omega (arith, none, rest, split)

-- where nothing waits in front of a place, and no core made an entry behind it, what waits
-- was registered behind it
queued_behind : (setup : Setup) (front behind : List Entry) → IsLegal setup (front ++ behind) → IsDrained front → AllByRecursion (λ entry. (shape_of setup).cores ≤ pass_of entry) behind → (c : Colour) → queued_of (front ++ behind) c ≡ registered_of behind c
queued_behind setup front behind legal drained others c =
    let within = begun_within setup front c (legal_front setup front behind legal) in
    let none = none_begun setup front behind legal others c in
    let begun : begun_of (front ++ behind) c ≡ begun_of front c = sum_by-append (taken_on c) front behind ∙ ap (λ n. begun_of front c + n) none ∙ add-zero (begun_of front c) in
    let registered : registered_of (front ++ behind) c ≡ registered_of front c ++ registered_of behind c = filter_map-append (registration_on c) front behind in
    ap (λ n. drop n (registered_of (front ++ behind) c)) begun
    ∙ ap (drop (begun_of front c)) registered
    ∙ drop-append-le (begun_of front c) (registered_of front c) (registered_of behind c) within
    ∙ ap (λ events. events ++ registered_of behind c) (drained c).none_queued

-- where the front of each core is drained and has all that the core made, what waits was registered
-- after the longest of these fronts, by passes that are no core's
pub left_over : (setup : Setup) (history : List Entry) (seen : ℕ → ℕ) (core : ℕ) → IsLegal setup history → HaveDrainedFronts setup history seen → HasSeenMost setup seen core → IsLeftOver setup history (seen core)
left_over setup history seen core legal fronts most =
    let place = seen core in
    let split : take place history ++ drop place history ≡ history = take-append-drop place history in
    let others : AllByRecursion (λ entry. (shape_of setup).cores ≤ pass_of entry) (drop place history) = by_none (shape_of setup).cores (drop place history) (λ other lt.
    let few = most.most other lt in
    let far : (seen other) + (place - seen other) ≡ place = omega (arith, few) in
    subst (λ entries. entries_by other entries ≡ []) (drop-drop (place - seen other) (seen other) history ∙ ap (λ n. drop n history) far)
    (none_behind other (place - seen other) (drop (seen other) history) (fronts.own other lt))) in
    record {
      behind = λ c.
          subst (λ h. queued_of h c ≡ registered_of (drop place history) c) split
          (queued_behind setup (take place history) (drop place history) (subst (IsLegal setup) (sym split) legal) (fronts.drained core most.there) others c);
      by_others = others;
    }
