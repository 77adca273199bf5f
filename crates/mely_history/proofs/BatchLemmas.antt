-- The batches of a colour in a legal history.
use Rattle.std.proofs.Common.{◌≡◌, ℕ, zero, suc, ◌+◌, ◌-◌, ◌<◌, ◌≤◌, ◌⊎◌, List, [], ◌∷◌, ◌++◌, Some, length, take, drop, refl, sym, ◌∙◌, ap, subst, arith, inl, inr, ⊎_elim, add-zero}
use Rattle.std.specs.List.{slice_get}
use Rattle.std.proofs.lemmas.Bool.{cases_eq}
use Rattle.std.proofs.lemmas.Option.{slice_get_within, slice_get_cases, get_or_from_slice_get}
use Rattle.std.proofs.lemmas.List.{take_more, take-take, take-append-drop, length-take-le}
use Rattle.std.proofs.lemmas.List.Sums.{sum_by-append}
use Rattle.mely_event.specs.declared.colour.Colour.{Colour}
use Rattle.mely_history.specs.declared.setup.Setup.{Setup}
use Rattle.mely_history.specs.declared.entry.Entry.{Entry}
use Rattle.mely_history.specs.declared.entry.Entry.TheVariants.{Reg, Take, Fin, Steal}
use Rattle.mely_history.specs.Entries.{colour_of, taken_on}
use Rattle.mely_history.specs.History.{registered_of, begun_of, ended_of}
use Rattle.mely_history.specs.Legal.{IsAllowed, IsLegal}
use Rattle.mely_history.specs.ColourAccount.{ColourAccount, account_of, next_account}
use Rattle.mely_history.specs.Batches.{IsTakeAt, FollowOneAnother}
use Rattle.mely_history.proofs.ColourAccountLemmas.{account-own, account-other}
use Rattle.mely_history.proofs.LegalAccountLemmas.{same_colour, taken_within, begun_within, ended_within}

-- a beginning with the entry behind it
pub take-entry : (history : List Entry) (at : ℕ) (entry : Entry) → slice_get history at ≡ Some entry → take (at + 1) history ≡ take at history ++ entry ∷ []
take-entry history at entry is =
    take_more history at entry (slice_get_within history at entry is) ∙ ap (λ e. take at history ++ e ∷ []) (get_or_from_slice_get history at entry entry is)

-- the colour is away, on what its last take took
abbrev IsAway : ℕ → ℕ → ColourAccount → Type 0
IsAway core count account = (account.last ≡ Some (core, count)) × (account.begun ≡ account.ended + count) × (0 < count)

-- after an entry of an away colour that may follow, it is away still, unless that is its finish
away_next : (setup : Setup) (history : List Entry) (entry : Entry) (core count : ℕ) → IsAllowed setup history entry → IsAway core count (account_of setup history (colour_of entry)) → (entry ≡ Fin (colour_of entry) core count) ⊎ IsAway core count (next_account (account_of setup history (colour_of entry)) entry)
away_next setup history (Reg c event by) core count may away = inr away
away_next setup history (Take c core' count') core count may away = let rest = may.ready.at_rest in let gone = away.1 in let some = away.2 in absurd (omega (arith, rest, gone, some))
away_next setup history (Fin c core' count') core count may away =
    let same : Some (core', count') ≡ Some (core, count) = sym may.last ∙ away.0 in
    let pair : (core', count') ≡ (core, count) = cc in
    inl (ap (λ (p : ℕ × ℕ). Fin c p.0 p.1) pair)
away_next setup history (Steal c from to) core count may away = let rest = may.ready.at_rest in let gone = away.1 in let some = away.2 in absurd (omega (arith, rest, gone, some))

module _ (setup : Setup) (history : List Entry) (legal : IsLegal setup history) (c : Colour) where
  -- the account of the colour before a place
  abbrev before : ℕ → ColourAccount
  before at = account_of setup (take at history) c

  -- a finish of the batch stands behind i and below j
  abbrev IsFinishedIn : ℕ → ℕ → ℕ → ℕ → Type 0
  IsFinishedIn core count i j = (at : ℕ) × (i < at) × (at < j) × (slice_get history at ≡ Some (Fin c core count))

  after_entry : (at : ℕ) (entry : Entry) (core count : ℕ) → slice_get history at ≡ Some entry → IsAway core count (before at) → (entry ≡ Fin c core count) ⊎ IsAway core count (before (at + 1))
  after_entry at entry core count is away = ⊎_elim
      (λ (own : (colour_of entry).0 ≡ c.0).
      let d : colour_of entry ≡ c = same_colour (colour_of entry) c own in
      subst (λ k. (entry ≡ Fin k core count) ⊎ IsAway core count (account_of setup (take (at + 1) history) k)) d
      (subst (λ h. (entry ≡ Fin (colour_of entry) core count) ⊎ IsAway core count (account_of setup h (colour_of entry))) (sym (take-entry history at entry is))
      (subst (λ s. (entry ≡ Fin (colour_of entry) core count) ⊎ IsAway core count s) (sym (account-own setup (take at history) entry (colour_of entry) refl))
      (away_next setup (take at history) entry core count (legal at entry is) (subst (λ k. IsAway core count (account_of setup (take at history) k)) (sym d) away)))))
      (λ (other : (colour_of entry).0 ≡ c.0 → ⊥).
      inr (subst (λ h. IsAway core count (account_of setup h c)) (sym (take-entry history at entry is)) (subst (IsAway core count) (sym (account-other setup (take at history) entry c other)) away)))
      (cases_eq (colour_of entry).0 c.0)

  -- below the place that many entries behind a take the finish stands, or the colour is away still
  away_through : (i core count many : ℕ) → i + 1 + many ≤ length history → IsAway core count (before (i + 1)) → IsFinishedIn core count i (i + 1 + many) ⊎ IsAway core count (before (i + 1 + many))
  away_through i core count zero low away = inr (subst (λ at. IsAway core count (before at)) (sym (add-zero (i + 1))) away)
  away_through i core count (suc many) low away =
      let at = i + 1 + many in
      let next : i + 1 + suc many ≡ at + 1 = omega arith in
      let within : at < length history = omega arith in
      subst (λ j. IsFinishedIn core count i j ⊎ IsAway core count (before j)) (sym next) (⊎_elim
      (λ (found : IsFinishedIn core count i at). let below = found.2 in inl (found.0, found.1, omega (arith, below), found.3))
      (λ (still : IsAway core count (before at)). ⊎_elim
      (λ there. ⊎_elim
      (λ (fin : there.0 ≡ Fin c core count). inl (at, omega arith, omega arith, there.2 ∙ ap (λ e. Some e) fin))
      (λ (more : IsAway core count (before (at + 1))). inr more)
      (after_entry at there.0 core count there.2 still))
      (λ past. let beyond = past.0 in absurd (omega (arith, beyond, within)))
      (slice_get_cases history at).1)
      (away_through i core count many (omega arith) away))

  -- after a take the colour is away
  away_after : (i core count : ℕ) → IsTakeAt history c i core count → IsAway core count (before (i + 1))
  away_after i core count is =
      let may = legal i (Take c core count) is in
      let rest = may.ready.at_rest in
      subst (λ h. IsAway core count (account_of setup h c)) (sym (take-entry history i (Take c core count) is))
      (subst (IsAway core count) (sym (account-own setup (take i history) (Take c core count) c refl))
      (refl, omega (arith, rest), (taken_within setup (take i history) c count may.ready.waiting may.whole_batch).0))

  -- no events are taken back
  begun_grows : (i j : ℕ) → i ≤ j → begun_of (take i history) c ≤ begun_of (take j history) c
  begun_grows i j le =
      let split : begun_of (take j history) c ≡ begun_of (take i history) c + begun_of (drop i (take j history)) c =
      ap (λ h. begun_of h c) (sym (take-append-drop i (take j history))) ∙ sum_by-append (taken_on c) (take i (take j history)) (drop i (take j history)) ∙ ap (λ h. begun_of h c + begun_of (drop i (take j history)) c) (take-take i j history le) in
      omega (arith, split)

  pub follow_one_another : FollowOneAnother history c
  follow_one_another = record {
    finished_before = λ i j core count core' count' lt one other.
        let within : j < length history = slice_get_within history j (Take c core' count') other in
        let many = j - (i + 1) in
        let is : i + 1 + many ≡ j = omega arith in
        ⊎_elim
        (λ (found : IsFinishedIn core count i j). found)
        (λ (still : IsAway core count (before j)). let rest = (legal j (Take c core' count') other).ready.at_rest in let gone = still.1 in let some = still.2 in absurd (omega (arith, rest, gone, some)))
        (subst (λ k. IsFinishedIn core count i k ⊎ IsAway core count (before k)) is (away_through i core count many (omega arith) (away_after i core count one)));
    registered_before = λ i core count one. let may = legal i (Take c core count) one in taken_within setup (take i history) c count may.ready.waiting may.whole_batch;
    apart = λ i j core count core' count' lt one other.
        let after : begun_of (take (i + 1) history) c ≡ begun_of (take i history) c + count = ap (λ h. begun_of h c) (take-entry history i (Take c core count) one) ∙ ap (λ (s : ColourAccount). s.begun) (account-own setup (take i history) (Take c core count) c refl) in
        let grows = begun_grows (i + 1) j (omega arith) in
        omega (arith, after, grows);
    run_in_order =
        let began = begun_within setup history c legal in
        let ended = ended_within setup history c legal in
        (drop (ended_of history c) (registered_of history c), sym (take-append-drop (ended_of history c) (registered_of history c)), length-take-le (ended_of history c) (registered_of history c) (omega (arith, began, ended)));
  }
