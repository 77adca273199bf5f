-- What each entry of a history counts, of what is registered on a colour and of what is taken.
use Rattle.std.proofs.Common.{◌≡◌, ℕ, ◌+◌, ◌==◌, List, [], ◌∷◌, ◌++◌, Some, None, Bool, true, false, if◌then◌else◌, take, refl, ◌∙◌, ap, arith, append-nil, take-add, eq-eqb}
use Rattle.std.proofs.lemmas.List.{take-append-le}
use Rattle.std.proofs.lemmas.List.Elements.{filter_map-append}
use Rattle.std.proofs.lemmas.List.Sums.{sum_by-append, sum_by-cons, sum_by_push}
use Rattle.std.specs.List.{cons_option}
use Rattle.std.specs.Prelude.{sum_by, filter_map}
use Rattle.mely_event.specs.declared.colour.Colour.{Colour}
use Rattle.mely_event.specs.declared.event.Event.{Event}
use Rattle.mely_history.specs.declared.entry.Entry.{Entry}
use Rattle.mely_history.specs.declared.entry.Entry.TheVariants.{Reg, Take, Fin, Steal}
use Rattle.mely_history.specs.declared.setup.Setup.{Setup}
use Rattle.mely_history.specs.Entries.{registration_on, taken_on}
use Rattle.mely_history.specs.History.{registered_of, begun_of, queued_of}
use Rattle.mely_history.specs.Legal.{IsLegal}
use Rattle.mely_history.proofs.LegalAccountLemmas.{begun_within}
use Rattle.mely_history.proofs.LegalLemmas.{over_legal}
use Rattle.mely_tally.proofs.AlongLemmas.{along-append, along-push, along-flat}
use Rattle.mely_tally.specs.Account.{sum_along, taken_of}

-- what was taken after one more take
pub taken_after : (history : List Entry) (c : Colour) (core count : ℕ) → taken_of (history ++ Take c core count ∷ []) c ≡ taken_of history c ++ take count (queued_of history c)
taken_after history c core count =
    let own : taken_on c (Take c core count) ≡ count = ap (λ (b : Bool). if b then count else 0) (eq-eqb c.0 c.0 refl) in
    let begun : begun_of (history ++ Take c core count ∷ []) c ≡ begun_of history c + count = sum_by_push (taken_on c) history (Take c core count) ∙ ap (λ n. begun_of history c + n) own in
    let same : registered_of (history ++ Take c core count ∷ []) c ≡ registered_of history c = filter_map-append (registration_on c) history (Take c core count ∷ []) ∙ append-nil (registered_of history c) in
    ap (λ n. take n (registered_of (history ++ Take c core count ∷ []) c)) begun ∙ ap (take (begun_of history c + count)) same ∙ take-add (begun_of history c) count (registered_of history c)

-- what an entry registers on the colour
abbrev pub share_put : Colour → (Event → ℕ) → Entry → ℕ
share_put c number (Reg d event by) = if d.0 == c.0 then number event else 0
share_put c number (Take d core count) = 0
share_put c number (Fin d core count) = 0
share_put c number (Steal d from to) = 0

-- what an entry takes of the colour, by the entries before it
abbrev pub share_take : Colour → (List Event → Event → ℕ) → List Entry → Entry → ℕ
share_take c number before (Reg d event by) = 0
share_take c number before (Take d core count) = if d.0 == c.0 then sum_along number (taken_of before c) (take count (queued_of before c)) else 0
share_take c number before (Fin d core count) = 0
share_take c number before (Steal d from to) = 0

module _ (c : Colour) (number : Event → ℕ) where
  one_put : (event : Event) (own : Bool) → sum_by number (cons_option (if own then Some event else None) []) ≡ (if own then number event else 0)
  one_put event true = omega arith
  one_put event false = refl

  put_of : (entry : Entry) → sum_by number (filter_map (registration_on c) (entry ∷ [])) ≡ share_put c number entry
  put_of (Reg d event by) = one_put event (d.0 == c.0)
  put_of (Take d core count) = refl
  put_of (Fin d core count) = refl
  put_of (Steal d from to) = refl

  -- one entry more
  pub put_more : (history : List Entry) (entry : Entry) → sum_by number (registered_of (history ++ entry ∷ []) c) ≡ sum_by number (registered_of history c) + share_put c number entry
  put_more history entry =
      let apart = ap (λ l. sum_by number l) (filter_map-append (registration_on c) history (entry ∷ [])) in
      let both = sum_by-append number (registered_of history c) (filter_map (registration_on c) (entry ∷ [])) in
      let one = put_of entry in
      omega (arith, apart, both, one)

  put_all : (history : List Entry) → sum_by (share_put c number) history ≡ sum_by number (registered_of history c)
  put_all [] = refl
  put_all (entry ∷ history) =
      let first = sum_by-cons (share_put c number) entry history in
      let rest = put_all history in
      let apart = ap (λ l. sum_by number l) (filter_map-append (registration_on c) (entry ∷ []) history) in
      let both = sum_by-append number (filter_map (registration_on c) (entry ∷ [])) (registered_of history c) in
      let one = put_of entry in
      omega (arith, first, rest, apart, both, one)

  -- all entries
  pub put_along : (history : List Entry) → sum_along (λ _ entry. share_put c number entry) [] history ≡ sum_by number (registered_of history c)
  put_along history = along-flat (share_put c number) [] history ∙ put_all history

module _ (setup : Setup) (c : Colour) (number : List Event → Event → ℕ) where
  -- the first ones of a colour
  first_ones : ℕ → List Event → ℕ
  first_ones n events = sum_along number [] (take n events)

  more_begun : (history : List Entry) (entry : Entry) → begun_of (history ++ entry ∷ []) c ≡ begun_of history c + taken_on c entry
  more_begun history entry = sum_by_push (taken_on c) history entry

  more_registered : (history : List Entry) (entry : Entry) → registered_of (history ++ entry ∷ []) c ≡ registered_of history c ++ filter_map (registration_on c) (entry ∷ [])
  more_registered history entry = filter_map-append (registration_on c) history (entry ∷ [])

  taken_is : (history : List Entry) (entry : Entry) (begun : ℕ) (more : List Event) → begun_of history c + taken_on c entry ≡ begun → filter_map (registration_on c) (entry ∷ []) ≡ more → taken_of (history ++ entry ∷ []) c ≡ take begun (registered_of history c ++ more)
  taken_is history entry begun more count events =
      ap (λ n. take n (registered_of (history ++ entry ∷ []) c)) (more_begun history entry ∙ count)
      ∙ ap (take begun) (more_registered history entry ∙ ap (λ l. registered_of history c ++ l) events)

  -- no entry of a take
  untaken : (history : List Entry) (entry : Entry) (more : List Event) → IsLegal setup history → taken_on c entry ≡ 0 → filter_map (registration_on c) (entry ∷ []) ≡ more → sum_along number [] (taken_of (history ++ entry ∷ []) c) ≡ sum_along number [] (taken_of history c) + 0
  untaken history entry more legal none events =
      let same : begun_of history c + taken_on c entry ≡ begun_of history c = omega (arith, none) in
      let is = taken_is history entry (begun_of history c) more same events in
      let within = take-append-le (begun_of history c) (registered_of history c) more (begun_within setup history c legal) in
      let all = ap (λ l. sum_along number [] l) (is ∙ within) in
      omega (arith, all)

  take_own : (history : List Entry) (entry : Entry) (count : ℕ) → taken_on c entry ≡ count → filter_map (registration_on c) (entry ∷ []) ≡ [] → sum_along number [] (taken_of (history ++ entry ∷ []) c) ≡ sum_along number [] (taken_of history c) + sum_along number (taken_of history c) (take count (queued_of history c))
  take_own history entry count is none =
      let more : begun_of history c + taken_on c entry ≡ begun_of history c + count = omega (arith, is) in
      let all = taken_is history entry (begun_of history c + count) [] more none ∙ ap (take (begun_of history c + count)) (append-nil (registered_of history c)) ∙ take-add (begun_of history c) count (registered_of history c) in
      ap (λ l. sum_along number [] l) all ∙ along-append number [] (taken_of history c) (take count (queued_of history c))

  take_either : (history : List Entry) (d : Colour) (core count : ℕ) → IsLegal setup history → (own : Bool) → (d.0 == c.0) ≡ own → sum_along number [] (taken_of (history ++ Take d core count ∷ []) c) ≡ sum_along number [] (taken_of history c) + (if own then sum_along number (taken_of history c) (take count (queued_of history c)) else 0)
  take_either history d core count legal true is = take_own history (Take d core count) count (ap (λ (b : Bool). if b then count else 0) is) refl
  take_either history d core count legal false is = untaken history (Take d core count) [] legal (ap (λ (b : Bool). if b then count else 0) is) refl

  -- one entry more
  pub take_more : (history : List Entry) (entry : Entry) → IsLegal setup history → sum_along number [] (taken_of (history ++ entry ∷ []) c) ≡ sum_along number [] (taken_of history c) + share_take c number history entry
  take_more history (Reg d event by) legal = untaken history (Reg d event by) _ legal refl refl
  take_more history (Take d core count) legal = take_either history d core count legal (d.0 == c.0) refl
  take_more history (Fin d core count) legal = untaken history (Fin d core count) [] legal refl refl
  take_more history (Steal d from to) legal = untaken history (Steal d from to) [] legal refl refl

  -- all entries
  pub take_along : (history : List Entry) → IsLegal setup history → sum_along (share_take c number) [] history ≡ sum_along number [] (taken_of history c)
  take_along history legal =
      over_legal setup (λ h. sum_along (share_take c number) [] h ≡ sum_along number [] (taken_of h c)) refl
      (λ h entry before allowed is.
      let more = along-push (share_take c number) [] h entry in
      let same = take_more h entry before in
      omega (arith, more, same, is))
      history legal
