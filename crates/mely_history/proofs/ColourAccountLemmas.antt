-- What a history says of a colour after one more entry.
use Rattle.std.proofs.Common.{◌≡◌, ℕ, ◌+◌, List, [], ◌∷◌, ◌++◌, refl, ◌∙◌, ap, zero-add, add-zero, eq-eqb}
use Rattle.std.proofs.lemmas.Bool.{ne_eqb}
use Rattle.std.specs.List.{cons_option, sum_by}
use Rattle.std.proofs.lemmas.List.{append-nil}
use Rattle.std.proofs.lemmas.List.Elements.{filter_map-append}
use Rattle.std.proofs.lemmas.List.Sums.{sum_by-append, fold-append}
use Rattle.mely_event.specs.declared.colour.Colour.{Colour}
use Rattle.mely_history.specs.declared.setup.Setup.{Setup}
use Rattle.mely_history.specs.declared.entry.Entry.{Entry}
use Rattle.mely_history.specs.declared.entry.Entry.TheVariants.{Reg, Take, Fin, Steal}
use Rattle.mely_history.specs.Entries.{colour_of, registration_on, taken_on, finished_on, take_on, thief_on}
use Rattle.mely_history.specs.ColourAccount.{ColourAccount, account_of, next_account}
use Rattle.std.specs.Option.{option_or}
use Rattle.std.specs.Prelude.{unwrap_or}

-- what one entry adds, whatever its colour
abbrev pub account_with : Colour → ColourAccount → Entry → ColourAccount
account_with c s entry = record {
  registered = s.registered ++ cons_option (registration_on c entry) [];
  begun = s.begun + taken_on c entry;
  ended = s.ended + finished_on c entry;
  owner = unwrap_or (thief_on c entry) s.owner;
  last = option_or (take_on c entry) s.last;
}

sum_more : (f : Entry → ℕ) (history : List Entry) (entry : Entry) → sum_by f (history ++ entry ∷ []) ≡ sum_by f history + f entry
sum_more f history entry = sum_by-append f history (entry ∷ []) ∙ ap (λ n. sum_by f history + n) (zero-add (f entry))

pub account-with : (setup : Setup) (history : List Entry) (entry : Entry) (c : Colour) → account_of setup (history ++ entry ∷ []) c ≡ account_with c (account_of setup history c) entry
account-with setup history entry c =
    rw (
      filter_map-append (registration_on c) history (entry ∷ []),
      sum_more (taken_on c) history entry,
      sum_more (finished_on c) history entry,
      fold-append _ _ history (entry ∷ []),
      fold-append _ _ history (entry ∷ []),
    ) refl

-- an entry of the colour
pub with_own : (c : Colour) (s : ColourAccount) (entry : Entry) → (colour_of entry).0 ≡ c.0 → account_with c s entry ≡ next_account s entry
with_own c s (Reg colour event by) is = rw (eq-eqb colour.0 c.0 is, add-zero s.begun, add-zero s.ended) refl
with_own c s (Take colour core count) is = rw (eq-eqb colour.0 c.0 is, append-nil s.registered, add-zero s.ended) refl
with_own c s (Fin colour core count) is = rw (eq-eqb colour.0 c.0 is, append-nil s.registered, add-zero s.begun) refl
with_own c s (Steal colour from to) is = rw (eq-eqb colour.0 c.0 is, append-nil s.registered, add-zero s.begun, add-zero s.ended) refl

-- an entry of another colour
with_other : (c : Colour) (s : ColourAccount) (entry : Entry) → ((colour_of entry).0 ≡ c.0 → ⊥) → account_with c s entry ≡ s
with_other c s (Reg colour event by) ne = rw (ne_eqb colour.0 c.0 ne, append-nil s.registered, add-zero s.begun, add-zero s.ended) refl
with_other c s (Take colour core count) ne = rw (ne_eqb colour.0 c.0 ne, append-nil s.registered, add-zero s.begun, add-zero s.ended) refl
with_other c s (Fin colour core count) ne = rw (ne_eqb colour.0 c.0 ne, append-nil s.registered, add-zero s.begun, add-zero s.ended) refl
with_other c s (Steal colour from to) ne = rw (ne_eqb colour.0 c.0 ne, append-nil s.registered, add-zero s.begun, add-zero s.ended) refl

pub account-own : (setup : Setup) (history : List Entry) (entry : Entry) (c : Colour) → (colour_of entry).0 ≡ c.0 → account_of setup (history ++ entry ∷ []) c ≡ next_account (account_of setup history c) entry
account-own setup history entry c is = account-with setup history entry c ∙ with_own c (account_of setup history c) entry is

pub account-other : (setup : Setup) (history : List Entry) (entry : Entry) (c : Colour) → ((colour_of entry).0 ≡ c.0 → ⊥) → account_of setup (history ++ entry ∷ []) c ≡ account_of setup history c
account-other setup history entry c ne = account-with setup history entry c ∙ with_other c (account_of setup history c) entry ne
