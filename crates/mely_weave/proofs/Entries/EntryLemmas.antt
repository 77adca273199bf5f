-- What one more entry changes of each colour.
use Rattle.std.proofs.Common.{◌≡◌, ◌≢◌, ◌+◌, ◌≤◌, ◌<◌, ◌⊎◌, Bool, true, false, List, [], ◌∷◌, ◌++◌, length, drop, refl, sym, ◌∙◌, ap, subst, arith, ⊎_elim, eq-eqb, eqb-true, length-drop, length-append}
use Rattle.std.proofs.lemmas.Bool.{ne_eqb, cases_eq, ltb-true}
use Rattle.std.proofs.lemmas.Bool.Decides.{nat_tests}
use Rattle.std.proofs.lemmas.List.{drop-append-le}
use Rattle.std.proofs.lemmas.List.Sums.{sum_by-append}
use Rattle.std.specs.Prelude.{◌==◌, ◌&&◌, nat_lt, sum_by}
use Rattle.mely_event.specs.declared.colour.Colour.{Colour}
use Rattle.mely_event.specs.declared.event.Event.{Event}
use Rattle.mely_history.specs.declared.setup.Setup.{Setup}
use Rattle.mely_history.specs.declared.entry.Entry.{Entry}
use Rattle.mely_history.specs.Entries.{colour_of}
use Rattle.mely_history.specs.History.{weight}
use Rattle.mely_history.specs.Legal.{IsAllowed, IsLegal}
use Rattle.mely_history.specs.ColourAccount.{ColourAccount, account_of, next_account}
use Rattle.mely_history.proofs.ColourAccountLemmas.{account-own, account-other}
use Rattle.mely_history.proofs.LegalAccountLemmas.{same_colour}
use Rattle.mely_weave.specs.Side.{Readiness, readiness_of}

-- the histories in which the entries of each colour stand
abbrev pub Histories : Type 0
Histories = Colour → List Entry

abbrev pub accounts : Setup → Histories → Colour → ColourAccount
accounts setup h c = account_of setup (h c) c

abbrev pub readinesses : Setup → Histories → Colour → Readiness
readinesses setup h c = readiness_of setup (accounts setup h c)

-- an entry more in the history of its colour's shard, which is legal and may have it
pub record Adds (setup : Setup) (h h' : Histories) (entry : Entry) : Type 0 where
  pub legal : IsLegal setup (h (colour_of entry))
  pub allowed : IsAllowed setup (h (colour_of entry)) entry
  pub own : h' (colour_of entry) ≡ h (colour_of entry) ++ entry ∷ []
  pub each : (c : Colour) → (h' c ≡ h c) ⊎ ((h c ≡ h (colour_of entry)) × (h' c ≡ h' (colour_of entry)))

module _ (setup : Setup) (h h' : Histories) (entry : Entry) (adds : Adds setup h h' entry) where
  -- the colour of the entry has the next account
  pub account_moves : accounts setup h' (colour_of entry) ≡ next_account (accounts setup h (colour_of entry)) entry
  account_moves = ap (λ l. account_of setup l (colour_of entry)) adds.own ∙ account-own setup (h (colour_of entry)) entry (colour_of entry) refl

  -- another colour has the account that it had
  pub account_stays : (d : Colour) → d.0 ≢ (colour_of entry).0 → accounts setup h' d ≡ accounts setup h d
  account_stays d other = ⊎_elim
      (λ (same : h' d ≡ h d). ap (λ l. account_of setup l d) same)
      (λ (both : (h d ≡ h (colour_of entry)) × (h' d ≡ h' (colour_of entry))).
      ap (λ l. account_of setup l d) (both.1 ∙ adds.own) ∙ account-other setup (h (colour_of entry)) entry d (λ e. other (sym e)) ∙ ap (λ l. account_of setup l d) (sym both.0))
      (adds.each d)

  pub readiness_stays : (d : Colour) → d.0 ≢ (colour_of entry).0 → readinesses setup h' d ≡ readinesses setup h d
  readiness_stays d other = ap (readiness_of setup) (account_stays d other)

  pub readiness_moves : readinesses setup h' (colour_of entry) ≡ readiness_of setup (next_account (accounts setup h (colour_of entry)) entry)
  readiness_moves = ap (readiness_of setup) account_moves

  -- what holds of the colour of the entry and of each other colour holds of each
  pub by_colour : (P : Colour → Type 0) → P (colour_of entry) → ((d : Colour) → d.0 ≢ (colour_of entry).0 → P d) → (d : Colour) → P d
  by_colour P own other d = ⊎_elim
      (λ (is : d.0 ≡ (colour_of entry).0). subst P (sym (same_colour d (colour_of entry) is)) own)
      (λ (ne : d.0 ≡ (colour_of entry).0 → ⊥). other d ne)
      (cases_eq d.0 (colour_of entry).0)

-- a colour that rests while something waits is ready
pub is_ready : (setup : Setup) (s : ColourAccount) → s.begun ≡ s.ended → s.begun < length s.registered → (readiness_of setup s).ready ≡ true
is_ready setup s same less = rw (eq-eqb s.begun s.ended same) (grind (arith, nat_tests))

-- a colour that runs is not
pub runs_unready : (setup : Setup) (s : ColourAccount) → s.begun ≢ s.ended → (readiness_of setup s).ready ≡ false
runs_unready setup s other = rw (ne_eqb s.begun s.ended other) refl

-- nor is one of which nothing waits
pub none_unready : (setup : Setup) (s : ColourAccount) → length s.registered ≤ s.begun → (readiness_of setup s).ready ≡ false
none_unready setup s none = elim (s.begun == s.ended) as (λ b. (b && nat_lt s.begun (length s.registered)) ≡ false) [
  | true ↦ grind (arith, nat_tests)
  | false ↦ refl
]

-- a ready colour rests, and something waits
and_first : (x y : Bool) → (x && y) ≡ true → x ≡ true
and_first true y h = refl
and_first false y h = cc

and_second : (x y : Bool) → (x && y) ≡ true → y ≡ true
and_second true y h = h
and_second false y h = cc

pub ready_rests : (setup : Setup) (s : ColourAccount) → (readiness_of setup s).ready ≡ true → (s.begun ≡ s.ended) × (s.begun < length s.registered)
ready_rests setup s ready = (
  eqb-true s.begun s.ended (and_first (s.begun == s.ended) (nat_lt s.begun (length s.registered)) ready),
  ltb-true s.begun (length s.registered) (and_second (s.begun == s.ended) (nat_lt s.begun (length s.registered)) ready),
)

-- some event of the colour waits
pub some_waits : (s : ColourAccount) → 0 < length (drop s.begun s.registered) → s.begun < length s.registered
some_waits s some = omega (arith, some, length-drop s.begun s.registered)

pub none_waits : (s : ColourAccount) → drop s.begun s.registered ≡ [] → length s.registered ≤ s.begun
none_waits s none = omega (arith, ap length none, length-drop s.begun s.registered)

-- a colour is worth more by each event that is registered
pub worth_grows : (setup : Setup) (s : ColourAccount) (event : Event) → s.begun ≤ length s.registered
    → sum_by (weight setup) (drop s.begun s.registered) ≤ sum_by (weight setup) (drop s.begun (s.registered ++ event ∷ []))
worth_grows setup s event within =
    let split : drop s.begun (s.registered ++ event ∷ []) ≡ drop s.begun s.registered ++ event ∷ [] = drop-append-le s.begun s.registered (event ∷ []) within in
    let more : sum_by (weight setup) (drop s.begun (s.registered ++ event ∷ [])) ≡ sum_by (weight setup) (drop s.begun s.registered) + sum_by (weight setup) (event ∷ []) = ap (sum_by (weight setup)) split ∙ sum_by-append (weight setup) (drop s.begun s.registered) (event ∷ []) in
    omega (arith, more)

pub more_registered : (s : ColourAccount) (event : Event) → length (s.registered ++ event ∷ []) ≡ length s.registered + 1
more_registered s event = length-append s.registered (event ∷ [])
