-- What a judgement of a list of entries answers.
use Rattle.std.specs.Prelude.{◌≡◌, ◌<◌, ◌≤◌, ℕ, List, Some, length, take, slice_get}
use Rattle.mely_history.specs.declared.setup.Setup.{Setup}
use Rattle.mely_history.specs.declared.entry.Entry.{Entry}
use Rattle.mely_history.specs.declared.judged.Judged.{Judged}
use Rattle.mely_history.specs.declared.judged.Judged.TheVariants.{Legal, NotAllowed}
use Rattle.mely_event.specs.declared.colour.Colour.{Colour}
use Rattle.mely_history.specs.Entries.{colour_of}
use Rattle.mely_history.specs.Legal.{IsAllowed, IsLegal}

-- the entry at the place is the first that may not follow the entries before it
pub record IsFirstFault (setup : Setup) (history : List Entry) (at : ℕ) : Type 0 where
  pub fault : (entry : Entry) → slice_get history at ≡ Some entry
      → ¬ IsAllowed setup (take at history) entry
  pub within : at < length history
  pub legal_before : IsLegal setup (take at history)

-- what an answer says of a history
abbrev pub Judges : Setup → List Entry → Judged → Type 0
Judges setup history Legal = IsLegal setup history
Judges setup history (NotAllowed at) = IsFirstFault setup history at

-- some entry is of the colour
abbrev pub HasColour : Colour → List Entry → Type 0
HasColour c entries = (at : ℕ) × (entry : Entry) × (slice_get entries at ≡ Some entry)
    × ((colour_of entry).0 ≡ c.0)

-- each entry of the colour below the place may follow the entries before it; the one there may not,
-- if the place is below the limit
pub record IsColourFault (setup : Setup) (history : List Entry) (c : Colour)
    (limit place : ℕ) : Type 0 where
  pub within : place ≤ limit
  pub legal_before : (at : ℕ) (entry : Entry) → at < place → slice_get history at ≡ Some entry
      → (colour_of entry).0 ≡ c.0 → IsAllowed setup (take at history) entry
  pub fault : place < limit → (entry : Entry) → slice_get history place ≡ Some entry
      → ¬ IsAllowed setup (take place history) entry
