-- A history once all passes are back, by what each had seen of it.
use Rattle.std.specs.Prelude.{◌≡◌, ℕ, List, [], ◌++◌, Some}
use Rattle.mely_event.specs.declared.colour.Colour.{Colour}
use Rattle.mely_history.specs.Entries.{entries_by}
use Rattle.mely_history.specs.Owing.{last_change}
use Rattle.mely_history.specs.declared.entry.Entry.{Entry}
use Rattle.mely_history.specs.declared.entry.Entry.TheVariants.{Take}

-- the pass n had seen this front, and since then only others made entries
pub record IsSeenBy (history : List Entry) (n : ℕ) (front : List Entry) : Type 0 where
  pub later : List Entry
  pub goes_on : history ≡ front ++ later
  pub of_others : entries_by n later ≡ []

-- the pass n has finished what it took of the colour
abbrev pub HasFinishedOf : ℕ → Colour → List Entry → Type 0
HasFinishedOf n c front = (core count : ℕ) → ¬ (last_change n c front ≡ Some (Take c core count))
