-- Numbers that rise.
use Rattle.std.specs.Prelude.{◌≡◌, ◌<◌, ◌≤◌, ℕ, List, [], ◌∷◌, Some, slice_get}

-- the first of the numbers is above the low one, each further one is above the one before it, and
-- the last is at most the high one
abbrev pub Rises : ℕ → List ℕ → ℕ → Type 0
Rises low [] high = low ≤ high
Rises low (n ∷ more) high = (low < n) × Rises n more high

-- of any two numbers the earlier one is the lesser
abbrev pub IsAscending : List ℕ → Type 0
IsAscending numbers = (i j a b : ℕ) → i < j → slice_get numbers i ≡ Some a
    → slice_get numbers j ≡ Some b → a < b

-- each of the numbers is above the low one and at most the high one
abbrev pub AreBetween : ℕ → List ℕ → ℕ → Type 0
AreBetween low numbers high = (i n : ℕ) → slice_get numbers i ≡ Some n → (low < n) × (n ≤ high)
