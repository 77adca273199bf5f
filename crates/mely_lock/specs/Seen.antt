-- What a pass has seen of a history, and how the history goes on from there. A history is the list
-- of the notes that a value behind a lock keeps, the oldest first. Each note has the number of the
-- pass that made it. What a pass has seen is its front, with which the history begins.
use Rattle.std.specs.Prelude.{◌≡◌, ◌⊎◌, ◌==◌, ℕ, Bool, true, false, List, [], ◌∷◌, ◌++◌, filter}

module _ {N : Type 0} (pass_of : N → ℕ) where
  -- the notes of the pass n, in their order
  abbrev pub notes_of : ℕ → List N → List N
  notes_of n history = filter (λ note. pass_of note == n) history

  -- the history begins with the front, and since then others than the pass n made notes: a call of
  -- that pass stands at such a point
  abbrev pub OthersSince : ℕ → List N → List N → Type 0
  OthersSince n front history = (between : List N) × (history ≡ front ++ between)
      × (notes_of n between ≡ [])

  -- the history is the front, or has one note more, of the pass n
  abbrev pub GrewByAtMostOne : ℕ → List N → List N → Type 0
  GrewByAtMostOne n front history = (history ≡ front)
      ⊎ ((note : N) × (history ≡ front ++ note ∷ []) × (pass_of note ≡ n))

  -- the history has one note more than the front, of the pass n, where `grown` says so, and is
  -- the front where it does not
  abbrev pub GrewIf : Bool → ℕ → List N → List N → Type 0
  GrewIf grown n front history = (grown ≡ true → (note : N) × (history ≡ front ++ note ∷ [])
      × (pass_of note ≡ n)) × (grown ≡ false → history ≡ front)
