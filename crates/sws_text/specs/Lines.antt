-- The lines of a text.
use Rattle.std.specs.Prelude.{◌≡◌, ◌≢◌, ◌⊎◌, ℕ, ◌<◌, ◌==◌, if◌then◌else◌, List, [], ◌∷◌, ◌++◌, length}
use Rattle.std.specs.List.{AllByRecursion, onto_first}

-- no byte is this one
abbrev pub HasNo : ℕ → List ℕ → Type 0
HasNo byte bytes = AllByRecursion (λ b. b ≢ byte) bytes

-- the lines of a text, without their LF, which may be missing at the last
abbrev pub lines_of : List ℕ → List (List ℕ)
lines_of [] = []
lines_of (byte ∷ bytes) =
    if byte == 10 then [] ∷ lines_of bytes else onto_first byte (lines_of bytes)

-- a line that is ended by LF, and what stands behind it, or the last one without
pub record IsFirstLine (text line rest : List ℕ) : Type 0 where
  pub no_feed : HasNo 10 line
  pub is : (text ≡ line ++ 10 ∷ rest) ⊎ ((text ≡ line) × (rest ≡ []) × (0 < length line))
