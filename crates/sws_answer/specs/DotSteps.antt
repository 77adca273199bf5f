-- A path without its dot segments, as it is written byte by byte. Only clauses of private functions
-- cite this.
use Rattle.std.specs.Prelude.{◌≡◌, ℕ, Bool, false, ◌||◌, if◌then◌else◌, List, [], ◌∷◌, ◌++◌, All}
use Rattle.std.specs.List.{AllByRecursion}
use Rattle.sws_answer.specs.Targets.{is_slash, is_dot, is_double_dot, folders_with, folders_text}

-- there is no slash in it
abbrev pub IsSegment : List ℕ → Type 0
IsSegment segment = All (λ byte. is_slash byte ≡ false) segment

-- what was written is these folders, and behind them the beginning of a segment
pub record IsWritten (bytes : List ℕ) (folders : List (List ℕ)) (segment : List ℕ) : Type 0 where
  pub is : bytes ≡ folders_text folders ++ segment
  pub all : AllByRecursion IsSegment folders
  pub last : IsSegment segment

-- the segment stands for a folder
abbrev pub is_dot_segment : List ℕ → Bool
is_dot_segment segment = is_dot segment || is_double_dot segment

-- the segment at the end stood for a folder and was taken away with what it takes away, or else all
-- stayed
abbrev pub EndsSegment : List (List ℕ) → List ℕ → Bool → List ℕ → List ℕ → Type 0
EndsSegment folders segment was_dots old new =
    (was_dots ≡ is_dot_segment segment)
    × (new ≡ (if was_dots then folders_text (folders_with folders segment) else old))

-- the folders behind one byte more
abbrev pub folders_after : ℕ → List (List ℕ) → List ℕ → List (List ℕ)
folders_after byte folders segment =
    if is_slash byte then folders_with folders segment else folders

-- the beginning of a segment behind one byte more
abbrev pub segment_after : ℕ → List ℕ → List ℕ
segment_after byte segment = if is_slash byte then [] else segment ++ byte ∷ []
