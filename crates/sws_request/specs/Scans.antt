-- A search for the end of a head that goes on where it stopped.
use Rattle.std.specs.Prelude.{◌≡◌, ◌⊎◌, ℕ, ◌≤◌, Bool, true, false, ◌||◌, not, List, [], ◌∷◌, ◌++◌, length, Option, Some, None, option_map}
use Rattle.std.specs.List.{list_any}
use Rattle.sws_request.specs.declared.cuts.Cut.TheVariants.{NotYet}
use Rattle.sws_request.specs.declared.scans.Scan.{Scan}
use Rattle.sws_request.specs.declared.head.Found.{Found}
use Rattle.sws_request.specs.declared.head.Found.TheVariants.{End, Lines}
use Rattle.sws_request.specs.Head.{join_lines, line_feed}
use Rattle.sws_request.specs.Cuts.{lines_of, is_empty_line, up_to_empty, head_lines, cut_of}

-- the bytes up to and with the last LF
abbrev pub whole_lines : List ℕ → List ℕ
whole_lines bytes = join_lines (lines_of bytes)

-- whether one of the lines isn't empty
abbrev pub has_other : List (List ℕ) → Bool
has_other lines = list_any (λ line. not (is_empty_line line)) lines

-- nothing, or bytes that end with LF
abbrev pub EndsWithLine : List ℕ → Type 0
EndsWithLine bytes = (bytes ≡ []) ⊎ ((text : List ℕ) × (bytes ≡ text ++ line_feed ∷ []))

-- The scan stands for these bytes: whole lines, so many bytes, in which no head has ended yet; and
-- it knows whether one of the lines isn't empty.
pub record StandsFor (scan : Scan) (front : List ℕ) : Type 0 where
  pub at : scan.at ≡ length front
  pub whole : EndsWithLine front
  pub not_yet : cut_of front ≡ NotYet
  pub begun : scan.begun ≡ has_other (lines_of front)

-- ---- the bytes behind such a front

-- the lines that end a head of which a line that isn't empty has come, or of which none has
abbrev pub rest_lines : Bool → List (List ℕ) → Option (List (List ℕ))
rest_lines true lines = up_to_empty lines
rest_lines false lines = head_lines lines

-- how many bytes of the lines belong to the head, where it ends in them
abbrev pub rest_len : Bool → List (List ℕ) → Option ℕ
rest_len begun lines = option_map (λ head. length (join_lines head)) (rest_lines begun lines)

-- where the head ends in them, or how many bytes their lines have, and whether a line
-- has come that isn't empty
abbrev pub IsFound : Bool → List ℕ → Found → Type 0
IsFound begun bytes (End len) = rest_len begun (lines_of bytes) ≡ Some len
IsFound begun bytes (Lines scan) = (rest_len begun (lines_of bytes) ≡ None)
    × (scan.at ≡ length (whole_lines bytes)) × (scan.begun ≡ (begun || has_other (lines_of bytes)))

-- an end lies in so many bytes, and so do whole lines
abbrev pub EndsWithin : Found → ℕ → Type 0
EndsWithin (End len) size = len ≤ size
EndsWithin (Lines scan) size = scan.at ≤ size
