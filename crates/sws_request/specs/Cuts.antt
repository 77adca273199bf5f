-- Where the first head of some bytes ends, line by line (RFC 9112, section 2.2).
use Rattle.std.specs.Prelude.{ℕ, ◌==◌, nat_le, Bool, false, ◌&&◌, if◌then◌else◌, List, [], ◌∷◌, length, Option, Some, None, option_map}
use Rattle.sws_request.specs.declared.cuts.Cut.{Cut}
use Rattle.sws_request.specs.declared.cuts.Cut.TheVariants.{Head, TooLong, NotYet}
use Rattle.sws_request.specs.Head.{join_lines, line_feed, carriage_return, head_limit}

-- a byte in front of the first line, where there is one
abbrev pub before_first : ℕ → List (List ℕ) → List (List ℕ)
before_first byte [] = []
before_first byte (line ∷ lines) = (byte ∷ line) ∷ lines

-- the lines, each up to and with its LF; what stands behind the last LF is no line yet
unfoldable pub lines_of : List ℕ → List (List ℕ)
lines_of [] = []
lines_of (byte ∷ bytes) =
    if byte == line_feed then (byte ∷ []) ∷ lines_of bytes else before_first byte (lines_of bytes)

-- LF or CR LF
abbrev pub is_empty_line : List ℕ → Bool
is_empty_line [] = false
is_empty_line (a ∷ []) = a == line_feed
is_empty_line (a ∷ b ∷ []) = (a == carriage_return) && (b == line_feed)
is_empty_line (a ∷ b ∷ c ∷ line) = false

-- the lines up to and with the first empty one
unfoldable pub up_to_empty : List (List ℕ) → Option (List (List ℕ))
up_to_empty [] = None
up_to_empty (line ∷ lines) = if is_empty_line line then Some (line ∷ []) else option_map (λ later.
    line ∷ later) (up_to_empty lines)

-- the lines of the first head: any number of empty ones, then another, and then those up to and
-- with the first empty one
unfoldable pub head_lines : List (List ℕ) → Option (List (List ℕ))
head_lines [] = None
head_lines (line ∷ lines) =
    option_map (λ later.
    line ∷ later) (if is_empty_line line then head_lines lines else up_to_empty lines)

-- the length of the first head, where it is whole
abbrev pub head_len : List ℕ → Option ℕ
head_len bytes = option_map (λ lines. length (join_lines lines)) (head_lines (lines_of bytes))

-- so many bytes without a head that is short enough
abbrev pub cut_without : ℕ → Cut
cut_without size = if nat_le head_limit size then TooLong else NotYet

-- the cut of so many bytes, by the length of their first head
abbrev pub cut_by : Option ℕ → ℕ → Cut
cut_by None size = cut_without size
cut_by (Some len) size = if nat_le len head_limit then Head len else cut_without size

-- the cut of the bytes
unfoldable pub cut_of : List ℕ → Cut
cut_of bytes = cut_by (head_len bytes) (length bytes)
