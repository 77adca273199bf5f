-- The lines that show bytes.
use Rattle.std.specs.Prelude.{ℕ, ◌==◌, Bool, true, false, if◌then◌else◌, List, [], ◌∷◌, ◌++◌, codes}
use Rattle.std.specs.List.{flat_map, onto_first}
use Rattle.sws_text.specs.declared.sign.Sign.{Sign}
use Rattle.sws_text.specs.declared.sign.Sign.TheVariants.{LineEnd, Feed}
use Rattle.sws_text.specs.Signs.{spelling_of}
use Rattle.sws_text.specs.Texts.{text_of}

-- the bytes up to and with each LF, and what follows the last one, if anything does
abbrev pub pieces_of : List ℕ → List (List ℕ)
pieces_of [] = []
pieces_of (byte ∷ bytes) =
    if byte == 10 then (byte ∷ []) ∷ pieces_of bytes else onto_first byte (pieces_of bytes)

-- a line
abbrev pub shown_line : List ℕ → List ℕ
shown_line piece = codes "| " ++ text_of piece ++ 10 ∷ []

-- the lines that show bytes: one ends behind each LF that is shown, and one behind the last byte
abbrev pub shown_lines : List ℕ → List ℕ
shown_lines bytes = flat_map shown_line (pieces_of bytes)

-- ---- the lines piece by piece

-- the rest of a line that has begun, and the lines behind it
abbrev pub rest_of_line : List (List ℕ) → List ℕ
rest_of_line [] = 10 ∷ []
rest_of_line (piece ∷ pieces) = text_of piece ++ 10 ∷ flat_map shown_line pieces

-- what is still to be written where these bytes are left, in a line that has begun or behind one
abbrev pub remaining_lines : Bool → List ℕ → List ℕ
remaining_lines true bytes = rest_of_line (pieces_of bytes)
remaining_lines false bytes = shown_lines bytes

-- the bytes of the sign end with LF
abbrev pub ends_line : Sign → Bool
ends_line LineEnd = true
ends_line Feed = true
ends_line _ = false

-- a line that has not begun begins here
abbrev pub margin : Bool → List ℕ
margin true = []
margin false = codes "| "

-- a sign in a line that has begun or begins with it, which ends with it or goes on
abbrev pub shown_sign : Bool → Sign → List ℕ
shown_sign in_line sign =
    margin in_line ++ spelling_of sign ++ (if ends_line sign then 10 ∷ [] else [])
