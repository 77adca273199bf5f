-- A file as a text (RFC 1436, appendix: TextFile and Lastline).
use Rattle.std.specs.Prelude.{ℕ, ◌-◌, nat_eq, List, [], ◌∷◌, ◌++◌, length, take, if◌then◌else◌}
use Rattle.std.specs.List.{starts_with, ends_with, flat_map}
use Rattle.sws_text.specs.Lines.{lines_of}

-- without this byte at the end, if it stands there
abbrev pub without_last : ℕ → List ℕ → List ℕ
without_last byte bytes =
    if ends_with nat_eq bytes (byte ∷ []) then take (length bytes - 1) bytes else bytes

-- a line that begins with a full stop has one more in front
abbrev pub dotted : List ℕ → List ℕ
dotted line = if starts_with nat_eq line (46 ∷ []) then 46 ∷ line else line

-- CR LF
abbrev pub line_end : List ℕ
line_end = 13 ∷ 10 ∷ []

-- a line as it is sent
abbrev pub text_line : List ℕ → List ℕ
text_line line = dotted (without_last 13 line) ++ line_end

-- the line that ends a text and a menu
abbrev pub last_line : List ℕ
last_line = 46 ∷ line_end

-- the text of these contents: line by line, each with one more full stop in front where it begins
-- with one, and behind them the line of one full stop
unfoldable pub text_of : List ℕ → List ℕ
text_of contents = flat_map text_line (lines_of contents) ++ last_line
