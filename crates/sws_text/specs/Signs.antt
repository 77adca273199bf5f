-- The signs of a text: how each is spelled, and for which bytes it stands.
use Rattle.std.specs.Prelude.{◌≢◌, ℕ, ◌+◌, ◌/◌, ◌%◌, ◌≤◌, ◌<◌, nat_lt, if◌then◌else◌, List, [], ◌∷◌, ⊤}
use Rattle.sws_text.specs.declared.sign.Sign.{Sign}
use Rattle.sws_text.specs.declared.sign.Sign.TheVariants.{Plain, LineEnd, Feed, Return, Tab, Backslash, Tilde, Hex}

-- a hexadecimal digit: 48 is `0`, and 87 + 10 is `a`
abbrev pub glyph_of : ℕ → ℕ
glyph_of digit = if nat_lt digit 10 then 48 + digit else 87 + digit

-- the bytes for which a sign stands
abbrev pub bytes_of : Sign → List ℕ
bytes_of (Plain byte) = byte ∷ []
bytes_of LineEnd = 13 ∷ 10 ∷ []
bytes_of Feed = 10 ∷ []
bytes_of Return = 13 ∷ []
bytes_of Tab = 9 ∷ []
bytes_of Backslash = 92 ∷ []
bytes_of Tilde = 126 ∷ []
bytes_of (Hex byte) = byte ∷ []

-- the text of a sign: 126 is `~`, and 92 is a backslash, with `n`, `r`, `t`, itself, `~`, or `x`
-- and two digits behind it
abbrev pub spelling_of : Sign → List ℕ
spelling_of (Plain byte) = byte ∷ []
spelling_of LineEnd = 126 ∷ []
spelling_of Feed = 92 ∷ 110 ∷ []
spelling_of Return = 92 ∷ 114 ∷ []
spelling_of Tab = 92 ∷ 116 ∷ []
spelling_of Backslash = 92 ∷ 92 ∷ []
spelling_of Tilde = 92 ∷ 126 ∷ []
spelling_of (Hex byte) = 92 ∷ 120 ∷ glyph_of (byte / 16) ∷ glyph_of (byte % 16) ∷ []

-- what stands for itself is from 0x20 to 0x7E, and neither a backslash nor a tilde
abbrev pub IsPlain : ℕ → Type 0
IsPlain byte = (32 ≤ byte) × (byte ≤ 126) × (byte ≢ 92) × (byte ≢ 126)

-- a byte that stands for itself is such a one; two digits write a byte
abbrev pub IsSign : Sign → Type 0
IsSign (Plain byte) = IsPlain byte
IsSign LineEnd = ⊤
IsSign Feed = ⊤
IsSign Return = ⊤
IsSign Tab = ⊤
IsSign Backslash = ⊤
IsSign Tilde = ⊤
IsSign (Hex byte) = byte < 256
