-- What a log shows of bytes that a client has sent, as nginx does (its log module, `escape=default`).
use Rattle.std.specs.Prelude.{◌≢◌, ℕ, ◌+◌, ◌/◌, ◌%◌, ◌==◌, ◌≤◌, ◌&&◌, not, nat_le, nat_lt, Bool, if◌then◌else◌, List, [], ◌∷◌, ◌++◌}

-- a byte that stands for itself: from 32 to 126, and neither a quote nor a backslash
abbrev pub is_plain : ℕ → Bool
is_plain byte = (nat_le 32 byte && nat_le byte 126) && (not (byte == 34) && not (byte == 92))

-- a hexadecimal digit: 48 is `0`, and 55 + 10 is `A`
abbrev pub digit_of : ℕ → ℕ
digit_of number = if nat_lt number 10 then 48 + number else 55 + number

-- any other byte is a backslash, `x` and two such digits
abbrev pub escape_of : ℕ → List ℕ
escape_of byte =
    if is_plain byte then byte ∷ [] else 92 ∷ 120 ∷ digit_of (byte / 16) ∷ digit_of (byte % 16) ∷ []

-- all bytes, one after another
abbrev pub escaped : List ℕ → List ℕ
escaped [] = []
escaped (byte ∷ bytes) = escape_of byte ++ escaped bytes

-- between quotes; where there are none it is `-`
abbrev pub quoted : List ℕ → List ℕ
quoted [] = 34 ∷ 45 ∷ 34 ∷ []
quoted (byte ∷ bytes) = 34 ∷ (escaped (byte ∷ bytes) ++ 34 ∷ [])

-- a byte that ends neither a line nor what stands between quotes, and controls no terminal
pub record IsHarmless (byte : ℕ) : Type 0 where
  pub least : 32 ≤ byte
  pub most : byte ≤ 126
  pub no_quote : byte ≢ 34
