-- Texts that stand for bytes: any of them, and the one that is written.
use Rattle.std.specs.Prelude.{◌≡◌, ℕ, ◌==◌, nat_le, ◌&&◌, if◌then◌else◌, List, [], ◌∷◌, Option, Some, None}
use Rattle.std.specs.List.{flat_map, AllByRecursion}
use Rattle.sws_text.specs.declared.sign.Sign.{Sign}
use Rattle.sws_text.specs.declared.sign.Sign.TheVariants.{Plain, LineEnd, Feed, Return, Tab, Backslash, Tilde, Hex}
use Rattle.sws_text.specs.Signs.{bytes_of, spelling_of, IsSign}

-- the text is signs, and these stand for the bytes
pub record StandsFor (text bytes : List ℕ) : Type 0 where
  pub signs : List Sign
  pub each : AllByRecursion IsSign signs
  pub text_is : text ≡ flat_map spelling_of signs
  pub bytes_are : bytes ≡ flat_map bytes_of signs

-- the text stands for no bytes
abbrev pub IsNoText : List ℕ → Type 0
IsNoText text = (bytes : List ℕ) → StandsFor text bytes → ⊥

-- the sign of one byte
abbrev pub sign_of : ℕ → Sign
sign_of byte =
    if byte == 10 then Feed else if byte == 13 then Return else if byte == 9 then Tab
    else if byte == 92 then Backslash else if byte == 126 then Tilde
    else if nat_le 32 byte && nat_le byte 126 then Plain byte else Hex byte

-- the signs of bytes, from the left: CR LF has one of its own
abbrev pub signs_of : List ℕ → List Sign
signs_of [] = []
signs_of (a ∷ []) = sign_of a ∷ []
signs_of (a ∷ b ∷ bytes) = if (a == 13) && (b == 10) then LineEnd ∷ signs_of bytes else sign_of a
    ∷ signs_of (b ∷ bytes)

-- the first of these signs, and the bytes behind it
abbrev pub sign_before : List ℕ → Option (Sign × List ℕ)
sign_before [] = None
sign_before (a ∷ []) = Some (sign_of a, [])
sign_before (a ∷ b ∷ bytes) =
    if (a == 13) && (b == 10) then Some (LineEnd, bytes) else Some (sign_of a, b ∷ bytes)

-- the text that is written for bytes
unfoldable pub text_of : List ℕ → List ℕ
text_of bytes = flat_map spelling_of (signs_of bytes)
