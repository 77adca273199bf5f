-- The lines of a text, from the first one on.
use Rattle.std.proofs.Common.{◌≡◌, ◌≢◌, ℕ, ◌+◌, ◌<◌, ◌≤◌, ◌⊎◌, Bool, true, false, cond, eqb, List, [], ◌∷◌, ◌++◌, length, refl, sym, ap, ◌∙◌, inl, inr, arith, length-append, true-eqb}
use Rattle.std.specs.List.{onto_first}
use Rattle.sws_text.specs.Lines.{HasNo, lines_of, IsFirstLine}

lines_of-byte : (byte : ℕ) (bytes : List ℕ) → byte ≢ 10 → lines_of (byte ∷ bytes) ≡ onto_first byte (lines_of bytes)
lines_of-byte byte bytes not = by_test (eqb byte 10) refl
  where
    by_test : (t : Bool) → t ≡ eqb byte 10 → cond t ([] ∷ lines_of bytes) (onto_first byte (lines_of bytes)) ≡ onto_first byte (lines_of bytes)
    by_test true e = absurd (not (true-eqb byte 10 e))
    by_test false e = refl

pub lines_of-line : (line rest : List ℕ) → HasNo 10 line → lines_of (line ++ 10 ∷ rest) ≡ line ∷ lines_of rest
lines_of-line [] rest none = refl
lines_of-line (b ∷ line) rest none = lines_of-byte b (line ++ 10 ∷ rest) none.0 ∙ ap (onto_first b) (lines_of-line line rest none.1)

lines_of-last : (line : List ℕ) → HasNo 10 line → 0 < length line → lines_of line ≡ line ∷ []
lines_of-last [] none some = absurd (omega arith)
lines_of-last (b ∷ []) none some = lines_of-byte b [] none.0
lines_of-last (b ∷ c ∷ line) none some = lines_of-byte b (c ∷ line) none.0 ∙ ap (onto_first b) (lines_of-last (c ∷ line) none.1 (omega arith))

-- the lines are the first one and the others, and its bytes are gone
pub record GoesTo (text line rest : List ℕ) : Type 0 where
  pub lines : lines_of text ≡ line ∷ lines_of rest
  pub shorter : length rest < length text
  pub no_more : length text ≤ length rest + (length line + 1)
  pub ended : 0 < length rest → length text ≡ length rest + (length line + 1)

pub first-goes : (text line rest : List ℕ) → IsFirstLine text line rest → GoesTo text line rest
first-goes text line rest first = by_end first.is
  where
    by_end : (text ≡ line ++ 10 ∷ rest) ⊎ ((text ≡ line) × (rest ≡ []) × (0 < length line)) → GoesTo text line rest
    by_end (inl e) =
        let long : length text ≡ length rest + (length line + 1) = omega (arith, ap length e, length-append line (10 ∷ rest)) in
        record { lines = ap lines_of e ∙ lines_of-line line rest first.no_feed; shorter = omega arith; no_more = omega arith; ended = λ some. long }
    by_end (inr last) =
        let none = ap length last.1 in
        let long = ap length last.0 in
        record {
          lines = ap lines_of last.0 ∙ lines_of-last line first.no_feed last.2 ∙ ap (λ r. line ∷ lines_of r) (sym last.1);
          shorter = omega (arith, last.2);
          no_more = omega arith;
          ended = λ some. absurd (omega arith);
        }
