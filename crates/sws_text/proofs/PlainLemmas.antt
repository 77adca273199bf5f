-- Bytes that stand for themselves are their own text.
use Rattle.std.proofs.Common.{◌≡◌, ℕ, ◌+◌, ◌<◌, ◌≤◌, ◌-◌, Bool, true, false, cond, eqb, ◌&&◌, List, [], ◌∷◌, ◌++◌, length, take, drop, None, refl, sym, ap, ◌∙◌, arith, append_assoc, append-nil, length-drop, true-eqb}
use Rattle.std.proofs.lemmas.List.{take-append-drop, take_all}
use Rattle.std.specs.List.{AllByRecursion}
use Rattle.sws_text.specs.declared.sign.Sign.{Sign}
use Rattle.sws_text.specs.declared.sign.Sign.TheVariants.{Plain, LineEnd}
use Rattle.sws_text.specs.Signs.{IsPlain, spelling_of}
use Rattle.sws_text.specs.Texts.{sign_of, sign_before, text_of}
use Rattle.sws_text.specs.Shown.{remaining_lines, margin}
use Rattle.sws_text.proofs.SignLemmas.{found_at, found_none}
use Rattle.sws_text.proofs.LengthLemmas.{sign_of-plain}
use Rattle.sws_text.proofs.ShownLemmas.{text_of-signs, sign_before-step, remaining_lines-sign, remaining_lines-margin}

sign_before-plain : (byte : ℕ) (bytes : List ℕ) → IsPlain byte → sign_before (byte ∷ bytes) ≡ found_at (Plain byte) bytes
sign_before-plain byte [] is = ap (λ s. found_at s []) (sign_of-plain byte is)
sign_before-plain byte (next ∷ bytes) is = by_test (eqb byte 13) refl ∙ ap (λ s. found_at s (next ∷ bytes)) (sign_of-plain byte is)
  where
    by_test : (t : Bool) → t ≡ eqb byte 13 → cond (t && eqb next 10) (found_at LineEnd bytes) (found_at (sign_of byte) (next ∷ bytes)) ≡ found_at (sign_of byte) (next ∷ bytes)
    by_test true e = absurd (let same = true-eqb byte 13 e in let low = is.0 in omega arith)
    by_test false e = refl

-- the text of what stands for itself is itself
text_of-plain : (plain rest : List ℕ) → AllByRecursion IsPlain plain → text_of (plain ++ rest) ≡ plain ++ text_of rest
text_of-plain [] rest all = refl
text_of-plain (byte ∷ plain) rest all =
    text_of-signs (byte ∷ (plain ++ rest)) (Plain byte) (plain ++ rest) (sign_before-step (byte ∷ (plain ++ rest)) (Plain byte) (plain ++ rest) (sign_before-plain byte (plain ++ rest) all.0)).signs
    ∙ ap (λ t. byte ∷ t) (text_of-plain plain rest all.1)

-- in a line that has begun it is shown as it is
remaining_lines-plain : (plain rest : List ℕ) → AllByRecursion IsPlain plain → remaining_lines true (plain ++ rest) ≡ plain ++ remaining_lines true rest
remaining_lines-plain [] rest all = refl
remaining_lines-plain (byte ∷ plain) rest all =
    remaining_lines-sign true (byte ∷ (plain ++ rest)) (Plain byte) (plain ++ rest) (sign_before-plain byte (plain ++ rest) all.0)
    ∙ ap (λ t. byte ∷ t) (remaining_lines-plain plain rest all.1)

-- a front that stands for itself, in a line that it begins or goes on
pub remaining_lines-front : (in_line : Bool) (bytes : List ℕ) (count : ℕ) → count ≤ length bytes → 0 < count → AllByRecursion IsPlain (take count bytes)
    → remaining_lines in_line bytes ≡ (margin in_line ++ take count bytes) ++ remaining_lines true (drop count bytes)
remaining_lines-front in_line bytes count there some all =
    remaining_lines-margin in_line bytes (omega arith)
    ∙ ap (λ b. margin in_line ++ remaining_lines true b) (sym (take-append-drop count bytes))
    ∙ ap (λ t. margin in_line ++ t) (remaining_lines-plain (take count bytes) (drop count bytes) all)
    ∙ sym (append_assoc (margin in_line) (take count bytes) (remaining_lines true (drop count bytes)))

-- the text of bytes behind such a front
text_of-front : (bytes : List ℕ) (count : ℕ) → AllByRecursion IsPlain (take count bytes) → text_of bytes ≡ take count bytes ++ text_of (drop count bytes)
text_of-front bytes count all = ap text_of (sym (take-append-drop count bytes)) ∙ text_of-plain (take count bytes) (drop count bytes) all

-- the bytes behind so many
pub behind : (bytes : List ℕ) (count : ℕ) → take (length bytes - count) (drop count bytes) ≡ drop count bytes
behind bytes count = take_all (length bytes - count) (drop count bytes) (omega (arith, length-drop count bytes))

-- a front that stands for itself was written
pub front_written : (rest : List ℕ) (count : ℕ) (text new whole : List ℕ) → AllByRecursion IsPlain (take count rest) → new ≡ text ++ take count rest → text ++ text_of rest ≡ whole
    → new ++ text_of (take (length rest - count) (drop count rest)) ≡ whole
front_written rest count text new whole all pushed before =
    ap (λ b. new ++ text_of b) (behind rest count)
    ∙ ap (λ t. t ++ text_of (drop count rest)) pushed
    ∙ append_assoc text (take count rest) (text_of (drop count rest))
    ∙ ap (λ t. text ++ t) (sym (text_of-front rest count all))
    ∙ before

-- a sign was written behind what was written before it
pub sign_written : (bytes : List ℕ) (sign : Sign) (after text new whole : List ℕ) → sign_before bytes ≡ found_at sign after → new ≡ text ++ spelling_of sign → text ++ text_of bytes ≡ whole
    → new ++ text_of after ≡ whole
sign_written bytes sign after text new whole found pushed before =
    ap (λ t. t ++ text_of after) pushed
    ∙ append_assoc text (spelling_of sign) (text_of after)
    ∙ ap (λ t. text ++ t) (sym (text_of-signs bytes sign after (sign_before-step bytes sign after found).signs))
    ∙ before

-- where no sign is left, all was written
pub none_written : (bytes text whole : List ℕ) → sign_before bytes ≡ None → text ++ text_of bytes ≡ whole → text ≡ whole
unfolding text_of
none_written [] text whole none before = sym (append-nil text) ∙ before
none_written (a ∷ []) text whole none before = found_none (sign_of a) [] (sym none)
none_written (a ∷ b ∷ bytes) text whole none before = by_test (eqb a 13 && eqb b 10) none
  where
    by_test : (t : Bool) → cond t (found_at LineEnd bytes) (found_at (sign_of a) (b ∷ bytes)) ≡ None → text ≡ whole
    by_test true e = found_none LineEnd bytes (sym e)
    by_test false e = found_none (sign_of a) (b ∷ bytes) (sym e)
