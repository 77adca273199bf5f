-- The signs of bytes and the lines that show them, one sign at a time.
use Rattle.std.proofs.Common.{◌≡◌, ℕ, ◌<◌, Bool, true, false, cond, eqb, leb, ◌&&◌, List, [], ◌∷◌, ◌++◌, length, refl, sym, ap, ◌∙◌, subst, arith, append_assoc, append-nil, true-eqb}
use Rattle.std.proofs.lemmas.Bool.{false≢true}
use Rattle.std.specs.Prelude.{not, codes}
use Rattle.std.specs.List.{flat_map, onto_first}
use Rattle.sws_text.specs.declared.sign.Sign.{Sign}
use Rattle.sws_text.specs.declared.sign.Sign.TheVariants.{Plain, LineEnd, Feed, Return, Tab, Backslash, Tilde, Hex}
use Rattle.sws_text.specs.Signs.{spelling_of}
use Rattle.sws_text.specs.Texts.{sign_of, signs_of, sign_before, text_of}
use Rattle.sws_text.specs.Shown.{pieces_of, shown_line, rest_of_line, remaining_lines, ends_line, margin, shown_sign}
use Rattle.sws_text.proofs.SignLemmas.{found_at, found_same, found_none}

-- ---- pieces

pieces_of-test : (byte : ℕ) (bytes : List ℕ) (t : Bool) → t ≡ eqb byte 10
    → pieces_of (byte ∷ bytes) ≡ cond t ((byte ∷ []) ∷ pieces_of bytes) (onto_first byte (pieces_of bytes))
pieces_of-test byte bytes t e = ap (λ u. cond u ((byte ∷ []) ∷ pieces_of bytes) (onto_first byte (pieces_of bytes))) (sym e)

-- the first piece begins with the first byte
record Begins (byte : ℕ) (bytes : List ℕ) : Type 0 where
  piece : List ℕ
  pieces : List (List ℕ)
  is : pieces_of (byte ∷ bytes) ≡ (byte ∷ piece) ∷ pieces

begins : (byte : ℕ) (bytes : List ℕ) → Begins byte bytes
begins byte bytes = by_test (eqb byte 10) refl
  where
    by_pieces : false ≡ eqb byte 10 → (ps : List (List ℕ)) → ps ≡ pieces_of bytes → Begins byte bytes
    by_pieces e [] is = record { piece = []; pieces = []; is = pieces_of-test byte bytes false e ∙ ap (onto_first byte) (sym is) }
    by_pieces e (p ∷ ps) is = record { piece = p; pieces = ps; is = pieces_of-test byte bytes false e ∙ ap (onto_first byte) (sym is) }

    by_test : (t : Bool) → t ≡ eqb byte 10 → Begins byte bytes
    by_test true e = record { piece = []; pieces = pieces_of bytes; is = pieces_of-test byte bytes true e }
    by_test false e = by_pieces e (pieces_of bytes) refl

-- ---- one sign

-- the sign is the first one, whether its line has begun or not
pub record IsStep (bytes : List ℕ) (sign : Sign) (rest : List ℕ) : Type 0 where
  pub signs : signs_of bytes ≡ sign ∷ signs_of rest
  pub shorter : length rest < length bytes
  pub open_line : remaining_lines true bytes ≡ shown_sign true sign ++ remaining_lines (not (ends_line sign)) rest

-- only LF ends a line by a sign of its own
ends_line-sign_of : (byte : ℕ) → false ≡ eqb byte 10 → ends_line (sign_of byte) ≡ false
ends_line-sign_of byte e = by_tests (eqb byte 10) (eqb byte 13) (eqb byte 9) (eqb byte 92) (eqb byte 126) (leb 32 byte && leb byte 126) e
  where
    by_tests : (feed return tab backslash tilde plain : Bool) → false ≡ feed
        → ends_line (cond feed Feed (cond return Return (cond tab Tab (cond backslash Backslash (cond tilde Tilde (cond plain (Plain byte) (Hex byte))))))) ≡ false
    by_tests true r t b d p e = absurd (false≢true e)
    by_tests false true t b d p e = refl
    by_tests false false true b d p e = refl
    by_tests false false false true d p e = refl
    by_tests false false false false true p e = refl
    by_tests false false false false false true e = refl
    by_tests false false false false false false e = refl

-- a sign that ends no line
goes_on : (sign : Sign) (rest : List ℕ) → ends_line sign ≡ false
    → shown_sign true sign ++ remaining_lines (not (ends_line sign)) rest ≡ spelling_of sign ++ rest_of_line (pieces_of rest)
goes_on sign rest e =
    ap (λ t. (spelling_of sign ++ cond t (10 ∷ []) []) ++ remaining_lines (not t) rest) e
    ∙ ap (λ s. s ++ rest_of_line (pieces_of rest)) (append-nil (spelling_of sign))

text_of-one : (byte : ℕ) → text_of (byte ∷ []) ≡ spelling_of (sign_of byte)
unfolding text_of
text_of-one byte = append-nil (spelling_of (sign_of byte))

pub text_of-signs : (bytes : List ℕ) (sign : Sign) (rest : List ℕ) → signs_of bytes ≡ sign ∷ signs_of rest → text_of bytes ≡ spelling_of sign ++ text_of rest
unfolding text_of
text_of-signs bytes sign rest e = ap (flat_map spelling_of) e

-- an LF is a line's end, whatever follows
open_feed : (byte : ℕ) (rest : List ℕ) → true ≡ eqb byte 10 → remaining_lines true (byte ∷ rest) ≡ shown_sign true (sign_of byte) ++ remaining_lines (not (ends_line (sign_of byte))) rest
unfolding text_of
open_feed byte rest e =
    subst (λ b. remaining_lines true (b ∷ rest) ≡ shown_sign true (sign_of b) ++ remaining_lines (not (ends_line (sign_of b))) rest) (sym (true-eqb byte 10 e)) refl

-- the last byte
step_last : (byte : ℕ) → IsStep (byte ∷ []) (sign_of byte) []
step_last byte = record { signs = refl; shorter = omega arith; open_line = by_test (eqb byte 10) refl }
  where
    by_test : (t : Bool) → t ≡ eqb byte 10 → remaining_lines true (byte ∷ []) ≡ shown_sign true (sign_of byte) ++ remaining_lines (not (ends_line (sign_of byte))) []
    by_test true e = open_feed byte [] e
    by_test false e =
        ap rest_of_line (pieces_of-test byte [] false e) ∙ ap (λ t. t ++ 10 ∷ []) (text_of-one byte)
        ∙ sym (goes_on (sign_of byte) [] (ends_line-sign_of byte e))

-- one of more bytes, which isn't CR before LF
signs_of-alone : (a b : ℕ) (bytes : List ℕ) → false ≡ (eqb a 13 && eqb b 10) → signs_of (a ∷ b ∷ bytes) ≡ sign_of a ∷ signs_of (b ∷ bytes)
signs_of-alone a b bytes e = ap (λ t. cond t (LineEnd ∷ signs_of bytes) (sign_of a ∷ signs_of (b ∷ bytes))) (sym e)

step_alone : (a b : ℕ) (bytes : List ℕ) → false ≡ (eqb a 13 && eqb b 10) → IsStep (a ∷ b ∷ bytes) (sign_of a) (b ∷ bytes)
step_alone a b bytes alone = record { signs = signs_of-alone a b bytes alone; shorter = omega arith; open_line = by_test (eqb a 10) refl }
  where
    by_test : (t : Bool) → t ≡ eqb a 10
        → remaining_lines true (a ∷ b ∷ bytes) ≡ shown_sign true (sign_of a) ++ remaining_lines (not (ends_line (sign_of a))) (b ∷ bytes)
    by_test true e = open_feed a (b ∷ bytes) e
    by_test false e =
        let front = begins b bytes in
        let pieces : pieces_of (a ∷ b ∷ bytes) ≡ (a ∷ b ∷ front.piece) ∷ front.pieces = pieces_of-test a (b ∷ bytes) false e ∙ ap (onto_first a) front.is in
        let text : text_of (a ∷ b ∷ front.piece) ≡ spelling_of (sign_of a) ++ text_of (b ∷ front.piece) =
        text_of-signs (a ∷ b ∷ front.piece) (sign_of a) (b ∷ front.piece) (signs_of-alone a b front.piece alone) in
        let behind : List ℕ = 10 ∷ flat_map shown_line front.pieces in
        ap rest_of_line pieces ∙ ap (λ t. t ++ behind) text
        ∙ append_assoc (spelling_of (sign_of a)) (text_of (b ∷ front.piece)) behind
        ∙ ap (λ ps. spelling_of (sign_of a) ++ rest_of_line ps) (sym front.is)
        ∙ sym (goes_on (sign_of a) (b ∷ bytes) (ends_line-sign_of a e))

-- CR LF
step_line_end : (bytes : List ℕ) → IsStep (13 ∷ 10 ∷ bytes) LineEnd bytes
unfolding text_of
step_line_end bytes = record { signs = refl; shorter = omega arith; open_line = refl }

moved : (bytes : List ℕ) (one sign : Sign) (behind rest : List ℕ) → IsStep bytes one behind → found_at one behind ≡ found_at sign rest → IsStep bytes sign rest
moved bytes one sign behind rest step e =
    let same = found_same one sign behind rest e in
    subst (λ r. IsStep bytes sign r) same.1 (subst (λ s. IsStep bytes s behind) same.0 step)

-- the first sign of bytes is one step
pub sign_before-step : (bytes : List ℕ) (sign : Sign) (rest : List ℕ) → sign_before bytes ≡ found_at sign rest → IsStep bytes sign rest
sign_before-step [] sign rest e = found_none sign rest e
sign_before-step (a ∷ []) sign rest e = moved (a ∷ []) (sign_of a) sign [] rest (step_last a) e
sign_before-step (a ∷ b ∷ bytes) sign rest e = by_tests (eqb a 13) (eqb b 10) refl refl e
  where
    alone : (s t : Bool) → s ≡ eqb a 13 → t ≡ eqb b 10 → (s && t) ≡ false → false ≡ (eqb a 13 && eqb b 10)
    alone s t is_a is_b off = sym off ∙ ap (λ u. u && t) is_a ∙ ap (λ u. eqb a 13 && u) is_b

    by_tests : (s t : Bool) → s ≡ eqb a 13 → t ≡ eqb b 10 → cond (s && t) (found_at LineEnd bytes) (found_at (sign_of a) (b ∷ bytes)) ≡ found_at sign rest → IsStep (a ∷ b ∷ bytes) sign rest
    by_tests true true is_a is_b e =
        moved (a ∷ b ∷ bytes) LineEnd sign bytes rest
        (subst (λ n. IsStep (a ∷ n ∷ bytes) LineEnd bytes) (sym (true-eqb b 10 is_b)) (subst (λ n. IsStep (n ∷ 10 ∷ bytes) LineEnd bytes) (sym (true-eqb a 13 is_a)) (step_line_end bytes)))
        e
    by_tests true false is_a is_b e = moved (a ∷ b ∷ bytes) (sign_of a) sign (b ∷ bytes) rest (step_alone a b bytes (alone true false is_a is_b refl)) e
    by_tests false t is_a is_b e = moved (a ∷ b ∷ bytes) (sign_of a) sign (b ∷ bytes) rest (step_alone a b bytes (alone false t is_a is_b refl)) e

-- ---- the lines that remain

-- bytes of which no line has begun
remaining_lines-begin : (bytes : List ℕ) → 0 < length bytes → remaining_lines false bytes ≡ codes "| " ++ remaining_lines true bytes
remaining_lines-begin [] some = absurd (omega arith)
remaining_lines-begin (byte ∷ bytes) some =
    let front = begins byte bytes in
    let behind : List ℕ = flat_map shown_line front.pieces in
    ap (flat_map shown_line) front.is
    ∙ ap (λ t. 124 ∷ 32 ∷ t) (append_assoc (text_of (byte ∷ front.piece)) (10 ∷ []) behind)
    ∙ ap (λ ps. 124 ∷ 32 ∷ rest_of_line ps) (sym front.is)

-- the beginning of the line, where it has not begun
pub remaining_lines-margin : (in_line : Bool) (bytes : List ℕ) → 0 < length bytes → remaining_lines in_line bytes ≡ margin in_line ++ remaining_lines true bytes
remaining_lines-margin true bytes some = refl
remaining_lines-margin false bytes some = remaining_lines-begin bytes some

-- the first sign, and what is shown behind it
pub remaining_lines-sign : (in_line : Bool) (bytes : List ℕ) (sign : Sign) (rest : List ℕ) → sign_before bytes ≡ found_at sign rest
    → remaining_lines in_line bytes ≡ shown_sign in_line sign ++ remaining_lines (not (ends_line sign)) rest
remaining_lines-sign true bytes sign rest e = (sign_before-step bytes sign rest e).open_line
remaining_lines-sign false bytes sign rest e =
    let step = sign_before-step bytes sign rest e in
    let some : 0 < length bytes = let shorter = step.shorter in omega arith in
    remaining_lines-begin bytes some ∙ ap (λ t. 124 ∷ 32 ∷ t) step.open_line
