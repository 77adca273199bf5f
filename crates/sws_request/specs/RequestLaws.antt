-- Laws of requests: whether a head is one is decided, and the grammar's own dropping of
-- empty lines is the same.
use Rattle.std.specs.Prelude.{◌≡◌, ℕ, ◌<◌, ◌≤◌, ◌⊎◌, ◌==◌, Bool, true, false, nat_le, All, List, [], ◌∷◌, ◌++◌, length, map}
use Rattle.std.specs.List.{flat_map}
use Rattle.std.specs.Str.{is_utf8}
use Rattle.std.proofs.Common.{zero, suc, refl, sym, ap, ◌∙◌, subst, inl, inr, arith, append_assoc, append-nil, length-append, true-eqb, false-eqb, leb-true, leb-false}
use Rattle.std.proofs.lemmas.List.Elements.{All-nil, All-cons, All-head, All-tail}
use Rattle.std.proofs.lemmas.List.Concat.{flat_map-append}
use Rattle.std.proofs.lemmas.Str.{IsUtf8-from_is_utf8, is_utf8-from_IsUtf8}
use Rattle.httparse.specs.Grammar.{is_token_byte, is_uri_byte, is_value_byte, AllPass, LineEnd, crlf, lf, print_end, print_blank, print_version, Field, print_field, IsField, print_section, RequestHead, IsRequestHead, ReadsRequest}
use Rattle.httparse.specs.Pieces.{Piece, Begins, Then, Stops, is_newline, Newline, Blank, Word, Method, Target, Version, Text, FieldLine, Section, RequestStart}
use Rattle.httparse.proofs.PieceLemmas.{IsDeterministic, space_ends_token, colon_ends_token, newline_not_stopped, Newline_deterministic, Blank_deterministic, Method_deterministic, Target_deterministic, Version_deterministic, Name_deterministic, print_field-append, FieldLine_parts, Stops_token, Section_line, Section_skip, RequestStart_deterministic, Stops_value}
use Rattle.httparse.proofs.GrammarLemmas.{request_tree, request_head, print_request-append, request_pieces, request_from_pieces, request_unique}
use Rattle.sws_request.specs.Head.{join_lines, IsEmptyLine}
use Rattle.sws_request.specs.Request.{Request, BeginsEmpty, SaysRequest, IsRequest, IsNoRequest, said_by, field_limit}

-- a fact, or its denial
Either : Type 0 → Type 0
Either P = P ⊎ (P → ⊥)

-- each text begins with the piece, or none does
IsDecided : {A : Type 0} → Piece A → Type 0
unfolding Either
IsDecided {A} G = (text : List ℕ) → Either (Begins G text)

-- ---- two pieces in a row

-- of two pieces in a row
then_decided : {A B : Type 0} (G : Piece A) (H : Piece B) → IsDeterministic G → IsDecided G
    → IsDecided H → IsDecided (Then G H)
unfolding Either IsDecided
then_decided {A} {B} G H one first second = λ text. by_first text (first text)
  where
    by_second : (text middle : List ℕ) (a : A) → G a text middle → Begins H middle
        ⊎ (Begins H middle → ⊥)
        → Begins (Then G H) text ⊎ (Begins (Then G H) text → ⊥)
    by_second text middle a g (inl h) = inl ((a, h.0), h.1, (middle, g, h.2))
    by_second text middle a g (inr none) = inr (λ found.
        let same = one.unique found.0.0 a text found.2.0 middle found.2.1 g in
        none (found.0.1, found.1, subst (λ m. H found.0.1 m found.1) same.1 found.2.2))

    by_first : (text : List ℕ) → Begins G text ⊎ (Begins G text → ⊥) → Begins (Then G H) text
        ⊎ (Begins (Then G H) text → ⊥)
    by_first text (inl g) = by_second text g.1 g.0 g.2 (second g.1)
    by_first text (inr none) = inr (λ found. none (found.0.0, found.2.0, found.2.1))

-- ---- the end of a line

-- of the end of a line
newline_decided : IsDecided Newline
unfolding Either IsDecided
newline_decided = λ text. by_text text
  where
    crlf_only : (bytes : List ℕ) (b : ℕ) → (b ≡ 10 → ⊥) → (b ≡ 13 → ⊥)
        → Begins Newline (b ∷ bytes) → ⊥
    crlf_only bytes b no_feed no_return (crlf, rest, e) = no_return (cc)
    crlf_only bytes b no_feed no_return (lf, rest, e) = no_feed (cc)

    after_return : (bytes : List ℕ) → Begins Newline (13 ∷ bytes)
        ⊎ (Begins Newline (13 ∷ bytes) → ⊥)
    after_return [] = inr none
      where
        none : Begins Newline (13 ∷ []) → ⊥
        none (crlf, rest, e) = cc
        none (lf, rest, e) = cc
    after_return (c ∷ bytes) = by_test (c == 10) refl
      where
        other : (c ≡ 10 → ⊥) → Begins Newline (13 ∷ c ∷ bytes) → ⊥
        other no_feed (crlf, rest, e) = no_feed (cc)
        other no_feed (lf, rest, e) = cc

        by_test : (t : Bool) → t ≡ (c == 10) → Begins Newline (13 ∷ c ∷ bytes)
            ⊎ (Begins Newline (13 ∷ c ∷ bytes) → ⊥)
        by_test true e = inl (crlf, bytes, ap (λ x. 13 ∷ x ∷ bytes) (true-eqb c 10 e))
        by_test false e = inr (other (false-eqb c 10 e))

    by_text : (text : List ℕ) → Begins Newline text ⊎ (Begins Newline text → ⊥)
    by_text [] = inr none
      where
        none : Begins Newline [] → ⊥
        none (crlf, rest, e) = cc
        none (lf, rest, e) = cc
    by_text (b ∷ bytes) = by_feed (b == 10) refl
      where
        by_return : (b ≡ 10 → ⊥) → (t : Bool) → t ≡ (b == 13) → Begins Newline (b ∷ bytes)
            ⊎ (Begins Newline (b ∷ bytes) → ⊥)
        by_return no_feed true e = subst (λ x. Begins Newline (x ∷ bytes)
            ⊎ (Begins Newline (x ∷ bytes) → ⊥)) (sym (true-eqb b 13 e)) (after_return bytes)
        by_return no_feed false e = inr (crlf_only bytes b no_feed (false-eqb b 13 e))

        by_feed : (t : Bool) → t ≡ (b == 10) → Begins Newline (b ∷ bytes)
            ⊎ (Begins Newline (b ∷ bytes) → ⊥)
        by_feed true e = inl (lf, bytes, ap (λ x. x ∷ bytes) (true-eqb b 10 e))
        by_feed false e = by_return (false-eqb b 10 e) (b == 13) refl

-- ---- empty lines

-- of the empty lines at the front
blank_decided : IsDecided Blank
unfolding Either IsDecided newline_decided
blank_decided = λ text. by_length (length text) text (omega arith)
  where
    -- the text begins with no line end, or with one that the others follow
    one_more : (end : LineEnd) (text rest : List ℕ) → text ≡ print_end end ++ rest
        → Begins Blank rest → Begins Blank text
    one_more end text rest e (ends, last, (whole, stops)) = (
      end ∷ ends,
      last,
      (
        e ∙ ap (λ x. print_end end ++ x) whole ∙ sym
            (append_assoc (print_end end) (print_blank ends) last),
        stops,
      ),
    )

    one_less : (end : LineEnd) (text rest : List ℕ) → text ≡ print_end end ++ rest
        → Begins Blank text → Begins Blank rest
    one_less end text rest e ([], last, (whole, stops)) =
        absurd (newline_not_stopped end rest text (sym e)
        (subst (Stops is_newline) (sym whole) stops))
    one_less end text rest e (first ∷ ends, last, (whole, stops)) =
        let same = Newline_deterministic.unique end first text rest (print_blank ends ++ last) e
        (whole ∙ append_assoc (print_end first) (print_blank ends) last) in
        (ends, last, (same.1, stops))

    shorter : (end : LineEnd) (text rest : List ℕ) (n : ℕ) → text ≡ print_end end ++ rest
        → length text ≤ suc n → length rest ≤ n
    shorter crlf text rest n e le = let same = ap length e in omega arith
    shorter lf text rest n e le = let same = ap length e in omega arith

    by_stop : (text : List ℕ) → (Begins Newline text → ⊥) → Begins Blank text
        ⊎ (Begins Blank text → ⊥)
    by_stop [] none = inr nothing
      where
        nothing : Begins Blank [] → ⊥
        nothing ([], last, (whole, stops)) = subst (Stops is_newline) (sym whole) stops
        nothing (end ∷ ends, last, (whole, stops)) =
            none (
              end,
              print_blank ends ++ last,
              whole ∙ append_assoc (print_end end)
                  (print_blank ends) last,
            )
    by_stop (b ∷ text) none = by_test (is_newline b) refl
      where
        nothing : is_newline b ≡ true → Begins Blank (b ∷ text) → ⊥
        nothing is ([], last, (whole, stops)) =
            let fails : is_newline b ≡ false = subst (Stops is_newline) (sym whole) stops in cc
        nothing is (end ∷ ends, last, (whole, stops)) =
            none (
              end,
              print_blank ends ++ last,
              whole ∙ append_assoc (print_end end)
                  (print_blank ends) last,
            )

        by_test : (t : Bool) → t ≡ is_newline b → Begins Blank (b ∷ text)
            ⊎ (Begins Blank (b ∷ text) → ⊥)
        by_test true e = inr (nothing (sym e))
        by_test false e = inl ([], b ∷ text, (refl, sym e))

    by_length : (n : ℕ) (text : List ℕ) → length text ≤ n → Begins Blank text
        ⊎ (Begins Blank text → ⊥)
    by_length zero [] le = by_stop [] (λ found. nothing found)
      where
        nothing : Begins Newline [] → ⊥
        nothing (crlf, rest, e) = cc
        nothing (lf, rest, e) = cc
    by_length zero (b ∷ text) le = absurd (omega arith)
    by_length (suc n) text le = by_end (newline_decided text) (λ rest short. by_length n rest short)
      where
        by_end : Begins Newline text ⊎ (Begins Newline text → ⊥)
            → ((rest : List ℕ) → length rest ≤ n → Begins Blank rest ⊎ (Begins Blank rest → ⊥))
            → Begins Blank text ⊎ (Begins Blank text → ⊥)
        by_end (inr none) later = by_stop text none
        by_end (inl (end, rest, e)) later = elim (later rest (shorter end text rest n e le)) [
          | inl found ↦ inl (one_more end text rest e found)
          | inr none ↦ inr (λ found. none (one_less end text rest e found))
        ]

-- ---- a word and the byte that ends it

-- the word may be empty
WordOrNone : (ℕ → Bool) → ℕ → List ℕ → Type 0
WordOrNone test stop text = (word : List ℕ) × (rest : List ℕ) × AllPass test word
    × (text ≡ word ++ stop ∷ rest)

-- the bytes of a word up to where it stops, or that it does not stop
any_word : (test : ℕ → Bool) (stop : ℕ) → test stop ≡ false → (text : List ℕ)
    → Either (WordOrNone test stop text)
unfolding Either WordOrNone
any_word test stop fails [] = inr nothing
  where
    nothing : WordOrNone test stop [] → ⊥
    nothing ([], rest, all, e) = cc
    nothing (w ∷ word, rest, all, e) = cc
any_word test stop fails (b ∷ text) = by_test (any_word test stop fails text) (test b) refl
  where
    passes : ℕ → Type 0
    passes v = test v ≡ true

    go_on : test b ≡ true → WordOrNone test stop text ⊎ (WordOrNone test stop text → ⊥)
        → Either (WordOrNone test stop (b ∷ text))
    go_on pass (inl (word, rest, all, e)) =
        inl (b ∷ word, rest, All-cons passes b word pass all, ap (λ x. b ∷ x) e)
    go_on pass (inr none) = inr nothing
      where
        nothing : WordOrNone test stop (b ∷ text) → ⊥
        nothing ([], rest, all, e) = let same : b ≡ stop = cc in let no_pass : test b ≡ false =
            ap test same ∙ fails in cc
        nothing (w ∷ word, rest, all, e) = none (word, rest, All-tail passes w word all, cc)

    by_stop : test b ≡ false → (t : Bool) → t ≡ (b == stop)
        → Either (WordOrNone test stop (b ∷ text))
    by_stop fail true e = inl ([], text, All-nil passes, ap (λ x. x ∷ text) (true-eqb b stop e))
    by_stop fail false e = inr nothing
      where
        nothing : WordOrNone test stop (b ∷ text) → ⊥
        nothing ([], rest, all, f) = false-eqb b stop e (cc)
        nothing (w ∷ word, rest, all, f) =
            let pass : test w ≡ true = All-head passes w word all in let same : b ≡ w = cc in
            let again : test b ≡ true = ap test same ∙ pass in cc

    by_test : WordOrNone test stop text ⊎ (WordOrNone test stop text → ⊥) → (t : Bool) → t ≡ test b
        → Either (WordOrNone test stop (b ∷ text))
    by_test later true e = go_on (sym e) later
    by_test later false e = by_stop (sym e) (b == stop) refl

-- of a word that stops at a byte
word_decided : (test : ℕ → Bool) (stop : ℕ) → test stop ≡ false → IsDecided (Word test stop)
unfolding Either IsDecided WordOrNone
word_decided test stop fails = λ text. by_text text
  where
    passes : ℕ → Type 0
    passes v = test v ≡ true

    by_text : (text : List ℕ) → Begins (Word test stop) text ⊎ (Begins (Word test stop) text → ⊥)
    by_text [] = inr nothing
      where
        nothing : Begins (Word test stop) [] → ⊥
        nothing ([], rest, (some, all, e)) = cc
        nothing (w ∷ word, rest, (some, all, e)) = cc
    by_text (b ∷ text) = by_test (any_word test stop fails text) (test b) refl
      where
        by_test : WordOrNone test stop text ⊎ (WordOrNone test stop text → ⊥)
            → (t : Bool) → t ≡ test b
            → Begins (Word test stop) (b ∷ text) ⊎ (Begins (Word test stop) (b ∷ text) → ⊥)
        by_test (inl (word, rest, all, e)) true is =
            inl (
              b ∷ word,
              rest,
              (omega arith, All-cons passes b word (sym is) all, ap (λ x. b ∷ x) e),
            )
        by_test (inr none) true is = inr nothing
          where
            nothing : Begins (Word test stop) (b ∷ text) → ⊥
            nothing ([], rest, (some, all, e)) = absurd (omega arith)
            nothing (w ∷ word, rest, (some, all, e)) =
                none (word, rest, All-tail passes w word all, cc)
        by_test later false is = inr nothing
          where
            nothing : Begins (Word test stop) (b ∷ text) → ⊥
            nothing ([], rest, (some, all, e)) = absurd (omega arith)
            nothing (w ∷ word, rest, (some, all, e)) =
                let pass : test w ≡ true = All-head passes w word all in let same : b ≡ w = cc in
                let again : test b ≡ true = ap test same ∙ pass in cc

-- ---- the request line

-- of a target
target_decided : IsDecided Target
unfolding Either IsDecided
target_decided = λ text. by_word text (word_decided is_uri_byte 32 refl text)
  where
    by_test : (text word rest : List ℕ) → Word is_uri_byte 32 word text rest
        → (t : Bool) → t ≡ is_utf8 word
        → Begins Target text ⊎ (Begins Target text → ⊥)
    by_test text word rest found true e =
        inl (word, rest, (found, IsUtf8-from_is_utf8 word (sym e)))
    by_test text word rest found false e = inr (λ other.
        let same = Target_deterministic.unique in
        let one = by_words text word other.0 rest other.1 found other.2.0 in
        let text_is : is_utf8 word ≡ true =
        ap is_utf8 one ∙ is_utf8-from_IsUtf8 other.0 other.2.1 in cc)
      where
        by_words : (text a b r q : List ℕ) → Word is_uri_byte 32 a text r
            → Word is_uri_byte 32 b text q → a ≡ b
        by_words text a b r q x y =
            ((Rattle.httparse.proofs.PieceLemmas.Word_deterministic is_uri_byte 32 refl).unique a b
            text r q x y).0

    by_word : (text : List ℕ) → Begins (Word is_uri_byte 32) text
        ⊎ (Begins (Word is_uri_byte 32) text → ⊥)
        → Begins Target text ⊎ (Begins Target text → ⊥)
    by_word text (inl (word, rest, found)) = by_test text word rest found (is_utf8 word) refl
    by_word text (inr none) = inr (λ other. none (other.0, other.1, other.2.0))

-- these bytes at the front
front_or_not : (front text : List ℕ) → Either ((rest : List ℕ) × (text ≡ front ++ rest))
unfolding Either
front_or_not [] text = inl (text, refl)
front_or_not (f ∷ front) [] = inr (λ found. let e : [] ≡ f ∷ (front ++ found.0) = found.1 in cc)
front_or_not (f ∷ front) (b ∷ text) = by_test (front_or_not front text) (b == f) refl
  where
    by_test : Either ((rest : List ℕ) × (text ≡ front ++ rest)) → (t : Bool) → t ≡ (b == f)
        → Either ((rest : List ℕ) × (b ∷ text ≡ f ∷ (front ++ rest)))
    by_test (inl (rest, e)) true is = let same = true-eqb b f is in inl (rest, cc)
    by_test (inr none) true is = inr (λ found. none (found.0, let e = found.1 in cc))
    by_test later false is = inr (λ found. let e = found.1 in false-eqb b f is (cc))

-- of a version
version_decided : IsDecided Version
unfolding Either IsDecided
version_decided = λ text.
    by_zero text (front_or_not (print_version 0) text) (front_or_not (print_version 1) text)
  where
    neither : (text : List ℕ) → ((rest : List ℕ) × (text ≡ print_version 0 ++ rest) → ⊥)
        → ((rest : List ℕ) × (text ≡ print_version 1 ++ rest) → ⊥) → Begins Version text → ⊥
    neither text none0 none1 (zero, rest, (le, e)) = none0 (rest, e)
    neither text none0 none1 (suc zero, rest, (le, e)) = none1 (rest, e)
    neither text none0 none1 (suc (suc n), rest, (le, e)) = omega arith

    by_zero : (text : List ℕ) → Either ((rest : List ℕ) × (text ≡ print_version 0 ++ rest))
        → Either ((rest : List ℕ) × (text ≡ print_version 1 ++ rest)) → Begins Version text
        ⊎ (Begins Version text → ⊥)
    by_zero text (inl (rest, e)) other = inl (0, rest, (omega arith, e))
    by_zero text (inr none0) (inl (rest, e)) = inl (1, rest, (omega arith, e))
    by_zero text (inr none0) (inr none1) = inr (neither text none0 none1)

-- of what stands in front of the fields
request_line_decided : IsDecided RequestStart
request_line_decided =
    then_decided Blank (Then Method (Then Target (Then Version Newline)))
    Blank_deterministic blank_decided
    (then_decided Method (Then Target (Then Version Newline)) Method_deterministic
    (word_decided is_token_byte 32 space_ends_token)
    (then_decided Target (Then Version Newline) Target_deterministic target_decided
    (then_decided Version Newline Version_deterministic version_decided newline_decided)))

-- ---- a field line

-- a text begins with a value, or none does
text_or_not : (text : List ℕ) → Either (Begins Text text)
unfolding Either IsDecided
text_or_not [] = inr nothing
  where
    nothing : Begins Text [] → ⊥
    nothing (([], crlf), rest, (all, e)) = cc
    nothing (([], lf), rest, (all, e)) = cc
    nothing ((v ∷ value, end), rest, (all, e)) = cc
text_or_not (b ∷ text) = by_test (text_or_not text) (is_value_byte b) refl
  where
    passes : ℕ → Type 0
    passes v = is_value_byte v ≡ true

    by_end : is_value_byte b ≡ false → Begins Newline (b ∷ text) ⊎ (Begins Newline (b ∷ text) → ⊥)
        → Either (Begins Text (b ∷ text))
    by_end fails (inl (end, rest, e)) = inl (([], end), rest, (All-nil passes, e))
    by_end fails (inr none) = inr nothing
      where
        nothing : Begins Text (b ∷ text) → ⊥
        nothing (([], end), rest, (all, e)) = none (end, rest, e)
        nothing ((v ∷ value, end), rest, (all, e)) =
            let pass : is_value_byte v ≡ true = All-head passes v value all in
            let same : b ≡ v = cc in
            let again : is_value_byte b ≡ true = ap is_value_byte same ∙ pass in cc

    by_test : Either (Begins Text text) → (t : Bool) → t ≡ is_value_byte b
        → Either (Begins Text (b ∷ text))
    by_test (inl ((value, end), rest, (all, e))) true is =
        inl ((b ∷ value, end), rest, (All-cons passes b value (sym is) all, ap (λ x. b ∷ x) e))
    by_test (inr none) true is = inr nothing
      where
        nothing : Begins Text (b ∷ text) → ⊥
        nothing (([], end), rest, (all, e)) =
            let fails : is_value_byte b ≡ false =
            subst (Stops is_value_byte) (sym e) (Stops_value end rest) in cc
        nothing ((v ∷ value, end), rest, (all, e)) =
            none ((value, end), rest, (All-tail passes v value all, cc))
    by_test later false is = by_end (sym is) (newline_decided (b ∷ text))

-- of a value
text_decided : IsDecided Text
unfolding IsDecided
text_decided = text_or_not

-- of the line of a field
line_decided : IsDecided FieldLine
unfolding Either IsDecided
line_decided = λ text.
    by_parts text (then_decided (Word is_token_byte 58) Text Name_deterministic
    (word_decided is_token_byte 58 colon_ends_token) text_decided text)
  where
    by_parts : (text : List ℕ) → Begins (Then (Word is_token_byte 58) Text) text
        ⊎ (Begins (Then (Word is_token_byte 58) Text) text → ⊥)
        → Begins FieldLine text ⊎ (Begins FieldLine text → ⊥)
    by_parts text (inl ((name, (raw, end)), rest, (middle, word, value))) =
        let field : Field = record { name = name; raw = raw; end = end } in
        inl (
          field,
          rest,
          (
            record { name = (word.0, word.1); raw = value.0 },
            word.2 ∙ ap (λ x. name ++ 58 ∷ x) value.1 ∙ sym (print_field-append field rest),
          ),
        )
    by_parts text (inr none) =
        inr (λ found. none (
          (found.0.name, (found.0.raw, found.0.end)),
          found.1,
          FieldLine_parts
              found.0 text found.1 found.2,
        ))

-- ---- the fields, and a whole head

-- a field line isn't empty
after_line : (f : Field) (text middle : List ℕ) (n : ℕ) → FieldLine f text middle
    → length text ≤ n → length middle < n
after_line f text middle n x le =
    let same : length text ≡ length (f.name ++ 58 ∷ (f.raw ++ (print_end f.end ++ middle))) =
    ap length (x.1 ∙ print_field-append f middle) in
    omega (
      arith,
      length-append f.name (58 ∷ (f.raw ++ (print_end f.end ++ middle))),
      length-append f.raw (print_end f.end ++ middle),
      length-append (print_end f.end) middle,
    )

-- a text of less than so many bytes begins with fields and an empty line, or none does
section_or_not : (n : ℕ) (text : List ℕ) → length text < n → Either (Begins Section text)
unfolding Either IsDecided
section_or_not zero text le = absurd (omega arith)
section_or_not (suc n) text le =
    by_end (newline_decided text) (line_decided text) (λ middle short.
    section_or_not n middle short)
  where
    no_line : (Begins Newline text → ⊥) → (Begins FieldLine text → ⊥) → Begins Section text → ⊥
    no_line no_end no_field found =
        elim (Section_line found.0 text found.1 found.2)
        [ inl end ↦ no_end end | inr field ↦ no_field field ]

    one_more : (f : Field) (middle : List ℕ) → FieldLine f text middle
        → Begins Section middle → Begins Section text
    one_more f middle x ((fields, last), rest, (all, e)) = (
      (f ∷ fields, last),
      rest,
      (
        All-cons IsField f fields x.0 all,
        x.1 ∙ ap (λ m. print_field f ++ m) e
            ∙ sym (append_assoc (print_field f) (flat_map print_field fields
            ++ print_end last) rest)
            ∙ ap (λ m. m ++ rest)
            (sym (append_assoc (print_field f) (flat_map print_field fields) (print_end last))),
      ),
    )

    one_less : (f : Field) (middle : List ℕ) → FieldLine f text middle → (Begins Newline text → ⊥)
        → Begins Section text → Begins Section middle
    one_less f middle x no_end ((fields, last), rest, section) =
        let skipped = Section_skip (f ∷ []) fields last text middle rest (
          All-cons IsField f [] x.0 (All-nil IsField),
          x.1 ∙ ap (λ m.
              m ++ middle) (sym (append-nil (print_field f))),
        ) section in
        ((skipped.0, last), rest, skipped.2)

    by_end : Either (Begins Newline text) → Either (Begins FieldLine text)
        → ((middle : List ℕ) → length middle < n → Either (Begins Section middle))
        → Either (Begins Section text)
    by_end (inl (end, rest, e)) field later = inl (([], end), rest, (All-nil IsField, e))
    by_end (inr no_end) (inr no_field) later = inr (no_line no_end no_field)
    by_end (inr no_end) (inl (f, middle, x)) later =
        elim (later middle (after_line f text middle n x (omega arith))) [
          | inl found ↦ inl (one_more f middle x found)
          | inr none ↦ inr (λ found. none (one_less f middle x no_end found))
        ]

-- of the fields with the empty line behind them
section_decided : IsDecided Section
unfolding IsDecided
section_decided text = section_or_not (suc (length text)) text (omega arith)

-- ---- the empty lines at the front

-- the end of a line alone is an empty line
end_empty : (end : LineEnd) → IsEmptyLine (print_end end)
end_empty crlf = inr refl
end_empty lf = inl refl

-- the ends of lines alone are empty lines
ends_empty : (ends : List LineEnd) → All IsEmptyLine (map print_end ends)
ends_empty [] = All-nil IsEmptyLine
ends_empty (end ∷ ends) =
    All-cons IsEmptyLine (print_end end) (map print_end ends) (end_empty end) (ends_empty ends)

-- the empty lines of the grammar are those lines, joined
ends_joined : (ends : List LineEnd) → print_blank ends ≡ join_lines (map print_end ends)
ends_joined [] = refl
ends_joined (end ∷ ends) = ap (λ r. print_end end ++ r) (ends_joined ends)

-- empty lines are ends of lines
ends_of : (lines : List (List ℕ)) → All IsEmptyLine lines → (ends : List LineEnd)
    × (join_lines lines ≡ print_blank ends)
ends_of [] all = ([], refl)
ends_of (line ∷ lines) all = by_line (ends_of lines (All-tail IsEmptyLine line lines all))
    (All-head IsEmptyLine line lines all)
  where
    by_line : (ends : List LineEnd) × (join_lines lines ≡ print_blank ends) → IsEmptyLine line
        → (ends : List LineEnd) × (join_lines (line ∷ lines) ≡ print_blank ends)
    by_line (ends, e) (inl is) =
        (lf ∷ ends, ap (λ l. l ++ join_lines lines) is ∙ ap (λ r. 10 ∷ r) e)
    by_line (ends, e) (inr is) =
        (crlf ∷ ends, ap (λ l. l ++ join_lines lines) is ∙ ap (λ r. 13 ∷ 10 ∷ r) e)

-- the same head with these empty lines in front
abbrev with_blank : List LineEnd → RequestHead → RequestHead
with_blank ends head = record head { blank = ends }

-- and the head without them
abbrev start_of : RequestHead → List ℕ
start_of h = h.method
    ++ (32 ∷ (h.target ++ (32
    ∷ (print_version h.minor ++ (print_end h.line_end ++ (print_section h.fields h.last ++ []))))))

-- a head with other empty lines in front is a head
valid_with : (ends : List LineEnd) (h : RequestHead) → IsRequestHead h
    → IsRequestHead (with_blank ends h)
valid_with ends h p = record {
  method = p.method;
  target = p.target;
  target_text = p.target_text;
  minor = p.minor;
  fields = p.fields;
}

-- what is read behind the empty lines is what the grammar reads from the front
pub SaysRequest-from : (bytes : List ℕ) (request : Request) → IsRequest bytes request
    → SaysRequest bytes request
SaysRequest-from bytes request is =
    let h = is.says.head in
    let ends = ends_of is.left.blank is.left.blank_lines in
    record {
      head = with_blank (ends.0 ++ h.blank) h;
      reads = (
        valid_with (ends.0 ++ h.blank) h is.says.reads.0,
        is.left.is ∙ ap (λ b. b ++ is.rest) ends.1
            ∙ ap (λ r. print_blank ends.0 ++ r) (is.says.reads.1 ∙ print_request-append h [])
            ∙ sym (append_assoc (print_blank ends.0) (print_blank h.blank) (start_of h))
            ∙ ap (λ b. b ++ start_of h) (sym (flat_map-append print_end ends.0 h.blank))
            ∙ sym (print_request-append (with_blank (ends.0 ++ h.blank) h) []),
      );
      few = is.says.few;
      says = is.says.says;
    }

-- an empty line begins with CR or LF
begins_newline : (rest : List ℕ) → BeginsEmpty rest → Stops is_newline rest → ⊥
begins_newline rest begins stops = by_line begins.empty
  where
    by_line : IsEmptyLine begins.line → ⊥
    by_line (inl e) = let fails : Stops is_newline (10 ∷ begins.rest) =
        subst (Stops is_newline) (begins.is ∙ ap (λ l. l ++ begins.rest) e) stops in cc
    by_line (inr e) = let fails : Stops is_newline (13 ∷ 10 ∷ begins.rest) =
        subst (Stops is_newline) (begins.is ∙ ap (λ l. l ++ begins.rest) e) stops in cc

-- and the other way round
pub IsRequest-from : (bytes : List ℕ) (request : Request) → SaysRequest bytes request
    → IsRequest bytes request
IsRequest-from bytes request is =
    let h = is.head in
    record {
      rest = start_of h;
      left = record {
        blank = map print_end h.blank;
        blank_lines = ends_empty h.blank;
        is = is.reads.1 ∙ print_request-append h [] ∙ ap (λ b.
            b ++ start_of h) (ends_joined h.blank);
        all_blank = λ begins.
            begins_newline (start_of h) begins
            (Stops_token h.method _ is.reads.0.method.0 is.reads.0.method.1);
      };
      says = record {
        head = with_blank [] h;
        reads = (valid_with [] h is.reads.0, sym (print_request-append (with_blank [] h) []));
        few = is.few;
        says = is.says;
      };
    }

-- ---- the request that a head says

-- what the grammar reads, or that it reads nothing
find_said : (bytes : List ℕ) → ((request : Request) × SaysRequest bytes request)
    ⊎ ((request : Request) → SaysRequest bytes request → ⊥)
unfolding Either IsDecided
find_said bytes = by_head (then_decided RequestStart Section RequestStart_deterministic
    request_line_decided section_decided bytes)
  where
    by_head : Begins (Then RequestStart Section) bytes
        ⊎ (Begins (Then RequestStart Section) bytes → ⊥)
        → ((request : Request) × SaysRequest bytes request)
        ⊎ ((request : Request) → SaysRequest bytes request → ⊥)
    by_head (inr none) =
        inr (λ request is. none
        (request_tree is.head, [], request_pieces bytes is.head [] is.reads))
    by_head (inl (tree, rest, pieces)) = by_rest rest (request_from_pieces bytes tree rest pieces)
        (nat_le (length (request_head tree).fields) field_limit) refl
      where
        by_rest : (rest : List ℕ) → ReadsRequest bytes (request_head tree) rest → (t : Bool)
            → t ≡ nat_le (length (request_head tree).fields) field_limit
            → ((request : Request) × SaysRequest bytes request)
            ⊎ ((request : Request) → SaysRequest bytes request → ⊥)
        by_rest (b ∷ rest) reads t e = inr (λ request is.
            let same = (request_unique bytes (request_head tree) is.head (b ∷ rest) []
            reads is.reads).1 in cc)
        by_rest [] reads true e = inl (
          said_by (request_head tree),
          record {
            head = request_head tree;
            reads = reads;
            few = leb-true (length (request_head tree).fields) field_limit (sym e);
            says = refl;
          },
        )
        by_rest [] reads false e = inr (λ request is.
            let same = (request_unique bytes (request_head tree) is.head [] [] reads is.reads).0 in
            let over = leb-false (length (request_head tree).fields) field_limit (sym e) in
            let few = is.few in let long : length (request_head tree).fields
            ≡ length is.head.fields = ap (λ h. length h.fields) same in
            omega arith)

-- the request that a head says, or that it says none
pub find_request : (head : List ℕ) → ((request : Request) × IsRequest head request)
    ⊎ IsNoRequest head
find_request head = by_said (find_said head)
  where
    by_said : ((request : Request) × SaysRequest head request)
        ⊎ ((request : Request) → SaysRequest head request → ⊥)
        → ((request : Request) × IsRequest head request) ⊎ IsNoRequest head
    by_said (inl (request, is)) = inl (request, IsRequest-from head request is)
    by_said (inr none) = inr (λ request is. none request (SaysRequest-from head request is))
