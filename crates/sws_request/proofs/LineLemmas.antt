-- The lines of some bytes, and the head that they make up.
use Rattle.std.specs.Prelude.{◌≡◌, ℕ, ◌+◌, ◌<◌, ◌==◌, Bool, true, false, ◌||◌, ◌&&◌, not, if◌then◌else◌, List, [], ◌∷◌, ◌++◌, length, All, Option, Some, None, option_map}
use Rattle.std.proofs.Common.{zero, suc, refl, sym, ap, ◌∙◌, subst, inl, inr, arith, append_assoc, append-nil, length-append, ne_eqb, true-eqb, false-eqb}
use Rattle.std.proofs.lemmas.List.Elements.{All-nil, All-cons, All-head, All-tail}
use Rattle.sws_request.specs.Head.{join_lines, line_feed, IsLine, IsEmptyLine}
use Rattle.sws_request.specs.Cuts.{before_first, lines_of, is_empty_line, up_to_empty, head_lines}
use Rattle.sws_request.specs.Scans.{whole_lines, has_other, EndsWithLine, rest_len}
use Rattle.sws_request.proofs.HeadLemmas.{IsNotFeed, Beginning, no_line, a_line, beginning_of, EndsAt, NeverEnds, NeverEnds-no_feed, EndsAt-last, EndsAt-line, NeverEnds-line, Leads, Leads-blank, Leads-other}

-- ---- empty lines

pub is_empty-true : (line : List ℕ) → is_empty_line line ≡ true → IsEmptyLine line
is_empty-true [] e = cc
is_empty-true (a ∷ []) e = inl (ap (λ x. x ∷ []) (true-eqb a 10 (sym e)))
is_empty-true (a ∷ b ∷ []) e = by_tests (a == 13) refl (b == 10) refl e
  where
    by_tests : (s : Bool) → s ≡ (a == 13) → (t : Bool) → t ≡ (b == 10) → (s && t) ≡ true → IsEmptyLine (a ∷ b ∷ [])
    by_tests true d true f e = inr (ap (λ x. x ∷ b ∷ []) (true-eqb a 13 d) ∙ ap (λ x. 13 ∷ x ∷ []) (true-eqb b 10 f))
    by_tests true d false f e = cc
    by_tests false d t f e = cc
is_empty-true (a ∷ b ∷ c ∷ line) e = cc

pub is_empty-line : (line : List ℕ) → IsEmptyLine line → is_empty_line line ≡ true
is_empty-line line (inl e) = ap is_empty_line e
is_empty-line line (inr e) = ap is_empty_line e

is_empty-false : (line : List ℕ) → is_empty_line line ≡ false → IsEmptyLine line → ⊥
is_empty-false line e empty = let t : false ≡ true = sym e ∙ is_empty-line line empty in cc

-- ---- lines

pub lines_of-none : (bytes : List ℕ) → All IsNotFeed bytes → lines_of bytes ≡ []
unfolding lines_of
lines_of-none [] all = refl
lines_of-none (b ∷ bytes) all =
    ap (λ t. if t then (b ∷ []) ∷ lines_of bytes else before_first b (lines_of bytes)) (ne_eqb b 10 (All-head IsNotFeed b bytes all))
    ∙ ap (before_first b) (lines_of-none bytes (All-tail IsNotFeed b bytes all))

lines_of-text : (text rest : List ℕ) → All IsNotFeed text → lines_of (text ++ line_feed ∷ rest) ≡ (text ++ line_feed ∷ []) ∷ lines_of rest
unfolding lines_of
lines_of-text [] rest all = refl
lines_of-text (b ∷ text) rest all =
    ap (λ t. if t then (b ∷ []) ∷ lines_of (text ++ 10 ∷ rest) else before_first b (lines_of (text ++ 10 ∷ rest))) (ne_eqb b 10 (All-head IsNotFeed b text all))
    ∙ ap (before_first b) (lines_of-text text rest (All-tail IsNotFeed b text all))

-- a line in front is the first
pub lines_of-line : (line rest : List ℕ) → IsLine line → lines_of (line ++ rest) ≡ line ∷ lines_of rest
lines_of-line line rest is =
    ap lines_of (ap (λ l. l ++ rest) is.is ∙ append_assoc is.text (10 ∷ []) rest) ∙ lines_of-text is.text rest is.no_feed ∙ ap (λ l. l ∷ lines_of rest) (sym is.is)

-- and so are several
lines_of-joined : (lines : List (List ℕ)) (rest : List ℕ) → All IsLine lines → lines_of (join_lines lines ++ rest) ≡ lines ++ lines_of rest
lines_of-joined [] rest all = refl
lines_of-joined (line ∷ lines) rest all =
    ap lines_of (append_assoc line (join_lines lines) rest)
    ∙ lines_of-line line (join_lines lines ++ rest) (All-head IsLine line lines all)
    ∙ ap (λ l. line ∷ l) (lines_of-joined lines rest (All-tail IsLine line lines all))

-- what the lines of some bytes are
lines_of-are : (bytes : List ℕ) → All IsLine (lines_of bytes)
unfolding lines_of
lines_of-are [] = All-nil IsLine
lines_of-are (b ∷ bytes) = by_test (b == 10) refl (lines_of bytes) (lines_of-are bytes)
  where
    by_test : (t : Bool) → t ≡ (b == 10) → (lines : List (List ℕ)) → All IsLine lines → All IsLine (if t then (b ∷ []) ∷ lines else before_first b lines)
    by_test true e lines all = All-cons IsLine (b ∷ []) lines
        (record { text = []; no_feed = All-nil IsNotFeed; is = ap (λ x. x ∷ []) (true-eqb b 10 e) }) all
    by_test false e [] all = All-nil IsLine
    by_test false e (line ∷ lines) all =
        let is = All-head IsLine line lines all in
        All-cons IsLine (b ∷ line) lines
        (record { text = b ∷ is.text; no_feed = All-cons IsNotFeed b is.text (false-eqb b 10 e) is.no_feed; is = ap (λ x. b ∷ x) is.is })
        (All-tail IsLine line lines all)

-- ---- whole lines

-- they stand at the front
pub whole_lines-front : (bytes : List ℕ) → (rest : List ℕ) × (bytes ≡ whole_lines bytes ++ rest)
unfolding lines_of
whole_lines-front [] = ([], refl)
whole_lines-front (b ∷ bytes) = by_test (b == 10) (lines_of bytes) (whole_lines-front bytes)
  where
    by_test : (t : Bool) (lines : List (List ℕ)) → (rest : List ℕ) × (bytes ≡ join_lines lines ++ rest)
        → (rest : List ℕ) × (b ∷ bytes ≡ join_lines (if t then (b ∷ []) ∷ lines else before_first b lines) ++ rest)
    by_test true lines (rest, is) = (rest, ap (λ l. b ∷ l) is)
    by_test false [] (rest, is) = (b ∷ bytes, refl)
    by_test false (line ∷ lines) (rest, is) = (rest, ap (λ l. b ∷ l) is)

-- bytes that end with LF are nothing but whole lines
whole_lines-text : (text : List ℕ) → whole_lines (text ++ line_feed ∷ []) ≡ text ++ line_feed ∷ []
unfolding lines_of
whole_lines-text [] = refl
whole_lines-text (b ∷ text) = by_test (b == 10) (lines_of (text ++ 10 ∷ [])) (whole_lines-text text)
  where
    by_test : (t : Bool) (lines : List (List ℕ)) → join_lines lines ≡ text ++ 10 ∷ [] → join_lines (if t then (b ∷ []) ∷ lines else before_first b lines) ≡ b ∷ (text ++ 10 ∷ [])
    by_test true lines is = ap (λ l. b ∷ l) is
    by_test false [] is = absurd (let size = ap length is in omega (arith, length-append text (10 ∷ [])))
    by_test false (line ∷ lines) is = ap (λ l. b ∷ l) is

pub whole_lines-ends : (bytes : List ℕ) → EndsWithLine bytes → whole_lines bytes ≡ bytes
unfolding lines_of
whole_lines-ends bytes (inl none) = ap whole_lines none ∙ sym none
whole_lines-ends bytes (inr (text, is)) = ap whole_lines is ∙ whole_lines-text text ∙ sym is

-- and whole lines end with LF
joined-ends : (lines : List (List ℕ)) → All IsLine lines → EndsWithLine (join_lines lines)
joined-ends [] all = inl refl
joined-ends (line ∷ lines) all = by_rest (joined-ends lines (All-tail IsLine line lines all))
  where
    first : IsLine line
    first = All-head IsLine line lines all

    by_rest : EndsWithLine (join_lines lines) → EndsWithLine (line ++ join_lines lines)
    by_rest (inl none) = inr (first.text, ap (λ r. line ++ r) none ∙ append-nil line ∙ first.is)
    by_rest (inr (text, is)) = inr (line ++ text, ap (λ r. line ++ r) is ∙ sym (append_assoc line text (10 ∷ [])))

pub whole_lines-end : (bytes : List ℕ) → EndsWithLine (whole_lines bytes)
whole_lines-end bytes = joined-ends (lines_of bytes) (lines_of-are bytes)

-- the lines of whole lines
pub lines_of-whole : (bytes : List ℕ) → lines_of (whole_lines bytes) ≡ lines_of bytes
unfolding lines_of
lines_of-whole bytes =
    ap lines_of (sym (append-nil (whole_lines bytes))) ∙ lines_of-joined (lines_of bytes) [] (lines_of-are bytes) ∙ append-nil (lines_of bytes)

-- behind whole lines come the lines of what follows
pub lines_of-behind : (front rest : List ℕ) → EndsWithLine front → lines_of (front ++ rest) ≡ lines_of front ++ lines_of rest
lines_of-behind front rest whole =
    ap (λ f. lines_of (f ++ rest)) (sym (whole_lines-ends front whole)) ∙ lines_of-joined (lines_of front) rest (lines_of-are front)

-- ---- a head

-- one line more: it ends the head, or the end lies behind it
pub rest_len-last : (line : List ℕ) (lines : List (List ℕ)) → is_empty_line line ≡ true → rest_len true (line ∷ lines) ≡ Some (length line)
unfolding up_to_empty
rest_len-last line lines e =
    ap (λ t. option_map (λ head. length (join_lines head)) (if t then Some (line ∷ []) else option_map (λ later. line ∷ later) (up_to_empty lines))) e
    ∙ ap (λ l. Some (length l)) (append-nil line)

further : (line : List ℕ) (found : Option (List (List ℕ)))
    → option_map (λ head. length (join_lines head)) (option_map (λ later. line ∷ later) found)
    ≡ option_map (λ len. length line + len) (option_map (λ head. length (join_lines head)) found)
further line None = refl
further line (Some later) = ap Some (length-append line (join_lines later))

pub rest_len-line : (begun : Bool) (line : List ℕ) (lines : List (List ℕ)) → (begun && is_empty_line line) ≡ false
    → rest_len begun (line ∷ lines) ≡ option_map (λ len. length line + len) (rest_len (begun || not (is_empty_line line)) lines)
unfolding up_to_empty head_lines
rest_len-line true line lines e =
    ap (λ t. option_map (λ head. length (join_lines head)) (if t then Some (line ∷ []) else option_map (λ later. line ∷ later) (up_to_empty lines))) e
    ∙ further line (up_to_empty lines)
rest_len-line false line lines e = by_test (is_empty_line line)
  where
    by_test : (t : Bool) → option_map (λ head. length (join_lines head)) (option_map (λ later. line ∷ later) (if t then head_lines lines else up_to_empty lines))
        ≡ option_map (λ len. length line + len) (rest_len (not t) lines)
    by_test true = further line (head_lines lines)
    by_test false = further line (up_to_empty lines)

-- behind lines in which the head doesn't end
pub rest_len-behind : (begun : Bool) (lines more : List (List ℕ)) → rest_len begun lines ≡ None
    → rest_len begun (lines ++ more) ≡ option_map (λ len. length (join_lines lines) + len) (rest_len (begun || has_other lines) more)
rest_len-behind begun [] more none =
    sym (same (rest_len begun more)) ∙ ap (λ b. option_map (λ len. 0 + len) (rest_len b more)) (sym (or-false begun))
  where
    same : (found : Option ℕ) → option_map (λ len. 0 + len) found ≡ found
    same None = refl
    same (Some len) = ap Some (let e : 0 + len ≡ len = omega arith in e)

    or-false : (b : Bool) → (b || false) ≡ b
    or-false true = refl
    or-false false = refl
rest_len-behind begun (line ∷ lines) more none =
    by_end (λ next no_end. rest_len-behind next lines more no_end) (begun && is_empty_line line) refl
  where
    none_of : (found : Option ℕ) → option_map (λ len. length line + len) found ≡ None → found ≡ None
    none_of None e = refl
    none_of (Some len) e = cc

    both : (found : Option ℕ) → option_map (λ len. length line + len) (option_map (λ len. length (join_lines lines) + len) found)
        ≡ option_map (λ len. length (line ++ join_lines lines) + len) found
    both None = refl
    both (Some len) = ap Some (let e : length line + (length (join_lines lines) + len) ≡ length (line ++ join_lines lines) + len = omega (arith, length-append line (join_lines lines)) in e)

    or_assoc : (a b c : Bool) → ((a || b) || c) ≡ (a || (b || c))
    or_assoc true b c = refl
    or_assoc false b c = refl

    last : (b t : Bool) → (b && t) ≡ true → (b ≡ true) × (t ≡ true)
    last true t e = (refl, e)
    last false t e = cc

    by_end : ((next : Bool) → rest_len next lines ≡ None
        → rest_len next (lines ++ more) ≡ option_map (λ len. length (join_lines lines) + len) (rest_len (next || has_other lines) more))
        → (t : Bool) → (begun && is_empty_line line) ≡ t
        → rest_len begun (line ∷ (lines ++ more)) ≡ option_map (λ len. length (join_lines (line ∷ lines)) + len) (rest_len (begun || has_other (line ∷ lines)) more)
    by_end later true e =
        let ends = last begun (is_empty_line line) e in
        let some : rest_len begun (line ∷ lines) ≡ Some (length line) =
        subst (λ b. rest_len b (line ∷ lines) ≡ Some (length line)) (sym ends.0) (rest_len-last line lines ends.1) in
        let no : None ≡ Some (length line) = sym none ∙ some in cc
    by_end later false e =
        let next = begun || not (is_empty_line line) in
        rest_len-line begun line (lines ++ more) e
        ∙ ap (option_map (λ len. length line + len)) (later next (none_of (rest_len next lines) (sym (rest_len-line begun line lines e) ∙ none)))
        ∙ both (rest_len (next || has_other lines) more)
        ∙ ap (λ b. option_map (λ len. length (line ++ join_lines lines) + len) (rest_len b more)) (or_assoc begun (not (is_empty_line line)) (has_other lines))

-- where the head ends, as a length; it has no end where there is none
abbrev pub IsEnding : Bool → List ℕ → Option ℕ → Type 0
IsEnding begun bytes None = NeverEnds begun bytes
IsEnding begun bytes (Some len) = EndsAt begun bytes len

ending_by : (fuel : ℕ) (begun : Bool) (bytes : List ℕ) → length bytes < fuel → IsEnding begun bytes (rest_len begun (lines_of bytes))
unfolding up_to_empty head_lines
ending_by zero begun bytes lt = absurd (omega arith)
ending_by (suc fuel) begun bytes lt = by_beginning (λ next rest short. ending_by fuel next rest short) (beginning_of bytes)
  where
    none_of : (begun : Bool) → rest_len begun [] ≡ None
    none_of true = refl
    none_of false = refl

    behind : (next : Bool) (line rest : List ℕ) (found : Option ℕ) → IsLine line → (begun next : Bool) → Leads begun line next → IsEnding next rest found
        → IsEnding begun (line ++ rest) (option_map (λ len. length line + len) found)
    behind next line rest None is begun after leads never = NeverEnds-line begun after line rest is leads never
    behind next line rest (Some len) is begun after leads at = EndsAt-line begun after line rest len is leads at

    by_line : ((next : Bool) (rest : List ℕ) → length rest < fuel → IsEnding next rest (rest_len next (lines_of rest))) → (begun : Bool) (line rest : List ℕ)
        → length rest < fuel → IsLine line → (empty : Bool) → is_empty_line line ≡ empty → IsEnding begun (line ++ rest) (rest_len begun (line ∷ lines_of rest))
    by_line later true line rest short is true e =
        subst (IsEnding true (line ++ rest)) (sym (rest_len-last line (lines_of rest) e)) (EndsAt-last line rest (is_empty-true line e))
    by_line later true line rest short is false e =
        subst (IsEnding true (line ++ rest)) (sym (rest_len-line true line (lines_of rest) e))
        (behind true line rest (rest_len true (lines_of rest)) is true true (Leads-other true line (is, is_empty-false line e)) (later true rest short))
    by_line later false line rest short is true e =
        subst (IsEnding false (line ++ rest)) (sym (rest_len-line false line (lines_of rest) refl ∙ ap (λ t. option_map (λ len. length line + len) (rest_len (not t) (lines_of rest))) e))
        (behind false line rest (rest_len false (lines_of rest)) is false false (Leads-blank line (is_empty-true line e)) (later false rest short))
    by_line later false line rest short is false e =
        subst (IsEnding false (line ++ rest)) (sym (rest_len-line false line (lines_of rest) refl ∙ ap (λ t. option_map (λ len. length line + len) (rest_len (not t) (lines_of rest))) e))
        (behind true line rest (rest_len true (lines_of rest)) is false true (Leads-other false line (is, is_empty-false line e)) (later true rest short))

    by_beginning : ((next : Bool) (rest : List ℕ) → length rest < fuel → IsEnding next rest (rest_len next (lines_of rest))) → Beginning bytes
        → IsEnding begun bytes (rest_len begun (lines_of bytes))
    by_beginning later (no_line all) =
        subst (IsEnding begun bytes) (sym (ap (rest_len begun) (lines_of-none bytes all) ∙ none_of begun)) (NeverEnds-no_feed begun bytes all)
    by_beginning later (a_line line rest is e) =
        subst (λ b. IsEnding begun b (rest_len begun (lines_of b))) (sym e)
        (subst (λ lines. IsEnding begun (line ++ rest) (rest_len begun lines)) (sym (lines_of-line line rest is))
        (by_line later begun line rest
        (let long = ap length e in let some = ap length is.is in omega (arith, length-append line rest, length-append is.text (10 ∷ []))) is (is_empty_line line) refl))

-- where the lines say that a head ends, it does
pub ending-is : (begun : Bool) (bytes : List ℕ) → IsEnding begun bytes (rest_len begun (lines_of bytes))
ending-is begun bytes = ending_by (suc (length bytes)) begun bytes (omega arith)
