-- What a line at the front of some bytes says of their head.
use Rattle.std.specs.Prelude.{◌≡◌, ◌≢◌, ℕ, ◌+◌, ◌-◌, ◌<◌, ◌≤◌, ◌==◌, Bool, true, false, nat_le, List, [], ◌∷◌, ◌++◌, length, take, All}
use Rattle.std.proofs.Common.{zero, suc, refl, sym, ap, ◌∙◌, subst, inl, inr, arith, append_assoc, append-nil, length-append, true-eqb, false-eqb, leb-true, leb-false}
use Rattle.std.proofs.lemmas.List.Elements.{All-nil, All-cons, All-head, All-tail}
use Rattle.sws_request.specs.declared.cuts.Cut.TheVariants.{Head}
use Rattle.sws_request.specs.Head.{join_lines, line_feed, IsLine, IsEmptyLine, IsOtherLine, IsRestOfHead, IsHead, HasNoHeadWithin, head_limit, IsCutOf}

-- ---- lines

-- the byte is not LF
abbrev pub IsNotFeed : ℕ → Type 0
IsNotFeed byte = byte ≢ line_feed

cons_is : (a b : ℕ) (x y : List ℕ) → a ∷ x ≡ b ∷ y → (a ≡ b) × (x ≡ y)
cons_is a b x y e = (cc, cc)

-- a text up to the first LF is the same however it is read
text-unique : (s t x y : List ℕ) → All IsNotFeed s → All IsNotFeed t → s ++ line_feed ∷ x ≡ t ++ line_feed ∷ y → (s ≡ t) × (x ≡ y)
text-unique [] [] x y a b e = (refl, (cons_is 10 10 x y e).1)
text-unique [] (c ∷ t) x y a b e = absurd (All-head IsNotFeed c t b (sym (cons_is 10 c x (t ++ 10 ∷ y) e).0))
text-unique (c ∷ s) [] x y a b e = absurd (All-head IsNotFeed c s a (cons_is c 10 (s ++ 10 ∷ x) y e).0)
text-unique (c ∷ s) (d ∷ t) x y a b e =
    let same = cons_is c d (s ++ 10 ∷ x) (t ++ 10 ∷ y) e in
    let rest = text-unique s t x y (All-tail IsNotFeed c s a) (All-tail IsNotFeed d t b) same.1 in
    (ap (λ u. c ∷ u) rest.0 ∙ ap (λ u. u ∷ t) same.0, rest.1)

line-text : (line rest : List ℕ) (is : IsLine line) → line ++ rest ≡ is.text ++ line_feed ∷ rest
line-text line rest is = ap (λ l. l ++ rest) is.is ∙ append_assoc is.text (10 ∷ []) rest

-- and so is a line
IsLine-unique : (a b x y : List ℕ) → IsLine a → IsLine b → a ++ x ≡ b ++ y → (a ≡ b) × (x ≡ y)
IsLine-unique a b x y p q e =
    let same = text-unique p.text q.text x y p.no_feed q.no_feed (sym (line-text a x p) ∙ e ∙ line-text b y q) in
    (p.is ∙ ap (λ t. t ++ 10 ∷ []) same.0 ∙ sym q.is, same.1)

IsEmptyLine-line : (line : List ℕ) → IsEmptyLine line → IsLine line
IsEmptyLine-line line (inl e) = record { text = []; no_feed = All-nil IsNotFeed; is = e }
IsEmptyLine-line line (inr e) = record { text = 13 ∷ []; no_feed = All-cons IsNotFeed 13 [] (λ f. omega arith) (All-nil IsNotFeed); is = e }

-- a line has an LF
line-feed : (text rest : List ℕ) → All IsNotFeed (text ++ line_feed ∷ rest) → ⊥
line-feed [] rest all = All-head IsNotFeed 10 rest all refl
line-feed (b ∷ text) rest all = line-feed text rest (All-tail IsNotFeed b (text ++ 10 ∷ rest) all)

-- and a prefix that is shorter has none
short-of : (text more : List ℕ) (n : ℕ) → All IsNotFeed text → n ≤ length text → All IsNotFeed (take n (text ++ more))
short-of text more zero all le = All-nil IsNotFeed
short-of [] more (suc n) all le = absurd (omega arith)
short-of (b ∷ text) more (suc n) all le =
    All-cons IsNotFeed b (take n (text ++ more)) (All-head IsNotFeed b text all) (short-of text more n (All-tail IsNotFeed b text all) (omega arith))

take-past : (a b : List ℕ) (n : ℕ) → take (length a + n) (a ++ b) ≡ a ++ take n b
take-past [] b n = let none : 0 + n ≡ n = omega arith in ap (λ k. take k b) none
take-past (x ∷ a) b n = let one : length (x ∷ a) + n ≡ suc (length a + n) = omega arith in ap (λ k. take k (x ∷ (a ++ b))) one ∙ ap (λ r. x ∷ r) (take-past a b n)

-- the first line of some bytes, with what stands behind it; or that they have no LF
pub data Beginning (bytes : List ℕ) : Type 0 where
  no_line : All IsNotFeed bytes → Beginning bytes
  a_line : (line rest : List ℕ) → IsLine line → bytes ≡ line ++ rest → Beginning bytes

pub beginning_of : (bytes : List ℕ) → Beginning bytes
beginning_of [] = no_line (All-nil IsNotFeed)
beginning_of (b ∷ bytes) = by_test (b == 10) refl (beginning_of bytes)
  where
    by_test : (t : Bool) → t ≡ (b == 10) → Beginning bytes → Beginning (b ∷ bytes)
    by_test true e later = a_line (10 ∷ []) bytes (record { text = []; no_feed = All-nil IsNotFeed; is = refl }) (ap (λ x. x ∷ bytes) (true-eqb b 10 e))
    by_test false e (no_line all) = no_line (All-cons IsNotFeed b bytes (false-eqb b 10 e) all)
    by_test false e (a_line line rest is same) = a_line (b ∷ line) rest
        (record { text = b ∷ is.text; no_feed = All-cons IsNotFeed b is.text (false-eqb b 10 e) is.no_feed; is = ap (λ x. b ∷ x) is.is })
        (ap (λ x. b ∷ x) same)

-- ---- what lines make up

-- what ends a head of which a line that is not empty has begun, or of which none has
abbrev pub Ends : Bool → List ℕ → Type 0
Ends false bytes = IsHead bytes
Ends true bytes = IsRestOfHead bytes

-- what ends a head has a first line: an empty one, which is the last where another has begun;
-- or another, which begins
data FirstLine (begun : Bool) (bytes : List ℕ) : Type 0 where
  last : (line : List ℕ) → IsEmptyLine line → begun ≡ true → bytes ≡ line ++ [] → FirstLine begun bytes
  blank : (line rest : List ℕ) → IsEmptyLine line → begun ≡ false → IsHead rest → bytes ≡ line ++ rest → FirstLine begun bytes
  other : (line rest : List ℕ) → IsOtherLine line → IsRestOfHead rest → bytes ≡ line ++ rest → FirstLine begun bytes

Ends-first : (begun : Bool) (bytes : List ℕ) → Ends begun bytes → FirstLine begun bytes
Ends-first true bytes h = by_others h.others h.other_lines h.is
  where
    by_others : (others : List (List ℕ)) → All IsOtherLine others → bytes ≡ join_lines others ++ h.last → FirstLine true bytes
    by_others [] all is = last h.last h.last_line refl (is ∙ sym (append-nil h.last))
    by_others (line ∷ others) all is =
        other line (join_lines others ++ h.last) (All-head IsOtherLine line others all)
        (record { others = others; last = h.last; other_lines = All-tail IsOtherLine line others all; last_line = h.last_line; is = refl })
        (is ∙ append_assoc line (join_lines others) h.last)
Ends-first false bytes h = by_blank h.blank h.blank_lines h.is
  where
    by_blank : (lines : List (List ℕ)) → All IsEmptyLine lines → bytes ≡ join_lines lines ++ (h.first ++ h.rest) → FirstLine false bytes
    by_blank [] all is = other h.first h.rest h.first_line h.rest_of_head is
    by_blank (line ∷ lines) all is =
        blank line (join_lines lines ++ (h.first ++ h.rest)) (All-head IsEmptyLine line lines all) refl
        (record {
          blank = lines;
          first = h.first;
          rest = h.rest;
          blank_lines = All-tail IsEmptyLine line lines all;
          first_line = h.first_line;
          rest_of_head = h.rest_of_head;
          is = refl;
        })
        (is ∙ append_assoc line (join_lines lines) (h.first ++ h.rest))

-- so it has an LF
Ends-feed : (begun : Bool) (bytes : List ℕ) → All IsNotFeed bytes → Ends begun bytes → ⊥
Ends-feed begun bytes all h = by_first (Ends-first begun bytes h)
  where
    has_feed : (line rest : List ℕ) → IsLine line → bytes ≡ line ++ rest → ⊥
    has_feed line rest is e = line-feed is.text rest (subst (All IsNotFeed) (e ∙ line-text line rest is) all)

    by_first : FirstLine begun bytes → ⊥
    by_first (last line empty begins e) = has_feed line [] (IsEmptyLine-line line empty) e
    by_first (blank line rest empty begins h e) = has_feed line rest (IsEmptyLine-line line empty) e
    by_first (other line rest is h e) = has_feed line rest is.0 e

-- a line in front leads to what ends the head behind it
pub record Leads (begun : Bool) (line : List ℕ) (next : Bool) : Type 0 where
  pub on : (rest : List ℕ) → Ends begun (line ++ rest) → Ends next rest
  pub back : (rest : List ℕ) → Ends next rest → Ends begun (line ++ rest)

-- empty lines in front of the first other line lead nowhere
pub Leads-blank : (line : List ℕ) → IsEmptyLine line → Leads false line false
Leads-blank line empty = record { on = λ rest h. by_first rest (Ends-first false (line ++ rest) h); back = back }
  where
    by_first : (rest : List ℕ) → FirstLine false (line ++ rest) → IsHead rest
    by_first rest (last l e begins is) = absurd (let f : false ≡ true = begins in cc)
    by_first rest (blank l r e begins h is) = subst IsHead (sym (IsLine-unique line l rest r (IsEmptyLine-line line empty) (IsEmptyLine-line l e) is).1) h
    by_first rest (other l r o h is) =
        absurd (o.1 (subst IsEmptyLine (IsLine-unique line l rest r (IsEmptyLine-line line empty) o.0 is).0 empty))

    back : (rest : List ℕ) → IsHead rest → IsHead (line ++ rest)
    back rest h = record {
      blank = line ∷ h.blank;
      first = h.first;
      rest = h.rest;
      blank_lines = All-cons IsEmptyLine line h.blank empty h.blank_lines;
      first_line = h.first_line;
      rest_of_head = h.rest_of_head;
      is = ap (λ r. line ++ r) h.is ∙ sym (append_assoc line (join_lines h.blank) (h.first ++ h.rest));
    }

-- another line begins the head, or goes on with it
pub Leads-other : (begun : Bool) (line : List ℕ) → IsOtherLine line → Leads begun line true
Leads-other begun line is = record { on = λ rest h. by_first rest (Ends-first begun (line ++ rest) h); back = back begun }
  where
    not_empty : (l rest r : List ℕ) → IsEmptyLine l → line ++ rest ≡ l ++ r → ⊥
    not_empty l rest r e same = is.1 (subst IsEmptyLine (sym (IsLine-unique line l rest r is.0 (IsEmptyLine-line l e) same).0) e)

    by_first : (rest : List ℕ) → FirstLine begun (line ++ rest) → IsRestOfHead rest
    by_first rest (last l e begins same) = absurd (not_empty l rest [] e same)
    by_first rest (blank l r e begins h same) = absurd (not_empty l rest r e same)
    by_first rest (other l r o h same) = subst IsRestOfHead (sym (IsLine-unique line l rest r is.0 o.0 same).1) h

    back : (begun : Bool) (rest : List ℕ) → IsRestOfHead rest → Ends begun (line ++ rest)
    back false rest h = record {
      blank = [];
      first = line;
      rest = rest;
      blank_lines = All-nil IsEmptyLine;
      first_line = is;
      rest_of_head = h;
      is = refl;
    }
    back true rest h = record {
      others = line ∷ h.others;
      last = h.last;
      other_lines = All-cons IsOtherLine line h.others is h.other_lines;
      last_line = h.last_line;
      is = ap (λ r. line ++ r) h.is ∙ sym (append_assoc line (join_lines h.others) h.last);
    }

-- an empty line ends a head that has begun
empty-ends : (line : List ℕ) → IsEmptyLine line → IsRestOfHead line
empty-ends line empty = record { others = []; last = line; other_lines = All-nil IsOtherLine; last_line = empty; is = refl }

-- ---- the first end

-- the first len bytes end the head, and no fewer do
pub record EndsAt (begun : Bool) (bytes : List ℕ) (len : ℕ) : Type 0 where
  pub fits : len ≤ length bytes
  pub ends : Ends begun (take len bytes)
  pub shortest : (n : ℕ) → n < len → Ends begun (take n bytes) → ⊥

-- no prefix does
abbrev pub NeverEnds : Bool → List ℕ → Type 0
NeverEnds begun bytes = (n : ℕ) → Ends begun (take n bytes) → ⊥

-- not without an LF
pub NeverEnds-no_feed : (begun : Bool) (bytes : List ℕ) → All IsNotFeed bytes → NeverEnds begun bytes
NeverEnds-no_feed begun bytes all n h =
    Ends-feed begun (take n bytes) (subst (λ b. All IsNotFeed (take n b)) (append-nil bytes) (by_length (nat_le n (length bytes)) refl)) h
  where
    by_length : (t : Bool) → t ≡ nat_le n (length bytes) → All IsNotFeed (take n (bytes ++ []))
    by_length true e = short-of bytes [] n all (leb-true n (length bytes) (sym e))
    by_length false e = Rattle.std.proofs.lemmas.List.Elements.All-take IsNotFeed n (bytes ++ []) (subst (All IsNotFeed) (sym (append-nil bytes)) all)

-- and not within a first line
within-line : (begun : Bool) (line rest : List ℕ) (n : ℕ) → IsLine line → n < length line → Ends begun (take n (line ++ rest)) → ⊥
within-line begun line rest n is lt h =
    Ends-feed begun (take n (line ++ rest))
    (subst (λ b. All IsNotFeed (take n b)) (sym (line-text line rest is))
    (short-of is.text (10 ∷ rest) n is.no_feed (let long = ap length is.is in omega (arith, length-append is.text (10 ∷ [])))))
    h

-- past it are the line and some of what follows
past-line : (begun : Bool) (line rest : List ℕ) (n : ℕ) → length line ≤ n → Ends begun (take n (line ++ rest)) → Ends begun (line ++ take (n - length line) rest)
past-line begun line rest n le h =
    let same : n ≡ length line + (n - length line) = omega arith in
    subst (Ends begun) (ap (λ k. take k (line ++ rest)) same ∙ take-past line rest (n - length line)) h

-- the first line ends it
pub EndsAt-last : (line rest : List ℕ) → IsEmptyLine line → EndsAt true (line ++ rest) (length line)
EndsAt-last line rest empty = record {
  fits = omega (arith, length-append line rest);
  ends = subst IsRestOfHead (sym (whole (omega arith))) (empty-ends line empty);
  shortest = λ n lt h. within-line true line rest n (IsEmptyLine-line line empty) lt h;
}
  where
    whole : length line ≡ length line + 0 → take (length line) (line ++ rest) ≡ line
    whole e = ap (λ k. take k (line ++ rest)) e ∙ take-past line rest 0 ∙ append-nil line

-- or the end lies behind it
pub EndsAt-line : (begun next : Bool) (line rest : List ℕ) (len : ℕ) → IsLine line → Leads begun line next
    → EndsAt next rest len → EndsAt begun (line ++ rest) (length line + len)
EndsAt-line begun next line rest len is leads at = record {
  fits = let fits = at.fits in omega (arith, length-append line rest);
  ends = subst (Ends begun) (sym (take-past line rest len)) (leads.back (take len rest) at.ends);
  shortest = λ n lt h. by_place n lt h (nat_le (length line) n) refl;
}
  where
    by_place : (n : ℕ) → n < length line + len → Ends begun (take n (line ++ rest)) → (t : Bool) → t ≡ nat_le (length line) n → ⊥
    by_place n lt h true e =
        let le = leb-true (length line) n (sym e) in
        at.shortest (n - length line) (omega arith) (leads.on (take (n - length line) rest) (past-line begun line rest n le h))
    by_place n lt h false e = within-line begun line rest n is (leb-false (length line) n (sym e)) h

-- or there is none
pub NeverEnds-line : (begun next : Bool) (line rest : List ℕ) → IsLine line → Leads begun line next → NeverEnds next rest → NeverEnds begun (line ++ rest)
NeverEnds-line begun next line rest is leads never n h = by_place (nat_le (length line) n) refl
  where
    by_place : (t : Bool) → t ≡ nat_le (length line) n → ⊥
    by_place true e = never (n - length line) (leads.on (take (n - length line) rest) (past-line begun line rest n (leb-true (length line) n (sym e)) h))
    by_place false e = within-line begun line rest n is (leb-false (length line) n (sym e)) h

-- ---- the cut

-- bytes with a head that is short enough, with none, and with a longer one
pub IsCutOf-ends : (bytes : List ℕ) (len : ℕ) → EndsAt false bytes len → len ≤ head_limit → IsCutOf bytes (Head len)
IsCutOf-ends bytes len found short = (record { fits = found.fits; head = found.ends; shortest = found.shortest }, short)

pub HasNoHeadWithin-past : (bytes : List ℕ) (len : ℕ) → EndsAt false bytes len → head_limit < len → HasNoHeadWithin head_limit bytes
HasNoHeadWithin-past bytes len found long n le h = found.shortest n (omega arith) h
