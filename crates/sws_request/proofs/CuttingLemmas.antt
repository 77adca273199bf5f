-- The search for the end of a head, line after line.
use Rattle.std.specs.Prelude.{◌≡◌, ℕ, ◌+◌, ◌-◌, ◌<◌, ◌≤◌, Bool, true, false, nat_le, List, [], ◌∷◌, ◌++◌, length, take, drop, All, Option, Some, None, option_map}
use Rattle.std.specs.Prelude.{min, not, get_or, ◌||◌, ◌&&◌, ◌↔◌, IsTrue}
use Rattle.std.specs.List.{slice_range}
use Rattle.std.proofs.Common.{refl, sym, ap, ◌∙◌, subst, arith, length-append, length-take, length-drop, eq-eqb, eqb-true, leb-true, leb-false}
use Rattle.std.proofs.lemmas.List.{get_or-take, take_more, take_rest, take-append-drop, take-take, take_all, drop-drop}
use Rattle.std.proofs.lemmas.List.Elements.{All-from_get_or}
use Rattle.memchr.specs.Find.{NoneBefore, Nowhere, Passes, is_byte}
use Rattle.sws_request.specs.declared.cuts.Cut.TheVariants.{Head}
use Rattle.sws_request.specs.declared.head.Found.TheVariants.{Lines}
use Rattle.sws_request.specs.Head.{join_lines, IsLine, IsEmptyLine, IsHead, HasNoHeadWithin, IsCutOf}
use Rattle.sws_request.specs.Cuts.{lines_of, is_empty_line, up_to_empty, head_lines}
use Rattle.sws_request.specs.Scans.{whole_lines, has_other, rest_len, IsFound}
use Rattle.sws_request.proofs.HeadLemmas.{IsNotFeed, EndsAt, NeverEnds}
use Rattle.sws_request.proofs.LineLemmas.{is_empty-true, is_empty-line, lines_of-none, lines_of-line, rest_len-last, rest_len-line}

-- in the first start bytes, which are whole lines, the head has not ended: what the bytes say of
-- it, the bytes behind them say
pub record IsScanned (bytes : List ℕ) (first : Bool) (start : ℕ) (begun : Bool) : Type 0 where
  pub within : start ≤ length bytes
  pub ends : rest_len first (lines_of bytes) ≡ option_map (λ len. start + len) (rest_len begun (lines_of (drop start bytes)))
  pub size : length (whole_lines bytes) ≡ start + length (whole_lines (drop start bytes))
  pub others : (first || has_other (lines_of bytes)) ≡ (begun || has_other (lines_of (drop start bytes)))

-- the line behind them
pub record IsNextLine (bytes : List ℕ) (start : ℕ) (line : List ℕ) : Type 0 where
  pub is_line : IsLine line
  pub is : drop start bytes ≡ line ++ drop (start + length line) bytes

-- the lines of what is behind them
lines_next : (bytes : List ℕ) (start : ℕ) (line : List ℕ) → IsNextLine bytes start line
    → lines_of (drop start bytes) ≡ line ∷ lines_of (drop (start + length line) bytes)
lines_next bytes start line next = ap lines_of next.is ∙ lines_of-line line (drop (start + length line) bytes) next.is_line

-- it ends the head
pub IsScanned-last : (bytes : List ℕ) (first : Bool) (start : ℕ) (line : List ℕ) → IsScanned bytes first start true → IsNextLine bytes start line
    → is_empty_line line ≡ true → rest_len first (lines_of bytes) ≡ Some (start + length line)
IsScanned-last bytes first start line scanned next empty =
    let later = lines_of (drop (start + length line) bytes) in
    scanned.ends ∙ ap (option_map (λ len. start + len)) (ap (rest_len true) (lines_next bytes start line next) ∙ rest_len-last line later empty)

-- or is one more of it
IsScanned-line : (bytes : List ℕ) (first : Bool) (start : ℕ) (begun : Bool) (line : List ℕ) → IsScanned bytes first start begun → IsNextLine bytes start line
    → (begun && is_empty_line line) ≡ false → IsScanned bytes first (start + length line) (begun || not (is_empty_line line))
IsScanned-line bytes first start begun line scanned next goes_on = record {
  within = let long = ap length next.is in let some = scanned.within in omega (arith, length-append line (drop (start + length line) bytes), length-drop start bytes, length-drop (start + length line) bytes);
  ends = scanned.ends ∙ ap (option_map (λ len. start + len)) (ap (rest_len begun) lines ∙ rest_len-line begun line later goes_on) ∙ both (rest_len after later);
  size = let all = scanned.size in let one = ap (λ l. length (join_lines l)) lines in omega (arith, length-append line (join_lines later));
  others = scanned.others ∙ ap (λ l. begun || has_other l) lines ∙ sym (or_assoc begun (not (is_empty_line line)) (has_other later));
}
  where
    later : List (List ℕ)
    later = lines_of (drop (start + length line) bytes)

    after : Bool
    after = begun || not (is_empty_line line)

    lines : lines_of (drop start bytes) ≡ line ∷ lines_of (drop (start + length line) bytes)
    lines = lines_next bytes start line next

    both : (found : Option ℕ) → option_map (λ len. start + len) (option_map (λ len. length line + len) found) ≡ option_map (λ len. start + length line + len) found
    both None = refl
    both (Some len) = ap Some (let e : start + (length line + len) ≡ start + length line + len = omega arith in e)

    or_assoc : (a b c : Bool) → ((a || b) || c) ≡ (a || (b || c))
    or_assoc true b c = refl
    or_assoc false b c = refl

-- no byte before the first LF is one
no_feed_before : (hay : List ℕ) (feed : ℕ) → feed ≤ length hay → Nowhere (Passes (is_byte 10) hay) 0 feed → All IsNotFeed (take feed hay)
no_feed_before hay feed le none = All-from_get_or IsNotFeed (take feed hay) 0 (λ k lt e.
    let below : k < feed = omega (arith, length-take feed hay) in
    none k (omega arith) below (eq-eqb (get_or hay k 0) 10 (sym (get_or-take feed hay k 0 below) ∙ e)))

-- the bytes up to the first LF are a line
line_found : (hay : List ℕ) (feed : ℕ) → feed < length hay → Nowhere (Passes (is_byte 10) hay) 0 feed → get_or hay feed 0 ≡ 10 → IsLine (take (feed + 1) hay)
line_found hay feed lt none e = record {
  text = take feed hay;
  no_feed = no_feed_before hay feed (omega arith) none;
  is = take_more hay feed 0 lt ∙ ap (λ b. take feed hay ++ b ∷ []) e;
}

-- and the next one
next_line : (bytes : List ℕ) (start feed : ℕ) → start ≤ length bytes
    → NoneBefore (Passes (is_byte 10) (drop start bytes)) 0 (length (drop start bytes)) feed × Passes (is_byte 10) (drop start bytes) feed
    → IsNextLine bytes start (slice_range bytes start (start + feed + 1)) × (start + length (slice_range bytes start (start + feed + 1)) ≡ start + feed + 1)
next_line bytes start feed le (before, is) =
    let count : start + feed + 1 - start ≡ feed + 1 = omega arith in
    let same : take (start + feed + 1 - start) (drop start bytes) ≡ take (feed + 1) (drop start bytes) = ap (λ n. take n (drop start bytes)) count in
    let line = line_found (drop start bytes) feed before.high before.before (eqb-true (get_or (drop start bytes) feed 0) 10 is) in
    let high = before.high in
    let long : start + length (take (start + feed + 1 - start) (drop start bytes)) ≡ start + feed + 1 =
    (let l = ap length same in omega (arith, length-take (feed + 1) (drop start bytes), l)) in (
      record {
        is_line = subst IsLine (sym same) line;
        is = sym (take-append-drop (feed + 1) (drop start bytes)) ∙ ap (λ l. l ++ drop (feed + 1) (drop start bytes)) (sym same)
            ∙ ap (λ r. take (start + feed + 1 - start) (drop start bytes) ++ r) (drop-drop (feed + 1) start bytes ∙ ap (λ n. drop n bytes) (let sum : start + (feed + 1) ≡ start + feed + 1 = omega arith in sum ∙ sym long));
      },
      long,
    )

pub IsNextLine-found : (bytes : List ℕ) (start feed : ℕ) → start ≤ length bytes
    → NoneBefore (Passes (is_byte 10) (slice_range bytes start (length bytes))) 0 (length (slice_range bytes start (length bytes))) feed × Passes (is_byte 10) (slice_range bytes start (length bytes)) feed
    → IsNextLine bytes start (slice_range bytes start (start + feed + 1)) × (start + length (slice_range bytes start (start + feed + 1)) ≡ start + feed + 1)
IsNextLine-found bytes start feed le found =
    next_line bytes start feed le (subst (λ hay. NoneBefore (Passes (is_byte 10) hay) 0 (length hay) feed × Passes (is_byte 10) hay feed) (take_rest bytes start) found)

-- where there is no LF, there is no line
pub IsFound-none : (bytes : List ℕ) (first : Bool) (start : ℕ) (begun : Bool) → IsScanned bytes first start begun
    → Nowhere (Passes (is_byte 10) (slice_range bytes start (length bytes))) 0 (length (slice_range bytes start (length bytes)))
    → IsFound first bytes (Lines (record { at = start; begun = begun }))
unfolding up_to_empty head_lines
IsFound-none bytes first start begun scanned none = (
  scanned.ends ∙ ap (λ l. option_map (λ len. start + len) (rest_len begun l)) no_lines ∙ ap (option_map (λ len. start + len)) (none_of begun),
  (let size = scanned.size in let nothing = ap (λ l. length (join_lines l)) no_lines in omega arith),
  sym (scanned.others ∙ ap (λ l. begun || has_other l) no_lines ∙ or-false begun),
)
  where
    by_rest : (hay : List ℕ) → slice_range bytes start (length bytes) ≡ hay → All IsNotFeed hay
    by_rest hay e = subst (All IsNotFeed) (take_all (length hay) hay (omega arith))
        (no_feed_before hay (length hay) (omega arith) (subst (λ hay. Nowhere (Passes (is_byte 10) hay) 0 (length hay)) e none))

    no_lines : lines_of (drop start bytes) ≡ []
    no_lines = lines_of-none (drop start bytes) (by_rest (drop start bytes) (take_rest bytes start))

    none_of : (begun : Bool) → rest_len begun [] ≡ None
    none_of true = refl
    none_of false = refl

    or-false : (b : Bool) → (b || false) ≡ b
    or-false true = refl
    or-false false = refl

-- the test of a line
pub is_empty-test : (line : List ℕ) (empty : Bool) → (IsTrue empty ↔ IsEmptyLine line) → is_empty_line line ≡ empty
is_empty-test line true is = is_empty-line line (is.0 refl)
is_empty-test line false is = by_test (is_empty_line line) refl
  where
    by_test : (t : Bool) → is_empty_line line ≡ t → t ≡ false
    by_test true e = sym (is.1 (is_empty-true line e))
    by_test false e = refl

-- a line that does not end the head, by whether it is empty
pub IsScanned-more : (bytes : List ℕ) (first : Bool) (start feed : ℕ) (begun empty : Bool) → IsScanned bytes first start begun
    → IsNextLine bytes start (slice_range bytes start (start + feed + 1)) × (start + length (slice_range bytes start (start + feed + 1)) ≡ start + feed + 1)
    → (IsTrue empty ↔ IsEmptyLine (slice_range bytes start (start + feed + 1))) → (begun && empty) ≡ false
    → IsScanned bytes first (start + feed + 1) (begun || not empty)
IsScanned-more bytes first start feed begun empty scanned (next, long) is goes_on =
    let line = slice_range bytes start (start + feed + 1) in
    let test = is_empty-test line empty is in
    subst (λ e. IsScanned bytes first (start + feed + 1) (begun || not e)) test
    (subst (λ n. IsScanned bytes first n (begun || not (is_empty_line line))) long
    (IsScanned-line bytes first start begun line scanned next (ap (λ e. begun && e) test ∙ goes_on)))

-- ---- the cut

-- the bytes that count
counted : (bytes : List ℕ) (n : ℕ) → n ≤ 8192 → take n (take (min (length bytes) 8192) bytes) ≡ take n bytes
counted bytes n le = by_length (nat_le (length bytes) 8192) refl
  where
    by_length : (t : Bool) → t ≡ nat_le (length bytes) 8192 → take n (take (min (length bytes) 8192) bytes) ≡ take n bytes
    by_length true e = let short = leb-true (length bytes) 8192 (sym e) in ap (take n) (take_all (min (length bytes) 8192) bytes (omega arith))
    by_length false e = let long = leb-false (length bytes) 8192 (sym e) in take-take n (min (length bytes) 8192) bytes (omega arith)

pub IsCutOf-head : (bytes : List ℕ) (len : ℕ) → EndsAt false (take (min (length bytes) 8192) bytes) len → IsCutOf bytes (Head len)
IsCutOf-head bytes len at =
    let fits = at.fits in
    let most : len ≤ min (length bytes) 8192 = omega (arith, length-take (min (length bytes) 8192) bytes) in (
      record {
        fits = omega arith;
        head = subst IsHead (counted bytes len (omega arith)) at.ends;
        shortest = λ n lt h. at.shortest n lt (subst IsHead (sym (counted bytes n (omega arith))) h);
      },
      omega arith,
    )

pub HasNoHeadWithin-never : (bytes : List ℕ) → NeverEnds false (take (min (length bytes) 8192) bytes) → HasNoHeadWithin 8192 bytes
HasNoHeadWithin-never bytes never n le h = never n (subst IsHead (sym (counted bytes n le)) h)
