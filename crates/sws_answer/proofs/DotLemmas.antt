-- Paths without their dot segments, as they are written byte by byte.
use Rattle.std.proofs.Common.{◌≡◌, ℕ, ◌+◌, ◌-◌, ◌*◌, ◌<◌, ◌≤◌, Bool, true, false, List, [], ◌∷◌, ◌++◌, length, get_or, take, drop, refl, sym, ap, subst, ◌∙◌, arith, append_assoc, length-append, append-nil, take_all, length-drop}
use Rattle.std.specs.Prelude.{if◌then◌else◌, not, ◌||◌}
use Rattle.std.specs.List.{AllByRecursion, suffix_len, slice_split, onto_first}
use Rattle.std.specs.Char.{digit_value}
use Rattle.std.proofs.Math.Seq.{get_or-append_seam, take-append_seam, drop-append_seam}
use Rattle.std.proofs.lemmas.List.{get_or-append-add, get_or_append_left}
use Rattle.std.proofs.lemmas.List.Elements.{All-nil, All-cons, All-append, All-get_or}
use Rattle.std.proofs.lemmas.List.Splits.{slice_split_none, slice_split_at}
use Rattle.std.proofs.lemmas.List.Sums.{suffix_len_is}
use Rattle.percent_encoding.specs.Percent.{percent_decode, is_escape}
use Rattle.sws_answer.specs.Targets.{is_slash, is_dot, is_double_dot, folders_with, folders_text, path_through, without_dot_segments}
use Rattle.sws_answer.specs.DotSteps.{IsSegment, IsWritten, is_dot_segment, EndsSegment, folders_after, segment_after}

abbrev isnt_slash : ℕ → Bool
isnt_slash byte = not (is_slash byte)

-- where the last segment begins, as the code finds it
abbrev pub start_of : List ℕ → ℕ
start_of bytes = length bytes - suffix_len isnt_slash bytes

-- nothing, or what a slash ends
abbrev EndsInSlash : List ℕ → Type 0
EndsInSlash front = 0 < length front → get_or front (length front - 1) 0 ≡ 47

start-is : (front segment : List ℕ) → EndsInSlash front → IsSegment segment → start_of (front ++ segment) ≡ length front
start-is front segment ends plain =
    let size = length-append front segment in
    let found = suffix_len_is isnt_slash (front ++ segment) (length front) 0 (omega (arith, size)) inside before in
    omega (arith, size, found)
  where
    inside : (k : ℕ) → length front ≤ k → k < length (front ++ segment) → isnt_slash (get_or (front ++ segment) k 0) ≡ true
    inside k from within =
        let size = length-append front segment in
        let place : k ≡ length front + (k - length front) = omega arith in
        ap (λ n. isnt_slash (get_or (front ++ segment) n 0)) place
        ∙ ap isnt_slash (get_or-append-add front segment (k - length front) 0)
        ∙ ap not (All-get_or (λ byte. is_slash byte ≡ false) segment (k - length front) 0 (omega (arith, size)) plain)

    before : 0 < length front → isnt_slash (get_or (front ++ segment) (length front - 1) 0) ≡ false
    before some =
        ap isnt_slash (get_or_append_left front segment 0 (length front - 1) (omega arith) ∙ ends some)

-- the folders end in a slash
folders-end : (folders : List (List ℕ)) → EndsInSlash (folders_text folders)
folders-end [] some = absurd (omega arith)
folders-end (folder ∷ above) some =
    let front = folders_text above ++ folder in
    let size = length-append front (47 ∷ []) in
    let place : length (front ++ 47 ∷ []) - 1 ≡ length front = omega (arith, size) in
    ap (λ n. get_or (front ++ 47 ∷ []) n 0) place ∙ get_or-append_seam front 47 [] 0

start-written : (bytes : List ℕ) (folders : List (List ℕ)) (segment : List ℕ) → IsWritten bytes folders segment
    → start_of bytes ≡ length (folders_text folders)
start-written bytes folders segment w = ap start_of w.is ∙ start-is (folders_text folders) segment (folders-end folders) w.last

-- the folders, and the segment behind them
front-written : (bytes : List ℕ) (folders : List (List ℕ)) (segment : List ℕ) (start : ℕ) → IsWritten bytes folders segment → start ≡ start_of bytes
    → take start bytes ≡ folders_text folders
front-written bytes folders segment start w s =
    ap (λ n. take n bytes) (s ∙ start-written bytes folders segment w) ∙ ap (take (length (folders_text folders))) w.is
    ∙ take-append_seam (folders_text folders) segment

back-written : (bytes : List ℕ) (folders : List (List ℕ)) (segment : List ℕ) (start : ℕ) → IsWritten bytes folders segment → start ≡ start_of bytes
    → drop start bytes ≡ segment
back-written bytes folders segment start w s =
    ap (λ n. drop n bytes) (s ∙ start-written bytes folders segment w) ∙ ap (drop (length (folders_text folders))) w.is
    ∙ drop-append_seam (folders_text folders) segment

-- a test of what stands from there on
pub test-rest : (test : List ℕ → Bool) (bytes old : List ℕ) (start : ℕ) (found t : Bool) → bytes ≡ old
    → found ≡ test (take (length bytes - start) (drop start bytes)) → found ≡ t → test (drop start old) ≡ t
test-rest test bytes old start found t b f e =
    ap test (ap (drop start) (sym b) ∙ sym (take_all (length bytes - start) (drop start bytes) (omega (arith, length-drop start bytes))))
    ∙ sym f ∙ e

-- ---- the last folder is taken away

pub last-folder : (old : List ℕ) (folder : List ℕ) (above : List (List ℕ)) (start : ℕ) → IsSegment folder → old ≡ folders_text (folder ∷ above)
    → start ≡ start_of (take (length old - 1) old) → take start old ≡ folders_text above
last-folder old folder above start plain is s =
    let front = folders_text above ++ folder in
    let size = ap length is ∙ length-append front (47 ∷ []) in
    let place : length old - 1 ≡ length front = omega (arith, size) in
    let inner : take (length old - 1) old ≡ front = ap (λ n. take n old) place ∙ ap (take (length front)) is ∙ take-append_seam front (47 ∷ []) in
    ap (λ n. take n old) (s ∙ ap start_of inner ∙ start-is (folders_text above) folder (folders-end above) plain)
    ∙ ap (take (length (folders_text above))) (is ∙ append_assoc (folders_text above) folder (47 ∷ []))
    ∙ take-append_seam (folders_text above) (folder ++ 47 ∷ [])

-- ---- a segment ends

pub ends-dot : (old new : List ℕ) (folders : List (List ℕ)) (segment : List ℕ) (start : ℕ) → IsWritten old folders segment → start ≡ start_of old
    → is_dot (drop start old) ≡ true → new ≡ take start old → EndsSegment folders segment true old new
ends-dot old new folders segment start w s dot n =
    let is = ap is_dot (sym (back-written old folders segment start w s)) ∙ dot in (
      sym (ap (λ t. t || is_double_dot segment) is),
      n ∙ front-written old folders segment start w s
          ∙ sym (ap (λ t. folders_text (if t then folders else (if is_double_dot segment then drop 1 folders else segment ∷ folders))) is),
    )

pub ends-double : (old middle new : List ℕ) (folders : List (List ℕ)) (segment : List ℕ) (start : ℕ) → IsWritten old folders segment → start ≡ start_of old
    → is_dot (drop start old) ≡ false → is_double_dot (drop start old) ≡ true → middle ≡ take start old
    → ((folder : List ℕ) (above : List (List ℕ)) → AllByRecursion IsSegment (folder ∷ above) → middle ≡ folders_text (folder ∷ above) → new ≡ folders_text above)
    → (middle ≡ [] → new ≡ []) → EndsSegment folders segment true old new
ends-double old middle new folders segment start w s not_one dots m removed top =
    let not_dot = ap is_dot (sym (back-written old folders segment start w s)) ∙ not_one in
    let is = ap is_double_dot (sym (back-written old folders segment start w s)) ∙ dots in (
      sym (ap (λ t. t || is_double_dot segment) not_dot ∙ is),
      by_folders folders w.all (m ∙ front-written old folders segment start w s)
          ∙ sym (ap (λ t. folders_text (if t then folders else (if is_double_dot segment then drop 1 folders else segment ∷ folders))) not_dot
          ∙ ap (λ t. folders_text (if t then drop 1 folders else segment ∷ folders)) is),
    )
  where
    by_folders : (f : List (List ℕ)) → AllByRecursion IsSegment f → middle ≡ folders_text f → new ≡ folders_text (drop 1 f)
    by_folders [] plain e = top e
    by_folders (folder ∷ above) plain e = removed folder above plain e

pub ends-other : (old : List ℕ) (folders : List (List ℕ)) (segment : List ℕ) (start : ℕ) → IsWritten old folders segment → start ≡ start_of old
    → is_dot (drop start old) ≡ false → is_double_dot (drop start old) ≡ false → EndsSegment folders segment false old old
ends-other old folders segment start w s not_one not_two =
    let not_dot = ap is_dot (sym (back-written old folders segment start w s)) ∙ not_one in
    let not_double = ap is_double_dot (sym (back-written old folders segment start w s)) ∙ not_two in
    (sym (ap (λ t. t || is_double_dot segment) not_dot ∙ not_double), refl)

-- ---- a byte more

folders-plain : (folders : List (List ℕ)) (segment : List ℕ) → AllByRecursion IsSegment folders → IsSegment segment → AllByRecursion IsSegment (folders_with folders segment)
folders-plain folders segment plain here = by_tests (is_dot segment) (is_double_dot segment)
  where
    above : (f : List (List ℕ)) → AllByRecursion IsSegment f → AllByRecursion IsSegment (drop 1 f)
    above [] p = p
    above (folder ∷ f) p = p.1

    by_tests : (t u : Bool) → AllByRecursion IsSegment (if t then folders else (if u then drop 1 folders else segment ∷ folders))
    by_tests true u = plain
    by_tests false true = above folders plain
    by_tests false false = (here, plain)

-- the folders behind a segment that stands for none
folders-other : (folders : List (List ℕ)) (segment : List ℕ) → false ≡ is_dot_segment segment → folders_with folders segment ≡ segment ∷ folders
folders-other folders segment e = by_tests (is_dot segment) (is_double_dot segment) (sym e)
  where
    by_tests : (t u : Bool) → (t || u) ≡ false → (if t then folders else (if u then drop 1 folders else segment ∷ folders)) ≡ segment ∷ folders
    by_tests true u f = absurd (cc)
    by_tests false true f = absurd (cc)
    by_tests false false f = refl

pub written-dots : (old new : List ℕ) (folders : List (List ℕ)) (segment : List ℕ) → IsWritten old folders segment
    → EndsSegment folders segment true old new → IsWritten new (folders_with folders segment) []
written-dots old new folders segment w e = record {
  is = e.1 ∙ sym (append-nil (folders_text (folders_with folders segment)));
  all = folders-plain folders segment w.all w.last;
  last = All-nil (λ byte. is_slash byte ≡ false);
}

pub written-slash : (old middle new : List ℕ) (folders : List (List ℕ)) (segment : List ℕ) → IsWritten old folders segment
    → EndsSegment folders segment false old middle → new ≡ middle ++ 47 ∷ [] → IsWritten new (folders_with folders segment) []
written-slash old middle new folders segment w e n = record {
  is = n ∙ ap (λ xs. xs ++ 47 ∷ []) (e.1 ∙ w.is) ∙ ap folders_text (sym (folders-other folders segment e.0))
      ∙ sym (append-nil (folders_text (folders_with folders segment)));
  all = folders-plain folders segment w.all w.last;
  last = All-nil (λ byte. is_slash byte ≡ false);
}

pub after-slash : (byte : ℕ) (new : List ℕ) (folders : List (List ℕ)) (segment : List ℕ) → byte ≡ 47
    → IsWritten new (folders_with folders segment) [] → IsWritten new (folders_after byte folders segment) (segment_after byte segment)
after-slash byte new folders segment e w = subst (λ b. IsWritten new (folders_after b folders segment) (segment_after b segment)) (sym e) w

pub after-other : (byte : ℕ) (old new : List ℕ) (folders : List (List ℕ)) (segment : List ℕ) → is_slash byte ≡ false
    → IsWritten old folders segment → new ≡ old ++ byte ∷ [] → IsWritten new (folders_after byte folders segment) (segment_after byte segment)
after-other byte old new folders segment e w n = record {
  is = n ∙ ap (λ xs. xs ++ byte ∷ []) w.is ∙ append_assoc (folders_text folders) segment (byte ∷ [])
      ∙ sym (ap (λ t. folders_text (if t then folders_with folders segment else folders) ++ (if t then [] else segment ++ byte ∷ [])) e);
  all = subst (λ t. AllByRecursion IsSegment (if t then folders_with folders segment else folders)) (sym e) w.all;
  last = subst (λ t. IsSegment (if t then [] else segment ++ byte ∷ [])) (sym e)
      (All-append (λ b. is_slash b ≡ false) segment (byte ∷ []) w.last (All-cons (λ b. is_slash b ≡ false) byte [] e (All-nil (λ b. is_slash b ≡ false))));
}

-- ---- the whole path

-- there is at least one segment
split-some : (bytes : List ℕ) → (first : List ℕ) × (more : List (List ℕ)) × (slice_split is_slash bytes ≡ first ∷ more)
split-some [] = ([], [], refl)
split-some (byte ∷ bytes) = by_test (is_slash byte) (split-some bytes)
  where
    by_test : (t : Bool) → ((first : List ℕ) × (more : List (List ℕ)) × (slice_split is_slash bytes ≡ first ∷ more))
        → (first : List ℕ) × (more : List (List ℕ)) × ((if t then [] ∷ slice_split is_slash bytes else onto_first byte (slice_split is_slash bytes)) ≡ first ∷ more)
    by_test true later = ([], slice_split is_slash bytes, refl)
    by_test false later = (byte ∷ later.0, later.1, ap (onto_first byte) later.2)

through-segment : (folders : List (List ℕ)) (segment bytes : List ℕ)
    → path_through folders (segment ∷ slice_split is_slash bytes) ≡ path_through (folders_with folders segment) (slice_split is_slash bytes)
through-segment folders segment bytes =
    let some = split-some bytes in
    ap (λ s. path_through folders (segment ∷ s)) some.2 ∙ ap (path_through (folders_with folders segment)) (sym some.2)

-- a byte that was put is one that is no longer to come
pub through-byte : (byte : ℕ) (folders : List (List ℕ)) (segment rest : List ℕ) → IsSegment segment
    → path_through (folders_after byte folders segment) (slice_split is_slash (segment_after byte segment ++ rest))
    ≡ path_through folders (slice_split is_slash (segment ++ byte ∷ rest))
through-byte byte folders segment rest plain = by_test (is_slash byte) refl
  where
    by_test : (t : Bool) → is_slash byte ≡ t
        → path_through (if t then folders_with folders segment else folders) (slice_split is_slash ((if t then [] else segment ++ byte ∷ []) ++ rest))
        ≡ path_through folders (slice_split is_slash (segment ++ byte ∷ rest))
    by_test true e = sym (ap (path_through folders) (slice_split_at is_slash segment byte rest plain e) ∙ through-segment folders segment rest)
    by_test false e = ap (λ s. path_through folders (slice_split is_slash s)) (append_assoc segment (byte ∷ []) rest)

pub through-none : (bytes : List ℕ) → path_through [] (slice_split is_slash ([] ++ bytes)) ≡ without_dot_segments bytes
unfolding without_dot_segments
through-none bytes = refl

pub written-none : IsWritten [] [] []
written-none = record { is = refl; all = tt; last = All-nil (λ byte. is_slash byte ≡ false) }

-- the last segment ends
pub through-last : (old new : List ℕ) (folders : List (List ℕ)) (segment : List ℕ) (was_dots : Bool) → IsWritten old folders segment
    → EndsSegment folders segment was_dots old new → new ≡ path_through folders (slice_split is_slash (segment ++ []))
through-last old new folders segment was_dots w e =
    e.1 ∙ ap (λ t. if t then folders_text (folders_with folders segment) else old) e.0
    ∙ ap (λ xs. if is_dot_segment segment then folders_text (folders_with folders segment) else xs) w.is
    ∙ sym (ap (λ s. path_through folders (slice_split is_slash s)) (append-nil segment)
    ∙ ap (path_through folders) (slice_split_none is_slash segment w.last))

-- ---- decoding makes nothing longer

pub length-decoded : (bytes : List ℕ) → length (percent_decode bytes) ≤ length bytes
unfolding percent_decode
length-decoded [] = omega arith
length-decoded (a ∷ []) = omega arith
length-decoded (a ∷ b ∷ []) = omega arith
length-decoded (a ∷ b ∷ c ∷ bytes) = by_test (is_escape a b c) (length-decoded bytes) (length-decoded (b ∷ c ∷ bytes))
  where
    by_test : (t : Bool) → length (percent_decode bytes) ≤ length bytes → length (percent_decode (b ∷ c ∷ bytes)) ≤ length (b ∷ c ∷ bytes)
        → length (if t then (16 * digit_value b + digit_value c) ∷ percent_decode bytes else a ∷ percent_decode (b ∷ c ∷ bytes)) ≤ length (a ∷ b ∷ c ∷ bytes)
    by_test true escaped plain = omega arith
    by_test false escaped plain = omega arith
