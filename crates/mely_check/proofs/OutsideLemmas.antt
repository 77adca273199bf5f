-- Which line is the first outside.
use Rattle.std.proofs.Common.{◌≡◌, ℕ, ◌<◌, ◌≤◌, List, [], ◌∷◌, ◌++◌, length, refl, sym, ap, subst, ◌∙◌, arith, append_assoc, append-nil, length-append, inl, inr}
use Rattle.std.proofs.lemmas.Bool.{cases_lt}
use Rattle.mely_journal.specs.Journal.{entry_line, shard_line}
use Rattle.mely_check.specs.Journals.{HasNoFeed, IsLine, IsJournal, BeginsJournal, IsFirstOutside, join_lines, line_limit}
use Rattle.mely_check.specs.Walks.{IsAt, MayNotStand}
use Rattle.mely_check.specs.declared.place.Place.{Place}
use Rattle.mely_check.proofs.ReadingLemmas.{head_is, tail_is}
use Rattle.mely_check.proofs.LineLemmas.{line_same, IsLine-entry, IsLine-shard, length-entry_line, length-shard_line}
use Rattle.mely_check.proofs.StepLemmas.{goes_behind, refused}
use Rattle.mely_check.proofs.BeginLemmas.{at_begins}

-- bytes without a LF stand before the first one
before_feed : (a f x y : List ℕ) → HasNoFeed a → a ++ x ≡ f ++ 10 ∷ y → length a ≤ length f
before_feed [] f x y none is = omega arith
before_feed (b ∷ a) [] x y none is = absurd (none.0 (head_is b 10 (a ++ x) y is))
before_feed (b ∷ a) (c ∷ f) x y none is = let rest = before_feed a f x y none.1 (tail_is b c (a ++ x) (f ++ 10 ∷ y) is) in omega arith

-- a line that is longer than those bytes
longer_line : (a x line later : List ℕ) → HasNoFeed a → IsLine line → a ++ x ≡ line ++ later → length a < length line
longer_line a x line later none is same =
    let whole : a ++ x ≡ is.front ++ 10 ∷ later = same ∙ ap (λ t. t ++ later) is.is ∙ append_assoc is.front (10 ∷ []) later in
    let front = before_feed a is.front x later none whole in
    let long = ap (λ t. length t) is.is in
    omega (arith, front, long, length-append is.front (10 ∷ []))

-- bytes without a LF begin with no line
pub no_line : (rest line later : List ℕ) → HasNoFeed rest → IsLine line → rest ≡ line ++ later → ⊥
no_line rest line later none is same =
    let long = longer_line rest [] line later none is (append-nil rest ∙ same) in
    let all = ap (λ t. length t) same in
    omega (arith, long, all, length-append line later)

-- behind the lines that were read, bytes without a LF end no journal, unless all
-- was read and they are none
unended_text : (lines : List (List ℕ)) (place : Place) (rest : List ℕ) → place.shards < 65536 → place.begun ≤ place.shards → IsAt lines place → HasNoFeed rest → (place.left ≡ 0 → place.begun ≡ place.shards → rest ≡ [] → ⊥)
    → IsJournal place.shards (join_lines lines ++ rest) → ⊥
unended_text lines place rest few begun at none not_whole journal_is =
    let next = goes_behind lines place rest few begun at journal_is in
    elim (cases_lt 0 place.left) [
      | inl some ↦
          let e = next.entry some in no_line rest (entry_line e.entry) e.rest none (IsLine-entry e.entry e.fit) e.is
      | inr none_left ↦
          elim (cases_lt place.begun place.shards) [
            | inl below ↦
                let s = next.shard (omega arith) below in no_line rest (shard_line place.begun s.count) s.rest none (IsLine-shard place.begun s.count (omega arith) s.small) s.is
            | inr all ↦ not_whole (omega arith) (omega arith) (next.nothing (omega arith) (omega arith))
          ]
    ]

-- the line that is being read is the first outside
pub outside_by : (lines : List (List ℕ)) (place : Place) (text rest : List ℕ) → place.shards < 65536 → place.begun ≤ place.shards → place.number ≤ 4294967295 → IsAt lines place → text ≡ join_lines lines ++ rest
    → ((line later : List ℕ) → IsLine line → rest ≡ line ++ later → place.number < line_limit → BeginsJournal place.shards (join_lines lines ++ line) → ⊥)
    → (HasNoFeed rest → place.left ≡ 0 → place.begun ≡ place.shards → rest ≡ [] → ⊥) → IsFirstOutside place.shards text place.number
outside_by lines place text rest few begun limit at is no_next not_whole = record {
  lines = lines;
  rest = rest;
  is = is;
  are = at.are;
  counted = at.number;
  within = let counted = at.number in omega arith;
  begin = at_begins lines place begun at;
  outside = no_next;
  unended = λ none journal_is. unended_text lines place rest few begun at none (not_whole none) (subst (IsJournal place.shards) is journal_is);
}

-- a line of more than 64 bytes is none of a journal
pub outside_long : (lines : List (List ℕ)) (place : Place) (text long later : List ℕ) → place.shards < 65536 → place.begun ≤ place.shards → place.number ≤ 4294967295 → IsAt lines place → text ≡ join_lines lines ++ long → HasNoFeed long
    → length long ≡ 64 → IsFirstOutside place.shards (text ++ later) place.number
outside_long lines place text long later few begun limit at is none size =
    outside_by lines place (text ++ later) (long ++ later) few begun limit at (ap (λ t. t ++ later) is ∙ append_assoc (join_lines lines) long later)
    (λ line behind is_line same within.
    let longer = longer_line long later line behind none is_line same in
    refused lines place line few begun at is_line
    (λ some e fit says. let short = length-entry_line e fit in let size' = ap (λ t. length t) says in omega (arith, longer, short, size'))
    (λ none below count small says. let short = length-shard_line place.begun count (omega arith) small in let size' = ap (λ t. length t) says in omega (arith, longer, short, size')))
    (λ open_rest none_left all empty.
    let sum = length-append long later in
    let nothing = ap (λ t. length t) empty in
    omega (arith, sum, nothing))

-- a line that may not stand
pub outside_line : (lines : List (List ℕ)) (place : Place) (text line later : List ℕ) → place.shards < 65536 → place.begun ≤ place.shards → place.number ≤ 4294967295 → IsAt lines place → text ≡ join_lines lines ++ line → IsLine line
    → MayNotStand lines line place → IsFirstOutside place.shards (text ++ later) place.number
outside_line lines place text line later few begun limit at is is_line never =
    outside_by lines place (text ++ later) (line ++ later) few begun limit at (ap (λ t. t ++ later) is ∙ append_assoc (join_lines lines) line later)
    (λ other behind is_other same within begins.
    never within (subst (λ l. BeginsJournal place.shards (join_lines lines ++ l)) (line_same other line behind later is_other is_line (sym same)) begins))
    (λ open_rest none_left all empty. no_line (line ++ later) line later open_rest is_line refl)
