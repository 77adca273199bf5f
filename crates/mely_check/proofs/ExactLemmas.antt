-- A text goes wrong once at most, and a journal doesn't.
use Rattle.std.proofs.Common.{◌≡◌, ℕ, ◌+◌, ◌<◌, ◌⊎◌, Bool, true, false, cond, eqb, true-eqb, List, [], ◌∷◌, ◌++◌, length, refl, sym, ap, subst, ◌∙◌, arith, append_assoc, inl, inr}
use Rattle.std.specs.List.{flat_map, AllByRecursion}
use Rattle.std.proofs.lemmas.Bool.{cases_order}
use Rattle.mely_history.specs.declared.entry.Entry.{Entry}
use Rattle.mely_journal.specs.Journal.{entry_line, shard_line, shard_text, journal_from}
use Rattle.mely_check.specs.Journals.{IsFit, IsFitHistory, HasNoFeed, IsLine, IsJournal, BeginsJournal, IsFirstOutside, IsRead, join_lines, entries_in, line_limit}
use Rattle.mely_check.proofs.ReadingLemmas.{tail_is}
use Rattle.mely_check.proofs.LineLemmas.{line_same, IsLine-entry, IsLine-shard}

-- ---- the lines of a text

cancel_front : (a x y : List ℕ) → a ++ x ≡ a ++ y → x ≡ y
cancel_front [] x y same = same
cancel_front (b ∷ a) x y same = cancel_front a x y (tail_is b b (a ++ x) (a ++ y) same)

rest_same : (a b x y : List ℕ) → a ≡ b → a ++ x ≡ b ++ y → x ≡ y
rest_same a b x y same whole = cancel_front b x y (ap (λ t. t ++ x) (sym same) ∙ whole)

-- the line behind the first ones, where there are more
record Further (lines more : List (List ℕ)) (rest : List ℕ) : Type 0 where
  pub line : List ℕ
  pub later : List ℕ
  pub behind : List ℕ
  pub is_line : IsLine line
  pub is : rest ≡ line ++ later
  pub front : join_lines more ≡ (join_lines lines ++ line) ++ behind

further : (lines more : List (List ℕ)) (rest other : List ℕ) → AllByRecursion IsLine lines → AllByRecursion IsLine more → length lines < length more → join_lines lines ++ rest ≡ join_lines more ++ other → Further lines more rest
further [] [] rest other are are' few same = absurd (omega arith)
further [] (l ∷ more) rest other are are' few same = record {
  line = l;
  later = join_lines more ++ other;
  behind = join_lines more;
  is_line = are'.0;
  is = same ∙ append_assoc l (join_lines more) other;
  front = refl;
}
further (k ∷ lines) [] rest other are are' few same = absurd (omega arith)
further (k ∷ lines) (l ∷ more) rest other are are' few same =
    let whole : k ++ (join_lines lines ++ rest) ≡ l ++ (join_lines more ++ other) = sym (append_assoc k (join_lines lines) rest) ∙ same ∙ append_assoc l (join_lines more) other in
    let first : k ≡ l = line_same k l (join_lines lines ++ rest) (join_lines more ++ other) are.0 are'.0 whole in
    let f = further lines more rest other are.1 are'.1 (omega arith) (rest_same k l (join_lines lines ++ rest) (join_lines more ++ other) first whole) in
    record {
      line = f.line;
      later = f.later;
      behind = f.behind;
      is_line = f.is_line;
      is = f.is;
      front = ap (λ t. l ++ t) f.front
          ∙ sym (append_assoc l (join_lines lines ++ f.line) f.behind)
          ∙ ap (λ t. t ++ f.behind) (sym (append_assoc l (join_lines lines) f.line) ∙ ap (λ h. (h ++ join_lines lines) ++ f.line) (sym first));
    }

-- ---- once

-- a front of what begins a journal begins one
begins_front : (shards : ℕ) (front behind : List ℕ) → BeginsJournal shards (front ++ behind) → BeginsJournal shards front
begins_front shards front behind begins = record { more = behind ++ begins.more; is = subst (IsJournal shards) (append_assoc front behind begins.more) begins.is }

not_before : (shards : ℕ) (text : List ℕ) (one other : ℕ) → (a : IsFirstOutside shards text one) → (b : IsFirstOutside shards text other) → length a.lines < length b.lines → ⊥
not_before shards text one other a b few =
    let f = further a.lines b.lines a.rest b.rest a.are b.are few (sym a.is ∙ b.is) in
    let counted = a.counted in
    let within = b.within in
    a.outside f.line f.later f.is_line f.is (omega arith) (begins_front shards (join_lines a.lines ++ f.line) f.behind (subst (BeginsJournal shards) f.front b.begin))

pub outside_once : (shards : ℕ) (text : List ℕ) (one other : ℕ) → IsFirstOutside shards text one → IsFirstOutside shards text other → one ≡ other
outside_once shards text one other a b =
    elim (cases_order (length a.lines) (length b.lines)) [
      | inl same ↦ (let m = a.counted in let n = b.counted in omega arith)
      | inr differ ↦ elim differ [ inl less ↦ absurd (not_before shards text one other a b less) | inr more ↦ absurd (not_before shards text other one b a more) ]
    ]

-- ---- a journal

-- how many lines are ended
feeds : List ℕ → ℕ
feeds [] = 0
feeds (b ∷ bytes) = cond (eqb b 10) 1 0 + feeds bytes

feeds-append : (a b : List ℕ) → feeds (a ++ b) ≡ feeds a + feeds b
unfolding feeds
feeds-append [] b = omega arith
feeds-append (x ∷ a) b = let rest = feeds-append a b in omega (arith, rest)

feeds-none : (bytes : List ℕ) → HasNoFeed bytes → feeds bytes ≡ 0
unfolding feeds
feeds-none [] none = refl
feeds-none (b ∷ bytes) none = by_test (eqb b 10) refl (feeds-none bytes none.1)
  where
    by_test : (t : Bool) → t ≡ eqb b 10 → feeds bytes ≡ 0 → cond t 1 0 + feeds bytes ≡ 0
    by_test true e rest = absurd (none.0 (true-eqb b 10 e))
    by_test false e rest = omega (arith, rest)

feeds-line : (line : List ℕ) → IsLine line → feeds line ≡ 1
unfolding feeds
feeds-line line is =
    let front = feeds-none is.front is.no_feed in
    let whole = ap (λ t. feeds t) is.is in
    omega (arith, front, whole, feeds-append is.front (10 ∷ []))

feeds-joined : (lines : List (List ℕ)) → AllByRecursion IsLine lines → feeds (join_lines lines) ≡ length lines
unfolding feeds
feeds-joined [] are = refl
feeds-joined (l ∷ lines) are = let first = feeds-line l are.0 in let rest = feeds-joined lines are.1 in omega (arith, first, rest, feeds-append l (join_lines lines))

feeds-entries : (h : List Entry) → AllByRecursion IsFit h → feeds (flat_map entry_line h) ≡ length h
unfolding feeds
feeds-entries [] fit = refl
feeds-entries (e ∷ h) fit =
    let first = feeds-line (entry_line e) (IsLine-entry e fit.0) in
    let rest = feeds-entries h fit.1 in
    omega (arith, first, rest, feeds-append (entry_line e) (flat_map entry_line h))

feeds-journal : (number : ℕ) (hs : List (List Entry)) → number + length hs < 65536 → AllByRecursion IsFitHistory hs → feeds (journal_from number hs) ≡ length hs + entries_in hs
unfolding feeds
feeds-journal number [] few fit = refl
feeds-journal number (h ∷ hs) few fit =
    let line = feeds-line (shard_line number (length h)) (IsLine-shard number (length h) (omega arith) fit.0.1) in
    let entries = feeds-entries h fit.0.0 in
    let rest = feeds-journal (number + 1) hs (omega arith) fit.1 in
    omega (arith, line, entries, rest, feeds-append (shard_text number h) (journal_from (number + 1) hs), feeds-append (shard_line number (length h)) (flat_map entry_line h))

-- bytes begin with a line, or no line is ended in them
first_line : (bytes : List ℕ) → ((line : List ℕ) × (later : List ℕ) × IsLine line × (bytes ≡ line ++ later)) ⊎ HasNoFeed bytes
first_line [] = inr tt
first_line (b ∷ bytes) = by_test (eqb b 10) refl (first_line bytes)
  where
    by_test : (t : Bool) → t ≡ eqb b 10 → ((line : List ℕ) × (later : List ℕ) × IsLine line × (bytes ≡ line ++ later)) ⊎ HasNoFeed bytes → ((line : List ℕ) × (later : List ℕ) × IsLine line × (b ∷ bytes ≡ line ++ later)) ⊎ HasNoFeed (b ∷ bytes)
    by_test true e more = inl (10 ∷ [], bytes, record { front = []; is = refl; no_feed = tt }, ap (λ c. c ∷ bytes) (true-eqb b 10 e))
    by_test false e (inl found) =
        inl (b ∷ found.0, found.1, record { front = b ∷ found.2.front; is = ap (λ t. b ∷ t) found.2.is; no_feed = (λ same. (let t = e ∙ ap (λ c. eqb c 10) same in cc), found.2.no_feed) }, ap (λ t. b ∷ t) found.3)
    by_test false e (inr none) = inr (λ same. (let t = e ∙ ap (λ c. eqb c 10) same in cc), none)

pub never_outside : (shards : ℕ) (text : List ℕ) (entries line : ℕ) → shards < 65536 → IsRead shards text entries → shards + entries < line_limit → IsFirstOutside shards text line → ⊥
never_outside shards text entries number few read within outside =
    let journal_is : IsJournal shards text = record { histories = read.histories; fit = read.fit; is = read.is } in
    elim (first_line outside.rest) [
      | inl found ↦
          let many = read.fit.many in
          let counted = outside.counted in
          let all = feeds-journal 0 read.histories (omega arith) read.fit.fit in
          let same = ap (λ t. feeds t) (sym read.is ∙ outside.is ∙ ap (λ t. join_lines outside.lines ++ t) found.3) in
          let before = feeds-joined outside.lines outside.are in
          let one = feeds-line found.0 found.2 in
          let entries_are = read.counted in
          let low : number < line_limit = omega (arith, all, same, before, one, entries_are, feeds-append (join_lines outside.lines) (found.0 ++ found.1), feeds-append found.0 found.1) in
          outside.outside found.0 found.1 found.2 found.3 low (record {
            more = found.1;
            is = subst (IsJournal shards) (outside.is ∙ ap (λ t. join_lines outside.lines ++ t) found.3 ∙ sym (append_assoc (join_lines outside.lines) found.0 found.1)) journal_is;
          })
      | inr none ↦ outside.unended none journal_is
    ]
