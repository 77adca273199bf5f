-- One line more.
use Rattle.std.proofs.Common.{◌≡◌, ◌≢◌, ℕ, ◌+◌, ◌-◌, ◌^◌, ◌<◌, ◌≤◌, Bool, true, false, List, [], ◌∷◌, ◌++◌, length, refl, sym, ap, subst, ◌∙◌, arith, append_assoc, append-nil, length-append, inl, inr}
use Rattle.std.specs.Prelude.{MatchBool}
use Rattle.std.specs.List.{flat_map}
use Rattle.std.proofs.lemmas.Bool.{cases_lt}
use Rattle.std.proofs.lemmas.Grind.{flat_map-append}
use Rattle.mely_history.specs.declared.entry.Entry.{Entry}
use Rattle.mely_history.specs.declared.entry.Entry.TheVariants.{Reg, Take, Fin, Steal}
use Rattle.mely_journal.specs.Journal.{entry_line, shard_line, journal}
use Rattle.mely_check.specs.Journals.{IsFit, IsFitHistory, IsLine, IsJournal, BeginsJournal, join_lines, entries_in}
use Rattle.mely_check.specs.Hearing.{Walk, start, within, begun_in, left_in, MayCome, with_line}
use Rattle.mely_check.specs.Walks.{walk_text, count_in, IsFitWalk, IsAt, MayStand, Moves, MayNotStand}
use Rattle.mely_check.specs.Reading.{Says as SaysLine}
use Rattle.mely_check.specs.declared.reading.Line.{Line}
use Rattle.mely_check.specs.declared.reading.Line.TheVariants as says_
use Rattle.mely_check.specs.declared.place.Place.{Place}
use Rattle.mely_check.proofs.WalkLemmas.{Next, goes_on, all_append, journal-push, shard_line-split}
use Rattle.mely_check.proofs.ReadingLemmas.{head_is, tail_is}
use Rattle.mely_check.proofs.LineLemmas.{line_same, some_line, joined-push, IsLine-entry, IsLine-shard}

-- ---- a line that may not stand

-- what is behind the lines that were read, where they and more are a journal
pub goes_behind : (lines : List (List ℕ)) (place : Place) (behind : List ℕ) → place.shards < 65536 → place.begun ≤ place.shards → IsAt lines place → IsJournal place.shards (join_lines lines ++ behind)
    → Next place.left place.begun place.shards behind
goes_behind lines place behind few begun at journal_is =
    let walk : Walk = at.walk in
    let next : Next (left_in walk) (begun_in walk) place.shards behind =
    goes_on place.shards journal_is.histories walk behind few (let b = at.begun in omega arith) journal_is.fit at.fit (sym journal_is.is ∙ ap (λ t. t ++ behind) at.is) in
    subst (λ b. Next place.left b place.shards behind) (sym at.begun) (subst (λ l. Next l (begun_in walk) place.shards behind) (sym at.left) next)

-- a line that is neither a next entry nor a next shard
pub refused : (lines : List (List ℕ)) (place : Place) (line : List ℕ) → place.shards < 65536 → place.begun ≤ place.shards → IsAt lines place → IsLine line
    → (0 < place.left → (e : Entry) → IsFit e → line ≡ entry_line e → ⊥)
    → (place.left ≡ 0 → place.begun < place.shards → (count : ℕ) → count < 2 ^ 64 → line ≡ shard_line place.begun count → ⊥)
    → BeginsJournal place.shards (join_lines lines ++ line) → ⊥
refused lines place line few begun at is no_entry no_shard begins =
    let whole : IsJournal place.shards (join_lines lines ++ (line ++ begins.more)) = subst (IsJournal place.shards) (append_assoc (join_lines lines) line begins.more) begins.is in
    let next = goes_behind lines place (line ++ begins.more) few begun at whole in
    elim (cases_lt 0 place.left) [
      | inl some ↦
          let e = next.entry some in
          no_entry some e.entry e.fit (line_same line (entry_line e.entry) begins.more e.rest is (IsLine-entry e.entry e.fit) e.is)
      | inr none ↦
          elim (cases_lt place.begun place.shards) [
            | inl below ↦
                let s = next.shard (omega arith) below in
                no_shard (omega arith) below s.count s.small (line_same line (shard_line place.begun s.count) begins.more s.rest is (IsLine-shard place.begun s.count (omega arith) s.small) s.is)
            | inr all ↦ some_line line begins.more is (next.nothing (omega arith) (omega arith))
          ]
    ]

-- ---- a line that may

shard_walk : Walk → ℕ → Walk
shard_walk start count = within [] [] count
shard_walk (within done last left) count = within (done ++ last ∷ []) [] count

entry_walk : Walk → Entry → ℕ → Walk
entry_walk start e left = start
entry_walk (within done last before) e left = within done (last ++ e ∷ []) left

pub entries_in-push : (done : List (List Entry)) (last : List Entry) → entries_in (done ++ last ∷ []) ≡ entries_in done + length last
entries_in-push [] last = omega arith
entries_in-push (h ∷ done) last = let rest = entries_in-push done last in omega (arith, rest)

shard_walk-text : (walk : Walk) (count : ℕ) → left_in walk ≡ 0 → walk_text (shard_walk walk count) ≡ walk_text walk ++ shard_line (begun_in walk) count
unfolding shard_walk
shard_walk-text start count none =
    append-nil (shard_line 0 (0 + count)) ∙ ap (shard_line 0) (let same : 0 + count ≡ count = omega arith in same)
shard_walk-text (within done last left) count none =
    let long : length (done ++ last ∷ []) ≡ length done + 1 = length-append done (last ∷ []) in
    let same : 0 + count ≡ count = omega arith in
    let whole : length last ≡ length last + left = omega arith in
    let text = flat_map entry_line last in
    ap (λ t. journal (done ++ last ∷ []) ++ t) (append-nil (shard_line (length (done ++ last ∷ [])) (0 + count)))
    ∙ (λ i. journal (done ++ last ∷ []) ++ shard_line (long i) (same i))
    ∙ ap (λ t. t ++ shard_line (length done + 1) count) (journal-push done last)
    ∙ ap (λ n. (journal done ++ (shard_line (length done) n ++ text)) ++ shard_line (length done + 1) count) whole

shard_walk-fit : (walk : Walk) (count : ℕ) → IsFitWalk walk → count < 2 ^ 64 → IsFitWalk (shard_walk walk count)
unfolding shard_walk
shard_walk-fit start count fit small = (tt, tt, omega arith)
shard_walk-fit (within done last left) count fit small =
    (all_append IsFitHistory done (last ∷ []) fit.0 ((fit.1, (let few = fit.2 in omega arith)), tt), tt, omega arith)

shard_walk-begun : (walk : Walk) (count : ℕ) → begun_in (shard_walk walk count) ≡ begun_in walk + 1
unfolding shard_walk
shard_walk-begun start count = refl
shard_walk-begun (within done last left) count = ap (λ n. n + 1) (length-append done (last ∷ []))

shard_walk-left : (walk : Walk) (count : ℕ) → left_in (shard_walk walk count) ≡ count
unfolding shard_walk
shard_walk-left start count = refl
shard_walk-left (within done last left) count = refl

shard_walk-count : (walk : Walk) (count : ℕ) → count_in (shard_walk walk count) ≡ count_in walk
unfolding shard_walk
shard_walk-count start count = refl
shard_walk-count (within done last left) count = let more = entries_in-push done last in omega (arith, more)

shard_walk-goes : (walk : Walk) (number count : ℕ) → shard_walk walk count ≡ with_line walk (says_.Shard number count)
unfolding shard_walk
shard_walk-goes start number count = refl
shard_walk-goes (within done last left) number count = refl

-- the line of the next shard
pub at_shard : (lines : List (List ℕ)) (line : List ℕ) (before after : Place) (count : ℕ) → (at : IsAt lines before) → IsLine line → line ≡ shard_line before.begun count → count < 2 ^ 64 → before.left ≡ 0 → Moves before after (before.begun + 1) count before.entries
    → MayStand lines line before at after (says_.Shard before.begun count)
at_shard lines line before after count at is says small none moves =
    let walk : Walk = at.walk in
    let number = moves.number in
    let counted = at.number in
    let long = length-append lines (line ∷ []) in
    record {
      may = (sym at.left ∙ none, at.begun, small);
      goes = shard_walk-goes at.walk before.begun count;
      next = record {
        walk = shard_walk walk count;
        is = joined-push lines line ∙ ap (λ t. t ++ line) at.is ∙ ap (λ t. walk_text walk ++ t) (says ∙ ap (λ n. shard_line n count) at.begun) ∙ sym (shard_walk-text walk count (sym at.left ∙ none));
        are = all_append IsLine lines (line ∷ []) at.are (is, tt);
        fit = shard_walk-fit walk count at.fit small;
        begun = moves.begun_is ∙ ap (λ n. n + 1) at.begun ∙ sym (shard_walk-begun walk count);
        left = moves.left_is ∙ sym (shard_walk-left walk count);
        entries = moves.entries_are ∙ at.entries ∙ sym (shard_walk-count walk count);
        number = omega (arith, number, counted, long);
        counted = (let lines_are = at.counted in let more = shard_walk-begun walk count in let same = shard_walk-count walk count in omega (arith, long, lines_are, more, same));
      };
    }

entry_walk-text : (walk : Walk) (e : Entry) (left : ℕ) → 0 < left_in walk → left ≡ left_in walk - 1 → walk_text (entry_walk walk e left) ≡ walk_text walk ++ entry_line e
unfolding entry_walk
entry_walk-text start e left some less = absurd (omega arith)
entry_walk-text (within done last before) e left some less =
    let long = length-append last (e ∷ []) in
    let same : length (last ++ e ∷ []) + left ≡ length last + before = omega (arith, long) in
    let line = shard_line (length done) (length last + before) in
    ap (λ n. journal done ++ (shard_line (length done) n ++ flat_map entry_line (last ++ e ∷ []))) same
    ∙ ap (λ t. journal done ++ (line ++ t)) (flat_map-append entry_line last (e ∷ []) ∙ ap (λ t. flat_map entry_line last ++ t) (append-nil (entry_line e)))
    ∙ ap (λ t. journal done ++ t) (sym (append_assoc line (flat_map entry_line last) (entry_line e)))
    ∙ sym (append_assoc (journal done) (line ++ flat_map entry_line last) (entry_line e))

entry_walk-fit : (walk : Walk) (e : Entry) (left : ℕ) → IsFitWalk walk → IsFit e → 0 < left_in walk → left ≡ left_in walk - 1 → IsFitWalk (entry_walk walk e left)
unfolding entry_walk
entry_walk-fit start e left fit one some less = absurd (omega arith)
entry_walk-fit (within done last before) e left fit one some less =
    let long = length-append last (e ∷ []) in
    let few = fit.2 in
    (fit.0, all_append IsFit last (e ∷ []) fit.1 (one, tt), omega (arith, long))

entry_walk-begun : (walk : Walk) (e : Entry) (left : ℕ) → begun_in (entry_walk walk e left) ≡ begun_in walk
unfolding entry_walk
entry_walk-begun start e left = refl
entry_walk-begun (within done last before) e left = refl

entry_walk-left : (walk : Walk) (e : Entry) (left : ℕ) → 0 < left_in walk → left_in (entry_walk walk e left) ≡ left
unfolding entry_walk
entry_walk-left start e left some = absurd (omega arith)
entry_walk-left (within done last before) e left some = refl

entry_walk-count : (walk : Walk) (e : Entry) (left : ℕ) → 0 < left_in walk → count_in (entry_walk walk e left) ≡ count_in walk + 1
unfolding entry_walk
entry_walk-count start e left some = absurd (omega arith)
entry_walk-count (within done last before) e left some = let long = length-append last (e ∷ []) in omega (arith, long)

entry_walk-goes : (walk : Walk) (e : Entry) (left : ℕ) → left ≡ left_in walk - 1 → entry_walk walk e left ≡ with_line walk (says_.Entry e)
unfolding entry_walk
entry_walk-goes start e left less = refl
entry_walk-goes (within done last before) e left less = ap (λ n. within done (last ++ e ∷ []) n) less

-- the line of an entry
at_entry : (lines : List (List ℕ)) (line : List ℕ) (before after : Place) (e : Entry) → (at : IsAt lines before) → IsLine line → line ≡ entry_line e → IsFit e → 0 < before.left → Moves before after before.begun (before.left - 1) (before.entries + 1)
    → MayStand lines line before at after (says_.Entry e)
at_entry lines line before after e at is says fit some moves =
    let walk : Walk = at.walk in
    let number = moves.number in
    let counted = at.number in
    let long = length-append lines (line ∷ []) in
    let left_is : before.left ≡ left_in walk = at.left in
    let some' : 0 < left_in walk = omega arith in
    let less : before.left - 1 ≡ left_in walk - 1 = omega arith in
    record {
      may = (some', fit);
      goes = entry_walk-goes at.walk e (before.left - 1) less;
      next = record {
        walk = entry_walk walk e (before.left - 1);
        is = joined-push lines line ∙ ap (λ t. t ++ line) at.is ∙ ap (λ t. walk_text walk ++ t) says ∙ sym (entry_walk-text walk e (before.left - 1) some' less);
        are = all_append IsLine lines (line ∷ []) at.are (is, tt);
        fit = entry_walk-fit walk e (before.left - 1) at.fit fit some' less;
        begun = moves.begun_is ∙ at.begun ∙ sym (entry_walk-begun walk e (before.left - 1));
        left = moves.left_is ∙ sym (entry_walk-left walk e (before.left - 1) some');
        entries = moves.entries_are ∙ ap (λ n. n + 1) at.entries ∙ sym (entry_walk-count walk e (before.left - 1) some');
        number = omega (arith, number, counted, long);
        counted = (
            let lines_are = at.counted in
            let same = entry_walk-begun walk e (before.left - 1) in
            let more = entry_walk-count walk e (before.left - 1) some' in omega (arith, long, lines_are, more, same)
            );
      };
    }

-- ---- what a step does

no_head : (c d : ℕ) (x y : List ℕ) → c ≢ d → c ∷ x ≡ d ∷ y → ⊥
no_head c d x y not e = not (head_is c d x y e)

entry_not_shard : (e : Entry) (number count : ℕ) → entry_line e ≡ shard_line number count → ⊥
entry_not_shard (Reg c event by) number count is = no_head 114 115 _ _ (λ s. omega arith) is
entry_not_shard (Take c core n) number count is = no_head 116 115 _ _ (λ s. omega arith) is
entry_not_shard (Fin c core n) number count is = no_head 102 115 _ _ (λ s. omega arith) is
entry_not_shard (Steal c from to) number count is = no_head 116 104 _ _ (λ s. omega arith) (tail_is 115 115 _ _ is)

same_shard : (m n a b : ℕ) → m < 65536 → n < 65536 → a < 2 ^ 64 → b < 2 ^ 64 → shard_line m a ≡ shard_line n b → m ≡ n
same_shard m n a b few few' small small' is = (shard_line-split m n a b [] [] (omega arith) (omega arith) small small' (ap (λ t. t ++ []) is)).0

pub shard_step : (lines : List (List ℕ)) (before after : Place) (line : List ℕ) (number count : ℕ) (result : Bool) → before.shards < 65536 → before.begun ≤ before.shards → IsLine line → SaysLine line (says_.Shard number count)
    → MatchBool result ((before.left ≡ 0) × (number ≡ before.begun) × (before.begun < before.shards) × Moves before after (before.begun + 1) count before.entries)
    ((after ≡ before) × (before.left ≡ 0 → number ≡ before.begun → before.begun < before.shards → ⊥))
    → (at : IsAt lines before) → MatchBool result (MayStand lines line before at after (says_.Shard number count)) (MayNotStand lines line before)
shard_step lines before after line number count true few begun is says did at =
    subst (λ n. MayStand lines line before at after (says_.Shard n count)) (sym did.1)
    (at_shard lines line before after count at is (says.0 ∙ ap (λ n. shard_line n count) did.1) says.2 did.0 did.3)
shard_step lines before after line number count false few begun is says did at =
    λ within begins.
    refused lines before line few begun at is (λ some e fit same. entry_not_shard e number count (sym same ∙ says.0))
    (λ none below other small same. did.1 none (same_shard number before.begun count other says.1 (omega arith) says.2 small (sym says.0 ∙ same)) below) begins

pub entry_step : (lines : List (List ℕ)) (before after : Place) (line : List ℕ) (e : Entry) (result : Bool) → before.shards < 65536 → before.begun ≤ before.shards → IsLine line → SaysLine line (says_.Entry e)
    → MatchBool result ((0 < before.left) × Moves before after before.begun (before.left - 1) (before.entries + 1)) ((after ≡ before) × (before.left ≡ 0))
    → (at : IsAt lines before) → MatchBool result (MayStand lines line before at after (says_.Entry e)) (MayNotStand lines line before)
entry_step lines before after line e true few begun is says did at = at_entry lines line before after e at is says.0 says.1 did.0 did.1
entry_step lines before after line e false few begun is says did at =
    λ within begins.
    refused lines before line few begun at is (λ some f fit same. (let none = did.1 in omega arith)) (λ none below other small same. entry_not_shard e before.begun other (sym says.0 ∙ same)) begins

pub none_step : (lines : List (List ℕ)) (before : Place) (line : List ℕ) → before.shards < 65536 → before.begun ≤ before.shards → IsLine line → ((says : Line) → SaysLine line says → ⊥) → IsAt lines before → MayNotStand lines line before
none_step lines before line few begun is never at =
    λ within begins.
    refused lines before line few begun at is (λ some f fit same. never (says_.Entry f) (same, fit)) (λ none below count small same. never (says_.Shard before.begun count) (same, (omega arith), small)) begins
