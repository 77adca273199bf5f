-- Within the crate: how far a journal was read.
use Rattle.std.specs.Prelude.{◌≡◌, ℕ, ◌+◌, ◌^◌, ◌<◌, List, [], ◌∷◌, ◌++◌, length, ⊤}
use Rattle.std.specs.List.{flat_map, AllByRecursion}
use Rattle.mely_history.specs.declared.entry.Entry.{Entry}
use Rattle.mely_journal.specs.Journal.{entry_line, shard_line, journal}
use Rattle.mely_check.specs.Journals.{IsFit, IsFitHistory, IsLine, BeginsJournal, join_lines, entries_in, line_limit}
use Rattle.mely_check.specs.Hearing.{Walk, start, within, begun_in, left_in, MayCome, with_line}
use Rattle.mely_check.specs.declared.place.Place.{Place}
use Rattle.mely_check.specs.declared.reading.Line.{Line}

-- the text that was walked over
abbrev pub walk_text : Walk → List ℕ
walk_text start = []
walk_text (within done last left) =
    journal done ++ (shard_line (length done) (length last + left) ++ flat_map entry_line last)

-- how many entries were walked over
abbrev pub count_in : Walk → ℕ
count_in start = 0
count_in (within done last left) = entries_in done + length last

-- the numbers of what was walked over are within their ranges
abbrev pub IsFitWalk : Walk → Type 0
IsFitWalk start = ⊤
IsFitWalk (within done last left) = AllByRecursion IsFitHistory done × AllByRecursion IsFit last
    × (length last + left < 2 ^ 64)

-- the whole lines of the text were read, as the place says
pub record IsAt (lines : List (List ℕ)) (place : Place) : Type 0 where
  pub walk : Walk
  pub is : join_lines lines ≡ walk_text walk
  pub are : AllByRecursion IsLine lines
  pub fit : IsFitWalk walk
  pub begun : place.begun ≡ begun_in walk
  pub left : place.left ≡ left_in walk
  pub entries : place.entries ≡ count_in walk
  pub number : place.number ≡ length lines + 1
  pub counted : length lines ≡ begun_in walk + count_in walk

-- the line is no next one: with it the lines begin no journal, or it is one too many
abbrev pub MayNotStand : List (List ℕ) → List ℕ → Place → Type 0
MayNotStand lines line place = place.number < line_limit
    → BeginsJournal place.shards (join_lines lines ++ line) → ⊥

-- the line may stand next: with it the lines are read up to a place again, and what was walked over
-- goes on by what it says
pub record MayStand (lines : List (List ℕ)) (line : List ℕ) (before : Place)
    (at : IsAt lines before) (after : Place) (said : Line) : Type 0 where
  pub next : IsAt (lines ++ line ∷ []) after
  pub may : MayCome at.walk said
  pub goes : next.walk ≡ with_line at.walk said

-- a line was counted: then so many shards have begun, so many entries are left, and so many there
-- were
pub record Moves (before after : Place) (begun left entries : ℕ) : Type 0 where
  pub shards : after.shards ≡ before.shards
  pub begun_is : after.begun ≡ begun
  pub left_is : after.left ≡ left
  pub entries_are : after.entries ≡ entries
  pub number : after.number ≡ before.number + 1
