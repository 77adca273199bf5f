-- The texts that are journals, and where a text that is none goes wrong.
use Rattle.std.specs.Prelude.{◌≡◌, ◌≢◌, ℕ, ◌+◌, ◌^◌, ◌<◌, List, [], ◌∷◌, ◌++◌, length}
use Rattle.std.specs.List.{flat_map, AllByRecursion}
use Rattle.mely_history.specs.declared.entry.Entry.{Entry}
use Rattle.mely_history.specs.declared.entry.Entry.TheVariants.{Reg, Take, Fin, Steal}
use Rattle.mely_journal.specs.Journal.{journal}

-- the numbers of an entry are within their ranges
abbrev pub IsFit : Entry → Type 0
IsFit (Reg colour event by) = (colour.0 < 65536) × (event.handler < 256)
    × (event.arg < 65536) × (by < 65536)
IsFit (Take colour core count) = (colour.0 < 65536) × (core < 65536) × (count < 65536)
IsFit (Fin colour core count) = (colour.0 < 65536) × (core < 65536) × (count < 65536)
IsFit (Steal colour from to) = (colour.0 < 65536) × (from < 65536) × (to < 65536)

-- the numbers of a history are within their ranges
abbrev pub IsFitHistory : List Entry → Type 0
IsFitHistory history = AllByRecursion IsFit history × (length history < 2 ^ 64)

-- so many histories whose numbers are within their ranges
pub record AreFit (shards : ℕ) (histories : List (List Entry)) : Type 0 where
  pub many : length histories ≡ shards
  pub fit : AllByRecursion IsFitHistory histories

-- a text is the journal of so many histories, whose numbers are within their ranges
pub record IsJournal (shards : ℕ) (text : List ℕ) : Type 0 where
  pub histories : List (List Entry)
  pub fit : AreFit shards histories
  pub is : text ≡ journal histories

-- the text is a front of the journal of so many histories, or the whole of it
pub record BeginsJournal (shards : ℕ) (front : List ℕ) : Type 0 where
  pub more : List ℕ
  pub is : IsJournal shards (front ++ more)

-- how many entries there are
abbrev pub entries_in : List (List Entry) → ℕ
entries_in [] = 0
entries_in (history ∷ histories) = length history + entries_in histories

-- ---- where a text goes wrong

-- no byte is a LF
abbrev pub HasNoFeed : List ℕ → Type 0
HasNoFeed bytes = AllByRecursion (λ byte. byte ≢ 10) bytes

-- a line ends with its only LF
pub record IsLine (line : List ℕ) : Type 0 where
  pub front : List ℕ
  pub is : line ≡ front ++ 10 ∷ []
  pub no_feed : HasNoFeed front

-- the lines, one behind another
abbrev pub join_lines : List (List ℕ) → List ℕ
join_lines lines = flat_map (λ line. line) lines

-- the line of this number, the greatest of 32 bits, is outside whatever it says
abbrev pub line_limit : ℕ
line_limit = 4294967295

-- The line of this number, counted from 1, is the first outside: the lines before it begin a
-- journal, and with it they begin none, or it is one too many; and where the text ends before it
-- does, the text is no journal.
pub record IsFirstOutside (shards : ℕ) (text : List ℕ) (number : ℕ) : Type 0 where
  pub lines : List (List ℕ)
  pub rest : List ℕ
  pub is : text ≡ join_lines lines ++ rest
  pub are : AllByRecursion IsLine lines
  pub counted : number ≡ length lines + 1
  pub within : length lines < line_limit
  pub begin : BeginsJournal shards (join_lines lines)
  pub outside : (line later : List ℕ) → IsLine line → rest ≡ line ++ later → number < line_limit
      → BeginsJournal shards (join_lines lines ++ line) → ⊥
  pub unended : HasNoFeed rest → IsJournal shards text → ⊥

-- ---- what is found of a text

-- it is the journal of so many histories, which have so many entries
pub record IsRead (shards : ℕ) (text : List ℕ) (entries : ℕ) : Type 0 where
  pub histories : List (List Entry)
  pub fit : AreFit shards histories
  pub is : text ≡ journal histories
  pub counted : entries ≡ entries_in histories
