-- How much of a text was read before an answer was given.
use Rattle.std.specs.Prelude.{◌≡◌, ◌<◌, ◌≤◌, ℕ, List, [], ◌++◌, length, Option, Some, None, Result, Ok, Err, ⊤}
use Rattle.std.specs.List.{AllByRecursion}
use Rattle.mely_check.specs.Journals.{HasNoFeed, IsLine, join_lines}
use Rattle.mely_check.specs.declared.fault.CheckFault.{CheckFault}
use Rattle.mely_check.specs.declared.fault.CheckFault.TheVariants.{Read, BadJournal, NotLegal, NotDrained, Memory}
use Rattle.mely_check.specs.declared.report.Report.{Report}

-- how many bytes are read at a time, at most
abbrev pub piece_limit : ℕ
piece_limit = 4096

-- In this front of a text the line of this number, counted from 1, has neither ended nor grown too
-- long: fewer lines have ended, and fewer than 64 bytes stand behind them.
pub record IsUnended (front : List ℕ) (number : ℕ) : Type 0 where
  pub lines : List (List ℕ)
  pub behind : List ℕ
  pub is : front ≡ join_lines lines ++ behind
  pub are : AllByRecursion IsLine lines
  pub no_feed : HasNoFeed behind
  pub short : length behind < 64
  pub before : length lines < number

-- The piece in which the line of this number ends, or grows too long, was the last to be read: what
-- was read before it doesn't come so far. Where the text ends before the line does, there is none.
pub record StopsInLine (text : List ℕ) (left : Option (List ℕ)) (number : ℕ) : Type 0 where
  pub before : List ℕ
  pub piece : List ℕ
  pub rest : List ℕ
  pub is : text ≡ before ++ (piece ++ rest)
  pub left_is : left ≡ Some rest
  pub unended : IsUnended before number
  pub few : length piece ≤ piece_limit

-- a front of the text was read
pub record IsFrontRead (text : List ℕ) (left : Option (List ℕ)) : Type 0 where
  pub read : List ℕ
  pub rest : List ℕ
  pub is : text ≡ read ++ rest
  pub left_is : left ≡ Some rest

-- How much of a text was read, by what is left of it: all, but for a line that no journal has there,
-- at whose end the reading stops, and where the source failed or memory was refused.
abbrev pub ReadsOf : List ℕ → Option (List ℕ) → Result Report CheckFault → Type 0
ReadsOf text left (Ok report) = left ≡ Some []
ReadsOf text left (Err Read) = IsFrontRead text left
ReadsOf text left (Err (BadJournal line)) = StopsInLine text left line
ReadsOf text left (Err (NotLegal line)) = left ≡ Some []
ReadsOf text left (Err (NotDrained colour)) = left ≡ Some []
ReadsOf text left (Err Memory) = IsFrontRead text left

-- so much of it where the text is told; where it isn't, what is left isn't told either
abbrev pub ReadsTold : Option (List ℕ) → Option (List ℕ) → Result Report CheckFault → Type 0
ReadsTold None left found = left ≡ None
ReadsTold (Some text) left found = ReadsOf text left found

-- a fault of a line is of this one, or of a later one
abbrev pub IsFrom : ℕ → CheckFault → Type 0
IsFrom number Read = ⊤
IsFrom number (BadJournal line) = number ≤ line
IsFrom number (NotLegal line) = ⊤
IsFrom number (NotDrained colour) = ⊤
IsFrom number Memory = ⊤
