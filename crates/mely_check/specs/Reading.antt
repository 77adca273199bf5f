-- Within the crate: what a line says.
use Rattle.std.specs.Prelude.{◌≡◌, ℕ, ◌^◌, ◌<◌, ◌≤◌, List, [], ◌∷◌, ◌++◌, Option, MatchOption, ⊤}
use Rattle.std.specs.List.{AllByRecursion}
use Rattle.sws_text.specs.Numbers.{space_number}
use Rattle.mely_journal.specs.Journal.{entry_line, shard_line}
use Rattle.mely_check.specs.declared.reading.Line.{Line}
use Rattle.mely_check.specs.declared.reading.Line.TheVariants as line
use Rattle.mely_check.specs.Journals.{IsFit}

-- each byte is `0` or greater, as those of a number are
abbrev pub IsHigh : List ℕ → Type 0
IsHigh bytes = AllByRecursion (λ byte. 48 ≤ byte) bytes

-- what stands behind a number is nothing, or begins with a byte less than `0`
abbrev pub IsBehind : List ℕ → Type 0
IsBehind [] = ⊤
IsBehind (byte ∷ rest) = byte < 48

-- a line says an entry, or begins a shard
abbrev pub Says : List ℕ → Line → Type 0
Says text (line.Shard number count) = (text ≡ shard_line number count)
    × (number < 65536) × (count < 2 ^ 64)
Says text (line.Entry entry) = (text ≡ entry_line entry) × IsFit entry

-- what was read of a line, or that it says nothing
abbrev pub ReadsLine : List ℕ → Option Line → Type 0
ReadsLine text read = MatchOption read ((says : Line) → Says text says → ⊥) (Says text)

-- what was read at the front of a text: a space and a number that is at most so high, and then what
-- stands behind the number; or none where the text doesn't begin so
abbrev pub ReadsField : ℕ → List ℕ → Option (ℕ × List ℕ) → Type 0
ReadsField high text read =
    MatchOption read ((n : ℕ) (rest : List ℕ) → n ≤ high → IsBehind rest
    → text ≡ space_number n ++ rest → ⊥)
    (λ found. (found.0 ≤ high) × IsBehind found.1 × (text ≡ space_number found.0 ++ found.1))
