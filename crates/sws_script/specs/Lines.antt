-- The lines of a schedule and of a script: how each is spelled, and the range of its numbers.
use Rattle.std.specs.Prelude.{◌≡◌, ℕ, ◌≤◌, ◌<◌, List, ◌∷◌, ◌++◌, length, codes, Option, MatchOption, ⊤}
use Rattle.std.specs.List.{AllByRecursion}
use Rattle.std.specs.Fmt.{decimal}
use Rattle.sws_text.specs.Texts.{StandsFor}
use Rattle.sws_script.specs.declared.input.Item.{Item}
use Rattle.sws_script.specs.declared.input.Item.TheVariants.{Send, Fill, Pause, Fault}
use Rattle.sws_script.specs.declared.line.Line.{Line}
use Rattle.sws_script.specs.declared.line.Line.TheVariants as line
use Rattle.sws_script.specs.Limits.{run_limit, write_limit, cut_limit, send_limit, fill_limit, pause_limit}

-- a number is its decimal digits, without leading zeros; words are separated by one space, 32; TEXT
-- is any text that stands for the bytes
abbrev pub SpellsItem : List ℕ → Item → Type 0
SpellsItem text (Send bytes) = (shown : List ℕ) × (text ≡ codes "send " ++ shown)
    × StandsFor shown bytes
SpellsItem text (Fill count) = text ≡ codes "fill " ++ decimal count
SpellsItem text (Pause count) = text ≡ codes "pause " ++ decimal count
SpellsItem text Fault = text ≡ codes "fault"

-- the text, without its LF, is the line
abbrev pub SpellsLine : List ℕ → Line → Type 0
SpellsLine text line.ScheduleHead = text ≡ codes "sws-schedule 1"
SpellsLine text (line.Run core count) = text ≡ codes "step " ++ decimal core ++ 32 ∷ decimal count
SpellsLine text line.End = text ≡ codes "end"
SpellsLine text line.ScriptHead = text ≡ codes "sws-script 1"
SpellsLine text line.Conn = text ≡ codes "conn"
SpellsLine text (line.Step count) = text ≡ codes "step " ++ decimal count
SpellsLine text (line.Cut count) = text ≡ codes "cut " ++ decimal count
SpellsLine text (line.Item item) = SpellsItem text item

-- the number is in the range, whose ends belong to it
abbrev pub IsWithin : ℕ → ℕ → ℕ → Type 0
IsWithin low high number = (low ≤ number) × (number ≤ high)

-- the numbers of an item are within their ranges
abbrev pub IsItem : Item → Type 0
IsItem (Send bytes) = IsWithin 1 send_limit (length bytes)
    × AllByRecursion (λ byte. byte < 256) bytes
IsItem (Fill count) = IsWithin 1 fill_limit count
IsItem (Pause count) = IsWithin 1 pause_limit count
IsItem Fault = ⊤

-- the numbers of a line are within their ranges
abbrev pub IsLine : Line → Type 0
IsLine line.ScheduleHead = ⊤
IsLine (line.Run core count) = (core < 65536) × IsWithin 1 run_limit count
IsLine line.End = ⊤
IsLine line.ScriptHead = ⊤
IsLine line.Conn = ⊤
IsLine (line.Step count) = IsWithin 1 write_limit count
IsLine (line.Cut count) = IsWithin 0 cut_limit count
IsLine (line.Item item) = IsItem item

-- a line that is spelled, with its numbers in range
pub record IsSpelled (text : List ℕ) (says : Line) : Type 0 where
  pub spells : SpellsLine text says
  pub is : IsLine says

-- what was read of a text: the line that it spells, or none where it spells none
abbrev pub ReadsLine : List ℕ → Option Line → Type 0
ReadsLine text read =
    MatchOption read ((says : Line) → SpellsLine text says → IsLine says
    → ⊥) (λ says. SpellsLine text says × IsLine says)

-- the number that a word writes within these bounds, or none where it writes none
abbrev pub ReadsNumber : ℕ → ℕ → List ℕ → Option ℕ → Type 0
ReadsNumber low high word read =
    MatchOption read ((n : ℕ) → word ≡ decimal n → IsWithin low high n → ⊥) (λ n. (word ≡ decimal n)
    × IsWithin low high n)
