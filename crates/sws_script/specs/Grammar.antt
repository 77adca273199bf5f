-- The texts of inputs, and where a text that is none goes wrong.
use Rattle.std.specs.Prelude.{◌≡◌, ◌⊎◌, ℕ, ◌+◌, ◌<◌, ◌≤◌, min, ◌==◌, Bool, if◌then◌else◌, List, [], ◌∷◌, ◌++◌, length, take, codes, Result, Err, ⊤}
use Rattle.std.specs.List.{AllZip}
use Rattle.std.specs.Str.{bytes_eq}
use Rattle.sws_script.specs.declared.input.Input.{Input}
use Rattle.sws_script.specs.declared.fault.ScriptFault.{ScriptFault}
use Rattle.sws_script.specs.declared.fault.ScriptFault.TheVariants.{Bad, TooMany, Memory}
pub use Rattle.sws_text.specs.Lines.{lines_of}
use Rattle.sws_script.specs.Lines.{SpellsLine}
use Rattle.sws_script.specs.Inputs.{IsInput, input_lines}
use Rattle.sws_script.specs.Limits.{byte_limit}
use Rattle.sws_link.specs.Limits.{conn_limit}

-- each line spells a line of the input, in order
abbrev pub SpellLines : Bool → List (List ℕ) → Input → Type 0
SpellLines schedule lines input = AllZip SpellsLine lines (input_lines schedule input)

-- the lines of the text spell those of the input, one by one, and the text is within the limit
pub record Spells (schedule : Bool) (cores : ℕ) (text : List ℕ) (input : Input) : Type 0 where
  pub is : IsInput schedule cores input
  pub lines : SpellLines schedule (lines_of text) input
  pub short : length text ≤ byte_limit

-- ---- where a text goes wrong

-- with some lines behind them, these are the lines of an input
pub record Begin (schedule : Bool) (cores : ℕ) (lines : List (List ℕ)) : Type 0 where
  pub input : Input
  pub more : List (List ℕ)
  pub is : IsInput schedule cores input
  pub spell : SpellLines schedule (lines ++ more) input

-- how many bytes lines have, each with its LF
abbrev pub size_of : List (List ℕ) → ℕ
size_of [] = 0
size_of (line ∷ lines) = length line + 1 + size_of lines

-- so many lines may stand: they begin the lines of an input, and end within the limit
pub record MayStand (schedule : Bool) (cores : ℕ) (text : List ℕ) (count : ℕ) : Type 0 where
  pub there : count ≤ length (lines_of text)
  pub begin : Begin schedule cores (take count (lines_of text))
  pub within : min (length text) (size_of (take count (lines_of text))) ≤ byte_limit

-- the first line with which the lines so far may not stand: so many may, and with the next one they
-- may not; or it is the one behind the last, where the lines are no whole input
pub record IsFirstOutside (schedule : Bool) (cores : ℕ) (text : List ℕ) (before : ℕ) : Type 0 where
  pub stand : MayStand schedule cores text before
  pub next : before < length (lines_of text) → MayStand schedule cores text (before + 1) → ⊥
  pub whole : (input : Input) → before ≡ length (lines_of text)
      → Spells schedule cores text input → ⊥

-- the line begins a connection
abbrev pub is_conn : List ℕ → Bool
is_conn line = bytes_eq line (codes "conn")

-- how many connections these lines begin
abbrev pub conns_in : List (List ℕ) → ℕ
conns_in [] = 0
conns_in (line ∷ lines) = (if is_conn line then 1 else 0) + conns_in lines

-- so many lines stand before the one that begins a connection too many
pub record IsFirstTooMany (schedule : Bool) (cores : ℕ) (text : List ℕ) (before : ℕ) : Type 0 where
  pub stand : MayStand schedule cores text (before + 1)
  pub conn : take (before + 1) (lines_of text) ≡ take before (lines_of text) ++ codes "conn" ∷ []
  pub count : conns_in (take before (lines_of text)) ≡ conn_limit

-- lines are counted from 1
abbrev pub IsCause : Bool → ℕ → List ℕ → ScriptFault → Type 0
IsCause schedule cores text (Bad line) =
    (before : ℕ) × (line ≡ before + 1) × IsFirstOutside schedule cores text before
    × (conns_in (take before (lines_of text)) ≤ conn_limit)
IsCause schedule cores text (TooMany line) = (before : ℕ) × (line ≡ before + 1)
    × IsFirstTooMany schedule cores text before
IsCause schedule cores text Memory = ⊤

-- the answer is this one, or there was no memory
abbrev pub IsUnlessMemory : Result Input ScriptFault → Result Input ScriptFault → Type 0
IsUnlessMemory expected answer = (answer ≡ expected) ⊎ (answer ≡ Err Memory)
