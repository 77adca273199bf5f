-- The script of a run: what is read of the source, and what that says.
use Rattle.std.specs.Prelude.{◌≡◌, ◌≤◌, ◌<◌, ◌++◌, ◌⊎◌, ℕ, Bool, List, [], length, Option, Some, None, Result, Ok, Err}
use Rattle.sws_link.specs.Counts.{Rose, IsLater, HasCause}
use Rattle.sws_link.specs.declared.Source.{Ghosts as SourceWords}
use Rattle.sws_script.specs.Grammar.{Spells, IsCause}
use Rattle.sws_script.specs.Limits.{byte_limit}
use Rattle.sws_link.specs.Limits.{conn_limit}
use Rattle.sws_script.specs.Inputs.{IsInput}
use Rattle.sws_script.specs.declared.fault.ScriptFault.TheVariants as script_fault
use Rattle.sws_script.specs.declared.input.Input.{Input}
use Rattle.sws_top.specs.declared.faults.TopFault.{TopFault}
use Rattle.sws_top.specs.declared.faults.TopFault.TheVariants.{BadScript, ReadFault, Memory, TooMany}

-- these bytes were read, and what is left is what stands behind them; a source that tells
-- nothing goes on telling nothing
abbrev pub IsReadOf : List ℕ → Option (List ℕ) → Option (List ℕ) → Type 0
IsReadOf read None now = now ≡ None
IsReadOf read (Some text) now = (rest : List ℕ) × (now ≡ Some rest) × (text ≡ read ++ rest)

-- These bytes were read: all that there were, or more than a script may have.
pub record IsTextRead {R : Type 0} (r : SourceWords R) (source now : R)
    (read : List ℕ) : Type 0 where
  pub front : IsReadOf read (r.left source) (r.left now)
  pub whole : (text : List ℕ) → r.left source ≡ Some text → (read ≡ text)
      ⊎ (byte_limit < length read)
  pub no_fault : r.faults now ≡ r.faults source

-- a front was read before the source failed or memory was refused
pub record StopsReading {R : Type 0} (r : SourceWords R) (source now : R)
    (fault : TopFault) : Type 0 where
  pub why : (fault ≡ ReadFault) ⊎ (fault ≡ Memory)
  pub cause : HasCause (r.faults source) (r.faults now) (fault ≡ ReadFault)
  pub read : List ℕ
  pub front : IsReadOf read (r.left source) (r.left now)

module _ {R : Type 0} (r : SourceWords R) (schedule : Bool) (cores : ℕ) (source now : R) where
  -- The source was read to its end, and all of its bytes together are a text of the input.
  pub record IsInputRead (input : Input) : Type 0 where
    pub is : IsInput schedule cores input
    pub few : length input.conns ≤ conn_limit
    pub spelled : (text : List ℕ) → r.left source ≡ Some text → Spells schedule cores text input
    pub to_the_end : (text : List ℕ) → r.left source ≡ Some text → r.left now ≡ Some []
    pub no_fault : r.faults now ≡ r.faults source

  -- Why there is no input: the source failed, there was no memory, or this is the first line at
  -- which all of its bytes together go wrong.
  abbrev pub LacksInput : TopFault → Type 0
  LacksInput ReadFault = Rose (r.faults source) (r.faults now)
  LacksInput Memory = r.faults now ≡ r.faults source
  LacksInput (BadScript line) = (r.faults now ≡ r.faults source)
      × ((text : List ℕ) → r.left source ≡ Some text
      → IsCause schedule cores text (script_fault.Bad line))
  LacksInput (TooMany line) = (r.faults now ≡ r.faults source)
      × ((text : List ℕ) → r.left source ≡ Some text
      → IsCause schedule cores text (script_fault.TooMany line))
  LacksInput other = ⊥

  -- There is no input, for the reason that the fault names; what was read is a
  -- front of what the source had.
  pub record HasNoInput (fault : TopFault) : Type 0 where
    pub why : LacksInput fault
    pub later : IsLater (r.faults source) (r.faults now)
    pub read : List ℕ
    pub rest : IsReadOf read (r.left source) (r.left now)

  -- the input, or why there is none
  abbrev pub ReadsInput : Result Input TopFault → Type 0
  ReadsInput (Ok input) = IsInputRead input
  ReadsInput (Err fault) = HasNoInput fault

  -- A run on an input: it ended before there was one, with all else untouched, or went on with it.
  abbrev pub RunsOnInput : Option TopFault → Type 0 → (Input → Type 0) → Type 0
  RunsOnInput fault Untouched GoesOn =
      ((cause : TopFault) × (fault ≡ Some cause) × HasNoInput cause × Untouched)
      ⊎ ((input : Input) × IsInputRead input × GoesOn input)
