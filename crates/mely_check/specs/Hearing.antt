-- How far a journal was heard, line by line.
use Rattle.std.specs.Prelude.{◌≡◌, ℕ, ◌+◌, ◌-◌, ◌^◌, ◌<◌, List, [], ◌∷◌, ◌++◌, length, Result, Ok, Err, Option, Some, None, ⊤}
use Rattle.mely_history.specs.declared.setup.Setup.{Setup}
use Rattle.mely_history.specs.declared.entry.Entry.{Entry}
use Rattle.mely_check.specs.Journals.{IsFit}
use Rattle.mely_check.specs.Verdicts.{IsDrainedRun}
use Rattle.mely_check.specs.declared.fault.CheckFault.{CheckFault}
use Rattle.mely_check.specs.declared.reading.Line.{Line}
use Rattle.mely_check.specs.declared.reading.Line.TheVariants as said_line
use Rattle.mely_check.specs.declared.report.Report.{Report}

-- no shard has begun; or these histories were heard whole, and of the last one these entries, with
-- so many still to come
pub data Walk : Type 0 where
  start : Walk
  within : List (List Entry) → List Entry → ℕ → Walk

-- how many histories were begun
abbrev pub begun_in : Walk → ℕ
begun_in start = 0
begun_in (within done last left) = length done + 1

-- how many entries of the current history are still to come
abbrev pub left_in : Walk → ℕ
left_in start = 0
left_in (within done last left) = left

-- the histories so far
abbrev pub histories_in : Walk → List (List Entry)
histories_in start = []
histories_in (within done last left) = done ++ last ∷ []

-- a line that may come next says this: the next shard where the one before it is whole, and an
-- entry where one is still to come
abbrev pub MayCome : Walk → Line → Type 0
MayCome walk (said_line.Shard number count) = (left_in walk ≡ 0) × (number ≡ begun_in walk)
    × (count < 2 ^ 64)
MayCome walk (said_line.Entry entry) = (0 < left_in walk) × IsFit entry

-- what was heard, with a line more
abbrev pub with_line : Walk → Line → Walk
with_line start (said_line.Shard number count) = within [] [] count
with_line (within done last left) (said_line.Shard number count) =
    within (done ++ last ∷ []) [] count
with_line start (said_line.Entry entry) = start
with_line (within done last left) (said_line.Entry entry) =
    within done (last ++ entry ∷ []) (left - 1)

-- these histories were heard, each of them whole
pub record HasHeard (Heard : Walk → Type 0) (histories : List (List Entry)) : Type 0 where
  pub walk : Walk
  pub is : histories_in walk ≡ histories
  pub whole : left_in walk ≡ 0
  pub heard : Heard walk

-- the text is the journal of a legal and drained run, and its histories were heard
pub record IsRunHeard (setup : Setup) (text : List ℕ) (Heard : Walk → Type 0) : Type 0 where
  pub histories : List (List Entry)
  pub run : IsDrainedRun setup histories text
  pub heard : HasHeard Heard histories

-- where a text that is told was accepted, it is the journal of a legal and drained run, whose
-- histories were heard, each whole, and nothing else
abbrev pub HearsRun : Setup → Option (List ℕ) → (Walk → Type 0) → Result Report CheckFault → Type 0
HearsRun setup None Heard found = ⊤
HearsRun setup (Some text) Heard (Ok report) = IsRunHeard setup text Heard
HearsRun setup (Some text) Heard (Err fault) = ⊤
