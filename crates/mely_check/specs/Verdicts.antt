-- What a journal is found to be: the text of a legal and drained run, or what is wrong with it.
use Rattle.std.specs.Prelude.{◌≡◌, ◌+◌, ◌<◌, ◌%◌, ◌⊎◌, ℕ, List, [], ◌∷◌, ◌++◌, length, slice_get, Option, Some, None, Result, Ok, Err, ⊤, MatchResult}
use Rattle.std.specs.List.{AllByRecursion}
use Rattle.mely_event.specs.declared.colour.Colour.{Colour}
use Rattle.mely_history.specs.Setup.{shape_of}
use Rattle.mely_history.specs.Entries.{colour_of}
use Rattle.mely_history.specs.Legal.{IsAllowed, AreLegal, IsDrained, IsDrainedOf}
use Rattle.mely_history.specs.declared.setup.Setup.{Setup}
use Rattle.mely_history.specs.declared.entry.Entry.{Entry}
use Rattle.mely_journal.specs.Journal.{journal}
use Rattle.mely_check.specs.Journals.{AreFit, IsFirstOutside, entries_in, line_limit}
use Rattle.mely_check.specs.Reports.{IsReport}
use Rattle.mely_check.specs.declared.fault.CheckFault.{CheckFault}
use Rattle.mely_check.specs.declared.fault.CheckFault.TheVariants.{Read, BadJournal, NotLegal, NotDrained, Memory}
use Rattle.mely_check.specs.declared.report.Report.{Report}

-- The line of this number, counted from 1, has the first entry that isn't allowed: what stands
-- before it is legal, and the entry is of another shard's colour or may not follow the entries of
-- its shard before it.
pub record IsFirstIllegal (setup : Setup) (histories : List (List Entry)) (line : ℕ) : Type 0 where
  pub before : List (List Entry)
  pub front : List Entry
  pub entry : Entry
  pub behind : List Entry
  pub more : List (List Entry)
  pub is : histories ≡ before ++ (front ++ entry ∷ behind) ∷ more
  pub counted : line ≡ length before + 1 + entries_in before + length front + 1
  pub legal : AreLegal setup (before ++ front ∷ [])
  pub fault : (colour_of entry).0 % (shape_of setup).shards ≡ length before
      → IsAllowed setup front entry → ⊥

-- The least colour that runs or has something queued.
pub record IsLeastLeft (histories : List (List Entry)) (colour : ℕ) : Type 0 where
  pub shard : ℕ
  pub history : List Entry
  pub there : slice_get histories shard ≡ Some history
  pub left : IsDrainedOf history (record { 0 = colour }) → ⊥
  pub least : (c : Colour) → c.0 < colour → AllByRecursion (λ other. IsDrainedOf other c) histories

-- ---- what a text is

-- it is the journal of these histories, in fewer lines than the limit
pub record IsJournalOf (setup : Setup) (histories : List (List Entry))
    (text : List ℕ) : Type 0 where
  pub fit : AreFit (shape_of setup).shards histories
  pub is : text ≡ journal histories
  pub few : length histories + entries_in histories < line_limit

-- it is the journal of these histories, which are legal and drained
pub record IsDrainedRun (setup : Setup) (histories : List (List Entry))
    (text : List ℕ) : Type 0 where
  pub journal_of : IsJournalOf setup histories text
  pub legal : AreLegal setup histories
  pub drained : AllByRecursion IsDrained histories

-- it is the journal of a legal and drained run, and the report has the sums of its histories
pub record IsAccepted (setup : Setup) (text : List ℕ) (report : Report) : Type 0 where
  pub histories : List (List Entry)
  pub run : IsDrainedRun setup histories text
  pub sums : IsReport setup histories report

-- it is a journal, and the line has the first entry that isn't allowed
pub record IsNotLegal (setup : Setup) (text : List ℕ) (line : ℕ) : Type 0 where
  pub histories : List (List Entry)
  pub journal_of : IsJournalOf setup histories text
  pub first : IsFirstIllegal setup histories line

-- it is the journal of a legal run, and the colour is the least that runs or has something queued
pub record IsNotDrained (setup : Setup) (text : List ℕ) (colour : ℕ) : Type 0 where
  pub histories : List (List Entry)
  pub journal_of : IsJournalOf setup histories text
  pub legal : AreLegal setup histories
  pub least : IsLeastLeft histories colour

-- what an answer says of a text
abbrev pub Says : Setup → List ℕ → Result Report CheckFault → Type 0
Says setup text (Ok report) = IsAccepted setup text report
Says setup text (Err Read) = ⊤
Says setup text (Err (BadJournal line)) = IsFirstOutside (shape_of setup).shards text line
Says setup text (Err (NotLegal line)) = IsNotLegal setup text line
Says setup text (Err (NotDrained colour)) = IsNotDrained setup text colour
Says setup text (Err Memory) = ⊤

-- what it says where the text is told
abbrev pub Finds : Setup → Option (List ℕ) → Result Report CheckFault → Type 0
Finds setup None found = ⊤
Finds setup (Some text) found = Says setup text found

-- it accepts, unless the reading failed or there was no memory
abbrev pub IsAcceptance : Result Report CheckFault → Type 0
IsAcceptance found = MatchResult found (λ _. ⊤) (λ fault. (fault ≡ Read) ⊎ (fault ≡ Memory))

-- where the text is told and is the journal of a legal and drained run, it is accepted
abbrev pub Accepts : Setup → Option (List ℕ) → Result Report CheckFault → Type 0
Accepts setup told found =
    (text : List ℕ) (histories : List (List Entry)) → told ≡ Some text
    → IsDrainedRun setup histories text
    → IsAcceptance found

-- an answer is this one of the three faults of a text, unless the reading failed or there was no
-- memory
abbrev pub IsFault : CheckFault → Result Report CheckFault → Type 0
IsFault fault found = MatchResult found (λ _. ⊥) (λ other. (other ≡ fault)
    ⊎ (other ≡ Read) ⊎ (other ≡ Memory))

-- what was found is the right answer, unless the reading failed or there was no memory; where that
-- itself is given as the right answer, nothing is said
abbrev pub AgreesWith : Result Report CheckFault → Result Report CheckFault → Type 0
AgreesWith (Ok report) found = IsAcceptance found
AgreesWith (Err Read) found = ⊤
AgreesWith (Err (BadJournal line)) found = IsFault (BadJournal line) found
AgreesWith (Err (NotLegal line)) found = IsFault (NotLegal line) found
AgreesWith (Err (NotDrained colour)) found = IsFault (NotDrained colour) found
AgreesWith (Err Memory) found = ⊤

-- where the text is told, the answer is the one that is so of it, whichever that is
abbrev pub IsExact : Setup → Option (List ℕ) → Result Report CheckFault → Type 0
IsExact setup told found =
    (text : List ℕ) (right : Result Report CheckFault) → told ≡ Some text → Says setup text right
    → AgreesWith right found
