-- Within the crate: what of a text was read.
use Rattle.std.specs.Prelude.{◌≡◌, ℕ, ◌+◌, ◌*◌, ◌<◌, List, [], ◌++◌, length, Option, Some, None, Result, Ok, Err, ⊤}
use Rattle.mely_check.specs.Journals.{HasNoFeed, IsFirstOutside, join_lines}
use Rattle.mely_history.specs.declared.setup.Setup.{Setup}
use Rattle.mely_check.specs.Verdicts.{IsAccepted, Says}
use Rattle.mely_check.specs.Hearing.{histories_in, Walk}
use Rattle.mely_check.specs.Walks.{IsAt, MayNotStand}
use Rattle.mely_check.specs.Judges.{IsJudged}
use Rattle.mely_check.specs.declared.judge.Judge.{Judge}
use Rattle.mely_check.specs.declared.place.Place.{Place}
use Rattle.mely_check.specs.declared.report.Report.{Report}
use Rattle.mely_check.specs.declared.fault.CheckFault.{CheckFault}
use Rattle.mely_check.specs.declared.fault.CheckFault.TheVariants.{Read, BadJournal, NotLegal, NotDrained, Memory}
use Rattle.mely_check.specs.declared.reader.Reader.{Reader}

-- the whole lines of the text were read, and behind them the line that isn't ended
pub record Stands (text : List ℕ) (reader : Reader) : Type 0 where
  pub lines : List (List ℕ)
  pub at : IsAt lines reader.place
  pub is : text ≡ join_lines lines ++ reader.line.items
  pub unended : HasNoFeed reader.line.items
  pub short : length reader.line.items < 64

-- the line that is being read isn't ended, and isn't too long
pub record IsOpen (reader : Reader) : Type 0 where
  pub unended : HasNoFeed reader.line.items
  pub short : length reader.line.items < 64

-- how far it has come: further with each byte, as a line has 64 at most, with its LF
abbrev pub reach : Reader → ℕ
reach reader = 64 * reader.place.number + length reader.line.items

-- why a text was given up before its end: whatever comes behind it, the line is the first outside;
-- or there was no memory
abbrev pub Refuses : ℕ → List ℕ → CheckFault → Type 0
Refuses shards text Read = ⊥
Refuses shards text (BadJournal number) = (later : List ℕ)
    → IsFirstOutside shards (text ++ later) number
Refuses shards text (NotLegal number) = ⊥
Refuses shards text (NotDrained colour) = ⊥
Refuses shards text Memory = ⊤

-- why a line was not read: it may not stand, or there was no memory
abbrev pub Stops : List (List ℕ) → List ℕ → Place → CheckFault → Type 0
Stops lines line place Read = ⊥
Stops lines line place (BadJournal number) = (number ≡ place.number) × MayNotStand lines line place
Stops lines line place (NotLegal number) = ⊥
Stops lines line place (NotDrained colour) = ⊥
Stops lines line place Memory = ⊤

-- the whole lines were read and judged, and a listener has heard them
pub record IsHeard (Heard : Walk → Type 0) (setup : Setup) (lines : List (List ℕ)) (place : Place)
    (judge : Judge) : Type 0 where
  pub at : IsAt lines place
  pub judged : IsJudged setup (histories_in at.walk) judge
  pub told : Heard at.walk

-- so much of the text was read and judged, and a listener has heard its whole lines
pub record Knows (Heard : Walk → Type 0) (setup : Setup) (text : List ℕ)
    (reader : Reader) : Type 0 where
  pub lines : List (List ℕ)
  pub heard : IsHeard Heard setup lines reader.place reader.judge
  pub is : text ≡ join_lines lines ++ reader.line.items
  pub unended : HasNoFeed reader.line.items
  pub short : length reader.line.items < 64

-- what was read of the whole text is told, where the text is
abbrev pub HasRead : (Walk → Type 0) → Setup → Option (List ℕ) → Option (List ℕ) → Reader → Type 0
HasRead Heard setup None left reader = left ≡ None
HasRead Heard setup (Some whole) None reader = ⊥
HasRead Heard setup (Some whole) (Some left) reader = (text : List ℕ) × (whole ≡ text ++ left)
    × Knows Heard setup text reader

-- nobody listens
abbrev pub nobody : Walk → Type 0
nobody walk = ⊤

-- all was read: no line is unended, and no entry and no shard is still to come
pub record IsEnded (reader : Reader) : Type 0 where
  pub left : reader.place.left ≡ 0
  pub begun : reader.place.begun ≡ reader.place.shards
  pub ended : reader.line.items ≡ []

-- what is said of a text that ends here: it is accepted with the sums that were counted, or what
-- is wrong
abbrev pub Ends : Setup → List ℕ → Reader → Result (Unit {0}) CheckFault → Type 0
Ends setup text reader (Ok _) = (report : Report) → report.entries ≡ reader.place.entries
    → report.cores.items ≡ reader.judge.cores.items → IsAccepted setup text report
Ends setup text reader (Err fault) = Says setup text (Err fault)
