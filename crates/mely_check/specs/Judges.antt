-- Within the crate: what was heard of a journal.
use Rattle.std.specs.Prelude.{◌≡◌, ◌≢◌, ◌<◌, ◌%◌, ◌+◌, ◌^◌, ◌⊎◌, ℕ, List, [], ◌∷◌, Option, None, Some, Result, Ok, Err, length, cond, ⊤, slice_get, slice_set, slice_index_or, MatchOption}
use Rattle.std.specs.List.{AllByRecursion}
use Rattle.mely_event.specs.declared.colour.Colour.{Colour}
use Rattle.mely_history.specs.Setup.{shape_of, colours_of}
use Rattle.mely_history.specs.Entries.{colour_of}
use Rattle.mely_history.specs.ColourAccount.{account_of}
use Rattle.mely_history.specs.declared.setup.Setup.{Setup}
use Rattle.mely_history.specs.declared.entry.Entry.{Entry}
use Rattle.mely_history.specs.Legal.{IsLegal, IsOfShard}
use Rattle.mely_check.specs.Journals.{IsFit}
use Rattle.mely_check.specs.Verdicts.{IsFirstIllegal}
use Rattle.mely_check.specs.Reports.{finished_by, steals, loses, all_entries, AreReports}
use Rattle.mely_check.specs.Watches.{Tells, Allows, Follows}
use Rattle.mely_check.specs.declared.fault.CheckFault.{CheckFault}
use Rattle.mely_check.specs.declared.fault.CheckFault.TheVariants.{Read, BadJournal, NotLegal, NotDrained, Memory}
use Rattle.mely_check.specs.declared.judge.Judge.{Judge}
use Rattle.mely_check.specs.declared.reading.Line.{Line}
use Rattle.mely_check.specs.declared.reading.Line.TheVariants as said_line
use Rattle.mely_check.specs.declared.report.CoreReport.{CoreReport}
use Rattle.mely_check.specs.declared.watch.Watch.{Watch}

-- of so many colours nothing was heard
pub record AreInitialWatches (setup : Setup) (colours : ℕ) (watches : List Watch) : Type 0 where
  pub many : length watches ≡ colours
  pub each : (c : Colour) (watch : Watch) → slice_get watches c.0 ≡ Some watch
      → Tells setup (account_of setup [] c) watch

-- the entry is of a colour that there is, of the last of so many shards, and by what is kept of
-- the colour it may follow
pub record MayHear (judge : Judge) (begun : ℕ) (entry : Entry) : Type 0 where
  pub watch : Watch
  pub there : slice_get judge.watches.items (colour_of entry).0 ≡ Some watch
  pub of_shard : (colour_of entry).0 % (shape_of judge.setup).shards + 1 ≡ begun
  pub allows : Allows judge.setup watch entry

-- two reports in one
abbrev pub plus : CoreReport → CoreReport → CoreReport
plus report more = record {
  ran = report.ran + more.ran;
  stolen_in = report.stolen_in
      + more.stolen_in;
  stolen_out = report.stolen_out + more.stolen_out;
}

-- the sums fit their types
pub record HasRoom (report : CoreReport) (ran stolen_in stolen_out : ℕ) : Type 0 where
  pub ran_fits : report.ran + ran < 2 ^ 64
  pub in_fits : report.stolen_in + stolen_in < 2 ^ 64
  pub out_fits : report.stolen_out + stolen_out < 2 ^ 64

-- a report was added to that of a core, and where the sums fit their types, they are exact
pub record AddsTo (before : List CoreReport) (core : ℕ) (more : CoreReport)
    (after : List CoreReport) : Type 0 where
  pub many : length after ≡ length before
  pub own : (report : CoreReport) → slice_get before core ≡ Some report
      → HasRoom report more.ran more.stolen_in more.stolen_out
      → slice_get after core ≡ Some (plus report more)
  pub others : (other : ℕ) → other ≢ core → slice_get after other ≡ slice_get before other

-- a core's report with one more entry
abbrev pub report_after : ℕ → Entry → CoreReport → CoreReport
report_after core entry report = record {
  ran = report.ran + finished_by core entry;
  stolen_in = report.stolen_in + cond (steals core entry) 1 0;
  stolen_out = report.stolen_out + cond (loses core entry) 1 0;
}

-- an entry was counted for each core: the sums are exact wherever no entry could take them past
-- the ends of their types
pub record Counts (before : List CoreReport) (entry : Entry)
    (after : List CoreReport) : Type 0 where
  pub many : length after ≡ length before
  pub each : (core : ℕ) (report : CoreReport) → slice_get before core ≡ Some report
      → HasRoom report 65535 1 1 → slice_get after core ≡ Some (report_after core entry report)

-- the entry was heard: what is kept of its colour went on, and of no other, and it was counted
pub record Adds (before : Judge) (entry : Entry) (after : Judge) : Type 0 where
  pub was : Watch
  pub now : Watch
  pub there : slice_get before.watches.items (colour_of entry).0 ≡ Some was
  pub follows : Follows before.setup was entry now
  pub watches : after.watches.items ≡ slice_set before.watches.items (colour_of entry).0 now
  pub cores : Counts before.cores.items entry after.cores.items
  pub setup : after.setup ≡ before.setup
  pub fault : after.fault ≡ None

-- what comes of an entry: nothing behind a fault; else it is heard, or where it isn't allowed its
-- line is the fault
abbrev pub Hears : Judge → ℕ → ℕ → Entry → Judge → Type 0
Hears before begun line entry after =
    MatchOption before.fault
    ((MayHear before begun entry × Adds before entry after)
    ⊎ ((MayHear before begun entry → ⊥) × (after ≡ record before { fault = Some line })))
    (λ _. after ≡ before)

-- what comes of a line: one that begins a shard changes nothing that is kept of the colours
abbrev pub HearsLine : Judge → ℕ → ℕ → Line → Judge → Type 0
HearsLine before begun number (said_line.Shard shard count) after = after ≡ before
HearsLine before begun number (said_line.Entry entry) after = Hears before begun number entry after

-- nothing of the colour runs or waits
abbrev pub IsDrainedAt : List Watch → ℕ → Type 0
IsDrainedAt watches colour = (watch : Watch) → slice_get watches colour ≡ Some watch
    → (watch.running ≡ None) × (watch.queued.items ≡ [])

-- of the colour something runs or waits
pub record IsOpenAt (watches : List Watch) (colour : ℕ) : Type 0 where
  pub watch : Watch
  pub there : slice_get watches colour ≡ Some watch
  pub open_is : (watch.running ≡ None) × (watch.queued.items ≡ []) → ⊥

-- of no colour below this number something runs or waits
abbrev pub AreDrainedBelow : List Watch → ℕ → Type 0
AreDrainedBelow watches high = (colour : ℕ) → colour < high → IsDrainedAt watches colour

-- the least colour of which something runs or waits, if there is one
abbrev pub IsFirstOpen : List Watch → ℕ → Option ℕ → Type 0
IsFirstOpen watches colours None = AreDrainedBelow watches colours
IsFirstOpen watches colours (Some colour) = AreDrainedBelow watches colour × IsOpenAt watches colour

-- what a judge says at the end, where every line of the journal was read: the fault that it met, or
-- the least colour of which something runs or waits, or that there is neither
abbrev pub Judges : Judge → Result (Unit {0}) CheckFault → Type 0
Judges judge (Ok _) = (judge.fault ≡ None)
    × AreDrainedBelow judge.watches.items (colours_of judge.setup)
Judges judge (Err Read) = ⊥
Judges judge (Err (BadJournal line)) = ⊥
Judges judge (Err (NotLegal line)) = judge.fault ≡ Some line
Judges judge (Err (NotDrained colour)) = (judge.fault ≡ None)
    × AreDrainedBelow judge.watches.items colour × IsOpenAt judge.watches.items colour
Judges judge (Err Memory) = ⊥

-- ---- what is kept tells what was heard

-- each history is legal, and of its shard, from this number on
abbrev pub LegalFrom : Setup → ℕ → List (List Entry) → Type 0
LegalFrom setup number [] = ⊤
LegalFrom setup number (history ∷ histories) = IsLegal setup history
    × IsOfShard setup number history × LegalFrom setup (number + 1) histories

-- the history of a colour's shard
abbrev pub own_of : Setup → List (List Entry) → Colour → List Entry
own_of setup histories c = slice_index_or histories (c.0 % (shape_of setup).shards) []

-- all that was heard is legal, and what is kept is what it says
pub record IsWatched (setup : Setup) (histories : List (List Entry)) (judge : Judge) : Type 0 where
  pub setup_is : judge.setup ≡ setup
  pub legal : LegalFrom setup 0 histories
  pub fit : AllByRecursion IsFit (all_entries histories)
  pub many : length judge.watches.items ≡ colours_of setup
  pub watched : (c : Colour) (watch : Watch) → slice_get judge.watches.items c.0 ≡ Some watch
      → Tells setup (account_of setup (own_of setup histories c) c) watch
  pub reports : AreReports setup (all_entries histories) judge.cores.items

-- without a fault all that was heard is legal and was kept; and a fault is the line of the first
-- entry that isn't allowed
abbrev pub IsJudged : Setup → List (List Entry) → Judge → Type 0
IsJudged setup histories judge =
    MatchOption judge.fault (IsWatched setup histories judge) (IsFirstIllegal setup histories)
