-- What each core ran and stole.
use Rattle.std.specs.Prelude.{◌≡◌, ◌==◌, ℕ, ◌<◌, Bool, false, List, length, Some, sum_by, count_by, slice_get, if◌then◌else◌}
use Rattle.std.specs.List.{flat_map}
use Rattle.mely_history.specs.Setup.{shape_of}
use Rattle.mely_history.specs.declared.setup.Setup.{Setup}
use Rattle.mely_history.specs.declared.entry.Entry.{Entry}
use Rattle.mely_history.specs.declared.entry.Entry.TheVariants.{Reg, Take, Fin, Steal}
use Rattle.mely_check.specs.declared.report.Report.{Report}
use Rattle.mely_check.specs.declared.report.CoreReport.{CoreReport}

-- how many events a core finishes by an entry
abbrev pub finished_by : ℕ → Entry → ℕ
finished_by core (Reg colour event by) = 0
finished_by core (Take colour by count) = 0
finished_by core (Fin colour by count) = if by == core then count else 0
finished_by core (Steal colour from to) = 0

-- the core steals a colour
abbrev pub steals : ℕ → Entry → Bool
steals core (Reg colour event by) = false
steals core (Take colour by count) = false
steals core (Fin colour by count) = false
steals core (Steal colour from to) = to == core

-- a colour is stolen from the core
abbrev pub loses : ℕ → Entry → Bool
loses core (Reg colour event by) = false
loses core (Take colour by count) = false
loses core (Fin colour by count) = false
loses core (Steal colour from to) = from == core

-- by these entries, how many events a core finished, how many colours it stole, and how many were
-- stolen from it
abbrev pub core_report : ℕ → List Entry → CoreReport
core_report core entries = record {
  ran = sum_by (finished_by core) entries;
  stolen_in = count_by (steals core) entries;
  stolen_out = count_by (loses core) entries;
}

-- the entries of all shards
abbrev pub all_entries : List (List Entry) → List Entry
all_entries histories = flat_map (λ history. history) histories

-- for each core what it ran and stole
pub record AreReports (setup : Setup) (entries : List Entry)
    (reports : List CoreReport) : Type 0 where
  pub many : length reports ≡ (shape_of setup).cores
  pub each : (core : ℕ) → core < (shape_of setup).cores
      → slice_get reports core ≡ Some (core_report core entries)

-- how many entries the histories have, and what each core ran and stole
pub record IsReport (setup : Setup) (histories : List (List Entry)) (report : Report) : Type 0 where
  pub entries : report.entries ≡ length (all_entries histories)
  pub cores : AreReports setup (all_entries histories) report.cores.items
