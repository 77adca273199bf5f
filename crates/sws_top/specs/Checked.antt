-- What `check` reads, and what it writes of a journal that is accepted.
use Rattle.std.specs.Prelude.{ℕ, ◌+◌, Bool, List, [], ◌∷◌, ◌++◌, codes, Option, Some, None}
use Rattle.mely_history.specs.declared.shape.Shape.{Shape}
use Rattle.mely_check.specs.declared.report.CoreReport.{CoreReport}
use Rattle.mely_check.specs.declared.report.Report.{Report}
use Rattle.sws_replay.specs.Accepted.{IsServerJournal}
use Rattle.sws_text.specs.Numbers.{space_number}

-- the bytes are the journal of a legal and drained run of the server, with the log or without it
abbrev pub TellsDrainedRun : ℕ → Bool → Shape → Option (List ℕ) → Type 0
TellsDrainedRun connections log shape None = ⊥
TellsDrainedRun connections log shape (Some text) = IsServerJournal connections log shape text

-- ---- the text of a report

-- how many entries there are
abbrev pub accepted_line : ℕ → List ℕ
accepted_line entries = (codes "accepted" ++ space_number entries) ++ 10 ∷ []

-- what a core ran, and how many colours it stole and lost
abbrev pub core_line : ℕ → CoreReport → List ℕ
core_line core report =
    (codes "core" ++ space_number core) ++ (codes " ran" ++ space_number report.ran)
    ++ (codes " in" ++ space_number report.stolen_in)
    ++ (codes " out" ++ space_number report.stolen_out)
    ++ 10 ∷ []

-- the lines of cores from this number on
abbrev pub core_lines : ℕ → List CoreReport → List ℕ
core_lines core [] = []
core_lines core (report ∷ reports) = core_line core report ++ core_lines (core + 1) reports

-- what `check` prints of a report
abbrev pub report_text : Report → List ℕ
report_text report = accepted_line report.entries ++ core_lines 0 report.cores.items
