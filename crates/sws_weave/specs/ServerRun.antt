-- The run of a scripted world by a schedule.
use Rattle.std.specs.Prelude.{ℕ, Bool, List, [], ◌∷◌, length, map}
use Rattle.mely_history.specs.declared.shape.Shape.{Shape}
use Rattle.mely_history.specs.declared.entry.Entry.{Entry}
use Rattle.sws_link.specs.Scripts.{Script}
use Rattle.sws_site.specs.Site.{SiteState}
use Rattle.mely_machine.specs.Rules.{Rules}
use Rattle.mely_machine.specs.MachineRun.{RunsTo}
use Rattle.sws_steps.specs.Logs.{Step}
use Rattle.sws_conn.specs.Logs.{steps_of}
use Rattle.sws_weave.specs.Server.{initial_server, first_event, serve}

-- the time and the penalty of each handler
abbrev pub handler_rows : List (ℕ × ℕ)
handler_rows = (40, 4) ∷ (10, 1) ∷ (40, 4) ∷ (20, 1) ∷ (60, 2) ∷ (80, 1) ∷ (50, 1) ∷ (100, 2)
    ∷ (30, 1) ∷ (60, 2) ∷ (10, 1) ∷ []

-- the rules of the server: the colour of polling stays on its core
abbrev pub server_rules : Shape → Rules
server_rules shape = record { shape = shape; rows = handler_rows; pinned = 1 }

-- these are the histories of the server on connections of these steps, with the log or without it,
-- by this schedule, if the run ends
abbrev pub IsRunOfPaths : Shape → Bool → List (List Step) → List (ℕ × ℕ) → List (List Entry)
    → Type 0
IsRunOfPaths shape log paths schedule histories =
    RunsTo (server_rules shape) serve (initial_server log paths)
    (first_event (length paths)) schedule histories

-- these are the histories of the server on connections of these scripts over the site, with the log
-- or without it, by this schedule, if the run ends
abbrev pub IsServerRun : Shape → Bool → SiteState → List Script → List (ℕ × ℕ) → List (List Entry)
    → Type 0
IsServerRun shape log site scripts schedule histories =
    IsRunOfPaths shape log (map (steps_of site) scripts) schedule histories
