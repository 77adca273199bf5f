-- Worked schedules of the server on two cores.
use Rattle.std.specs.Prelude.{ℕ, Bool, true, false, List, [], ◌∷◌, None}
use Rattle.mely_event.specs.declared.colour.Colour.{Colour}
use Rattle.mely_event.specs.declared.event.Event.{Event}
use Rattle.mely_history.specs.declared.shape.Shape.{Shape}
use Rattle.mely_history.specs.declared.entry.Entry.{Entry}
use Rattle.mely_history.specs.declared.entry.Entry.TheVariants.{Reg, Take, Fin, Steal}
use Rattle.sws_link.specs.Scripts.{Script}
use Rattle.sws_site.specs.Site.{SiteState}
use Rattle.sws_steps.specs.Logs.{Step}
use Rattle.sws_steps.specs.declared.Handler.{Handler}
use Rattle.sws_steps.specs.declared.Handler.TheVariants as handler
use Rattle.sws_weave.specs.ServerRun.{IsRunOfPaths, IsServerRun}

-- the colour of this number
abbrev pub col : ℕ → Colour
col n = record { 0 = n }

-- an event of this handler and this argument
abbrev pub event : ℕ → ℕ → Event
event h a = record { handler = h; arg = a }

-- two cores and one shard, batches of ten, a steal costs 5
abbrev pub two_cores : Shape
two_cores = record { cores = 2; shards = 1; batch = 10; steal_cost = 5; group = 4 }

-- a connection that sends nothing
abbrev pub no_input : Script
no_input = record { items = []; step = None; cut = None }

-- the histories of one such connection, six steps of core 0 and twelve of core 1
abbrev pub worked_histories : List (List Entry)
worked_histories = ((
    Reg (col 0) (event 0 0) 2 ∷ Take (col 0) 0 1 ∷ Reg (col 1) (event 2 0) 0
    ∷ Fin (col 0) 0 1 ∷ Take (col 1) 1 1
    ∷ Reg (col 0) (event 0 1) 1 ∷ Reg (col 2) (event 3 0) 1 ∷ Fin (col 1) 1 1
    ∷ Steal (col 2) 0 1 ∷ Take (col 0) 0 1
    ∷ Take (col 2) 1 1 ∷ Fin (col 0) 0 1 ∷ Reg (col 2) (event 4 0) 1
    ∷ Fin (col 2) 1 1 ∷ Take (col 2) 1 1
    ∷ Reg (col 2) (event 5 0) 1 ∷ Fin (col 2) 1 1 ∷ Take (col 2) 1 1 ∷ Reg (col 2) (event 8 0) 1
    ∷ Fin (col 2) 1 1 ∷ Take (col 2) 1 1 ∷ Fin (col 2) 1 1 ∷ []) ∷ [])

-- the histories of no connection, two steps of core 1: the poll stays on its core
abbrev pub polled_histories : List (List Entry)
polled_histories = (Reg (col 0) (event 0 1) 2 ∷ Take (col 0) 0 1 ∷ Fin (col 0) 0 1 ∷ []) ∷ []

-- a step that gives a line, or none
abbrev pub step : Handler → Bool → Step
step handler line = record { handler = handler; line = line }

-- the steps of a connection with one answer, which closes it: the second write ends the answer, and
-- so gives its line
abbrev pub answered : List Step
answered = step handler.Open false ∷ step handler.Read false ∷ step handler.Parse false
    ∷ step handler.Look false ∷ step handler.Write false ∷ step handler.Write true
    ∷ step handler.Close false ∷ []

-- the histories of one such connection with the log, six steps of core 0 and twelve of core 1: the
-- line is registered behind the close that comes next, on the last colour
abbrev pub logged_histories : List (List Entry)
logged_histories = ((
    Reg (col 0) (event 0 0) 2 ∷ Take (col 0) 0 1 ∷ Reg (col 1) (event 2 0) 0 ∷ Fin (col 0) 0 1
    ∷ Take (col 1) 1 1 ∷ Reg (col 0) (event 0 1) 1 ∷ Reg (col 2) (event 3 0) 1 ∷ Fin (col 1) 1 1
    ∷ Steal (col 2) 0 1 ∷ Take (col 0) 0 1 ∷ Take (col 2) 1 1 ∷ Fin (col 0) 0 1
    ∷ Reg (col 2) (event 4 0) 1 ∷ Fin (col 2) 1 1 ∷ Take (col 2) 1 1 ∷ Reg (col 2) (event 5 0) 1
    ∷ Fin (col 2) 1 1 ∷ Take (col 2) 1 1 ∷ Reg (col 2) (event 6 0) 1 ∷ Fin (col 2) 1 1
    ∷ Take (col 2) 1 1 ∷ Reg (col 2) (event 7 0) 1 ∷ Fin (col 2) 1 1 ∷ Take (col 2) 1 1
    ∷ Reg (col 2) (event 7 0) 1 ∷ Fin (col 2) 1 1 ∷ Take (col 2) 1 1 ∷ Reg (col 2) (event 8 0) 1
    ∷ Reg (col 3) (event 10 0) 1 ∷ Fin (col 2) 1 1 ∷ Steal (col 3) 1 0 ∷ Take (col 2) 1 1
    ∷ Take (col 3) 0 1 ∷ Fin (col 2) 1 1 ∷ Fin (col 3) 0 1 ∷ []) ∷ [])

-- whatever the site is
pub record WorkedSchedules (site : SiteState) : Type 0 where
  pub worked : IsServerRun two_cores false site (no_input ∷ []) ((0, 6) ∷ (1, 12) ∷ [])
      worked_histories
  pub logged : IsRunOfPaths two_cores true (answered ∷ []) ((0, 6) ∷ (1, 12) ∷ []) logged_histories
  pub polled : IsServerRun two_cores false site [] ((1, 2) ∷ []) polled_histories
