-- Which events fit which colour.
use Rattle.std.proofs.Common.{◌≡◌, ℕ, zero, suc, ◌+◌, ◌≤◌, ◌<◌, ◌⊎◌, Option, Some, None, refl, ap, subst, arith, inl, inr}
use Rattle.std.proofs.lemmas.Option.{same_Some, none-some}
use Rattle.mely_event.specs.declared.colour.Colour.{Colour}
use Rattle.sws_link.specs.declared.Link.{Ghosts as LinkWords}
use Rattle.sws_link.specs.declared.world.World.{Ghosts as WorldWords}
use Rattle.sws_handlers.specs.declared.load.WorldLoad.{WorldLoad}
use Rattle.sws_handlers.specs.declared.load.Load.{Load}
use Rattle.sws_handlers.specs.declared.load.Load.TheVariants as load
use Rattle.sws_handlers.specs.declared.task.Task.{Task}
use Rattle.sws_steps.specs.declared.Handler.TheVariants as handler
use Rattle.sws_handlers.specs.declared.task.Task.TheVariants as task
use Rattle.sws_handlers.specs.Tasks.{task_of, number_of_task}
use Rattle.sws_log.specs.declared.line.LogLine.{LogLine}
use Rattle.sws_handlers.specs.Loads.{world_of, PollFits, AcceptFits, WaitFits, StepFits, LogFits, TaskFits}

pub number_is : (h : ℕ) (t : Task) → task_of h ≡ Some t → h ≡ number_of_task t
number_is zero t is = ap number_of_task (same_Some task.Poll t is)
number_is (suc zero) t is = ap number_of_task (same_Some task.Wait t is)
number_is (suc (suc zero)) t is = ap number_of_task (same_Some task.Accept t is)
number_is (suc (suc (suc zero))) t is = ap number_of_task (same_Some (task.Step handler.Open) t is)
number_is (suc (suc (suc (suc zero)))) t is = ap number_of_task (same_Some (task.Step handler.Read) t is)
number_is (suc (suc (suc (suc (suc zero))))) t is = ap number_of_task (same_Some (task.Step handler.Parse) t is)
number_is (suc (suc (suc (suc (suc (suc zero)))))) t is = ap number_of_task (same_Some (task.Step handler.Look) t is)
number_is (suc (suc (suc (suc (suc (suc (suc zero))))))) t is = ap number_of_task (same_Some (task.Step handler.Write) t is)
number_is (suc (suc (suc (suc (suc (suc (suc (suc zero)))))))) t is = ap number_of_task (same_Some (task.Step handler.Close) t is)
number_is (suc (suc (suc (suc (suc (suc (suc (suc (suc zero))))))))) t is = ap number_of_task (same_Some (task.Step handler.Resume) t is)
number_is (suc (suc (suc (suc (suc (suc (suc (suc (suc (suc zero)))))))))) t is = ap number_of_task (same_Some task.Log t is)
number_is (suc (suc (suc (suc (suc (suc (suc (suc (suc (suc (suc h))))))))))) t is = absurd (none-some t is)

module _ {W L : Type 0} (x : WorldWords W L) (l : LinkWords L) (first : W) where
  -- an event that fits on a connection's colour
  pub record ConnFit (c : Colour) (arg : ℕ) (which : Option Task) (carried : Option (Load W L)) : Type 0 where
    pub t : Task
    pub is : which ≡ Some t
    pub step : StepFits x l first c arg
    pub no_world : world_of carried ≡ None
    pub some : 3 ≤ number_of_task t
    pub few : number_of_task t ≤ 9

  pub conn_fit : (c : Colour) (arg : ℕ) (which : Option Task) (carried : Option (Load W L)) → (2 ≤ c.0) × ((line : LogLine) → carried ≡ Some (load.Line line) → ⊥) → TaskFits x l first c arg which carried → ConnFit c arg which carried
  conn_fit c arg None None low fit = absurd fit
  conn_fit c arg (Some task.Poll) None low fit = absurd fit
  conn_fit c arg (Some task.Wait) None low fit = let z = fit.colour in let more = low.0 in absurd (omega (arith, z, more))
  conn_fit c arg (Some task.Accept) None low fit = absurd fit
  conn_fit c arg (Some (task.Step handler.Open)) None low fit = absurd fit
  conn_fit c arg (Some (task.Step handler.Read)) None low fit = record { t = task.Step handler.Read; is = refl; step = fit; no_world = refl; some = omega arith; few = omega arith }
  conn_fit c arg (Some (task.Step handler.Parse)) None low fit = record { t = task.Step handler.Parse; is = refl; step = fit; no_world = refl; some = omega arith; few = omega arith }
  conn_fit c arg (Some (task.Step handler.Look)) None low fit = record { t = task.Step handler.Look; is = refl; step = fit; no_world = refl; some = omega arith; few = omega arith }
  conn_fit c arg (Some (task.Step handler.Write)) None low fit = record { t = task.Step handler.Write; is = refl; step = fit; no_world = refl; some = omega arith; few = omega arith }
  conn_fit c arg (Some (task.Step handler.Close)) None low fit = record { t = task.Step handler.Close; is = refl; step = fit; no_world = refl; some = omega arith; few = omega arith }
  conn_fit c arg (Some (task.Step handler.Resume)) None low fit = record { t = task.Step handler.Resume; is = refl; step = fit; no_world = refl; some = omega arith; few = omega arith }
  conn_fit c arg None (Some (load.World held)) low fit = absurd fit
  conn_fit c arg (Some task.Poll) (Some (load.World held)) low fit = let z = fit.colour in let more = low.0 in absurd (omega (arith, z, more))
  conn_fit c arg (Some task.Wait) (Some (load.World held)) low fit = absurd fit
  conn_fit c arg (Some task.Accept) (Some (load.World held)) low fit = let z = fit.colour in let more = low.0 in absurd (omega (arith, z, more))
  conn_fit c arg (Some (task.Step handler.Open)) (Some (load.World held)) low fit = absurd fit
  conn_fit c arg (Some (task.Step handler.Read)) (Some (load.World held)) low fit = absurd fit
  conn_fit c arg (Some (task.Step handler.Parse)) (Some (load.World held)) low fit = absurd fit
  conn_fit c arg (Some (task.Step handler.Look)) (Some (load.World held)) low fit = absurd fit
  conn_fit c arg (Some (task.Step handler.Write)) (Some (load.World held)) low fit = absurd fit
  conn_fit c arg (Some (task.Step handler.Close)) (Some (load.World held)) low fit = absurd fit
  conn_fit c arg (Some (task.Step handler.Resume)) (Some (load.World held)) low fit = absurd fit
  conn_fit c arg None (Some (load.Link link)) low fit = absurd fit
  conn_fit c arg (Some task.Poll) (Some (load.Link link)) low fit = absurd fit
  conn_fit c arg (Some task.Wait) (Some (load.Link link)) low fit = absurd fit
  conn_fit c arg (Some task.Accept) (Some (load.Link link)) low fit = absurd fit
  conn_fit c arg (Some (task.Step handler.Open)) (Some (load.Link link)) low fit = record { t = task.Step handler.Open; is = refl; step = fit.step; no_world = refl; some = omega arith; few = omega arith }
  conn_fit c arg (Some (task.Step handler.Read)) (Some (load.Link link)) low fit = absurd fit
  conn_fit c arg (Some (task.Step handler.Parse)) (Some (load.Link link)) low fit = absurd fit
  conn_fit c arg (Some (task.Step handler.Look)) (Some (load.Link link)) low fit = absurd fit
  conn_fit c arg (Some (task.Step handler.Write)) (Some (load.Link link)) low fit = absurd fit
  conn_fit c arg (Some (task.Step handler.Close)) (Some (load.Link link)) low fit = absurd fit
  conn_fit c arg (Some (task.Step handler.Resume)) (Some (load.Link link)) low fit = absurd fit
  conn_fit c arg (Some task.Log) None low fit = absurd fit
  conn_fit c arg (Some task.Log) (Some (load.World held)) low fit = absurd fit
  conn_fit c arg (Some task.Log) (Some (load.Link link)) low fit = absurd fit
  conn_fit c arg None (Some (load.Line line)) low fit = absurd fit
  conn_fit c arg (Some task.Poll) (Some (load.Line line)) low fit = absurd fit
  conn_fit c arg (Some task.Wait) (Some (load.Line line)) low fit = absurd fit
  conn_fit c arg (Some task.Accept) (Some (load.Line line)) low fit = absurd fit
  conn_fit c arg (Some (task.Step handler.Open)) (Some (load.Line line)) low fit = absurd fit
  conn_fit c arg (Some (task.Step handler.Read)) (Some (load.Line line)) low fit = absurd fit
  conn_fit c arg (Some (task.Step handler.Parse)) (Some (load.Line line)) low fit = absurd fit
  conn_fit c arg (Some (task.Step handler.Look)) (Some (load.Line line)) low fit = absurd fit
  conn_fit c arg (Some (task.Step handler.Write)) (Some (load.Line line)) low fit = absurd fit
  conn_fit c arg (Some (task.Step handler.Close)) (Some (load.Line line)) low fit = absurd fit
  conn_fit c arg (Some (task.Step handler.Resume)) (Some (load.Line line)) low fit = absurd fit
  conn_fit c arg (Some task.Log) (Some (load.Line line)) low fit = absurd (low.1 line refl)

  -- one that fits on colour 0
  pub record DeskPoll (c : Colour) (arg : ℕ) (which : Option Task) (carried : Option (Load W L)) : Type 0 where
    pub is : which ≡ Some task.Poll
    pub held : WorldLoad W
    pub carries : carried ≡ Some (load.World held)
    pub fit : PollFits x l first c arg held

  pub record DeskWait (c : Colour) (arg : ℕ) (which : Option Task) (carried : Option (Load W L)) : Type 0 where
    pub is : which ≡ Some task.Wait
    pub carries : carried ≡ None
    pub fit : WaitFits x l first c arg

  pub desk_fit : (c : Colour) (arg : ℕ) (which : Option Task) (carried : Option (Load W L)) → c.0 ≡ 0 → TaskFits x l first c arg which carried → DeskPoll c arg which carried ⊎ DeskWait c arg which carried
  desk_fit c arg None None low fit = absurd fit
  desk_fit c arg (Some task.Poll) None low fit = absurd fit
  desk_fit c arg (Some task.Wait) None low fit = inr (record { is = refl; carries = refl; fit = fit })
  desk_fit c arg (Some task.Accept) None low fit = absurd fit
  desk_fit c arg (Some (task.Step handler.Open)) None low fit = absurd fit
  desk_fit c arg (Some (task.Step handler.Read)) None low fit = let z = fit.colour in absurd (omega (arith, z, low))
  desk_fit c arg (Some (task.Step handler.Parse)) None low fit = let z = fit.colour in absurd (omega (arith, z, low))
  desk_fit c arg (Some (task.Step handler.Look)) None low fit = let z = fit.colour in absurd (omega (arith, z, low))
  desk_fit c arg (Some (task.Step handler.Write)) None low fit = let z = fit.colour in absurd (omega (arith, z, low))
  desk_fit c arg (Some (task.Step handler.Close)) None low fit = let z = fit.colour in absurd (omega (arith, z, low))
  desk_fit c arg (Some (task.Step handler.Resume)) None low fit = let z = fit.colour in absurd (omega (arith, z, low))
  desk_fit c arg None (Some (load.World held)) low fit = absurd fit
  desk_fit c arg (Some task.Poll) (Some (load.World held)) low fit = inl (record { is = refl; held = held; carries = refl; fit = fit })
  desk_fit c arg (Some task.Wait) (Some (load.World held)) low fit = absurd fit
  desk_fit c arg (Some task.Accept) (Some (load.World held)) low fit = let z = fit.colour in absurd (omega (arith, z, low))
  desk_fit c arg (Some (task.Step handler.Open)) (Some (load.World held)) low fit = absurd fit
  desk_fit c arg (Some (task.Step handler.Read)) (Some (load.World held)) low fit = absurd fit
  desk_fit c arg (Some (task.Step handler.Parse)) (Some (load.World held)) low fit = absurd fit
  desk_fit c arg (Some (task.Step handler.Look)) (Some (load.World held)) low fit = absurd fit
  desk_fit c arg (Some (task.Step handler.Write)) (Some (load.World held)) low fit = absurd fit
  desk_fit c arg (Some (task.Step handler.Close)) (Some (load.World held)) low fit = absurd fit
  desk_fit c arg (Some (task.Step handler.Resume)) (Some (load.World held)) low fit = absurd fit
  desk_fit c arg None (Some (load.Link link)) low fit = absurd fit
  desk_fit c arg (Some task.Poll) (Some (load.Link link)) low fit = absurd fit
  desk_fit c arg (Some task.Wait) (Some (load.Link link)) low fit = absurd fit
  desk_fit c arg (Some task.Accept) (Some (load.Link link)) low fit = absurd fit
  desk_fit c arg (Some (task.Step handler.Open)) (Some (load.Link link)) low fit = let z = fit.step.colour in absurd (omega (arith, z, low))
  desk_fit c arg (Some (task.Step handler.Read)) (Some (load.Link link)) low fit = absurd fit
  desk_fit c arg (Some (task.Step handler.Parse)) (Some (load.Link link)) low fit = absurd fit
  desk_fit c arg (Some (task.Step handler.Look)) (Some (load.Link link)) low fit = absurd fit
  desk_fit c arg (Some (task.Step handler.Write)) (Some (load.Link link)) low fit = absurd fit
  desk_fit c arg (Some (task.Step handler.Close)) (Some (load.Link link)) low fit = absurd fit
  desk_fit c arg (Some (task.Step handler.Resume)) (Some (load.Link link)) low fit = absurd fit
  desk_fit c arg (Some task.Log) None low fit = absurd fit
  desk_fit c arg (Some task.Log) (Some (load.World held)) low fit = absurd fit
  desk_fit c arg (Some task.Log) (Some (load.Link link)) low fit = absurd fit
  desk_fit c arg None (Some (load.Line line)) low fit = absurd fit
  desk_fit c arg (Some task.Poll) (Some (load.Line line)) low fit = absurd fit
  desk_fit c arg (Some task.Wait) (Some (load.Line line)) low fit = absurd fit
  desk_fit c arg (Some task.Accept) (Some (load.Line line)) low fit = absurd fit
  desk_fit c arg (Some (task.Step handler.Open)) (Some (load.Line line)) low fit = absurd fit
  desk_fit c arg (Some (task.Step handler.Read)) (Some (load.Line line)) low fit = absurd fit
  desk_fit c arg (Some (task.Step handler.Parse)) (Some (load.Line line)) low fit = absurd fit
  desk_fit c arg (Some (task.Step handler.Look)) (Some (load.Line line)) low fit = absurd fit
  desk_fit c arg (Some (task.Step handler.Write)) (Some (load.Line line)) low fit = absurd fit
  desk_fit c arg (Some (task.Step handler.Close)) (Some (load.Line line)) low fit = absurd fit
  desk_fit c arg (Some (task.Step handler.Resume)) (Some (load.Line line)) low fit = absurd fit
  desk_fit c arg (Some task.Log) (Some (load.Line line)) low fit = let z = fit.colour in absurd (omega (arith, z, low))

  -- one that fits on colour 1
  pub record IsAccept (c : Colour) (arg : ℕ) (which : Option Task) (carried : Option (Load W L)) : Type 0 where
    pub is : which ≡ Some task.Accept
    pub held : WorldLoad W
    pub carries : carried ≡ Some (load.World held)
    pub fit : AcceptFits x l first c arg held

  pub accept_fit : (c : Colour) (arg : ℕ) (which : Option Task) (carried : Option (Load W L)) → c.0 ≡ 1 → TaskFits x l first c arg which carried → IsAccept c arg which carried
  accept_fit c arg None None low fit = absurd fit
  accept_fit c arg (Some task.Poll) None low fit = absurd fit
  accept_fit c arg (Some task.Wait) None low fit = let z = fit.colour in absurd (omega (arith, z, low))
  accept_fit c arg (Some task.Accept) None low fit = absurd fit
  accept_fit c arg (Some (task.Step handler.Open)) None low fit = absurd fit
  accept_fit c arg (Some (task.Step handler.Read)) None low fit = let z = fit.colour in absurd (omega (arith, z, low))
  accept_fit c arg (Some (task.Step handler.Parse)) None low fit = let z = fit.colour in absurd (omega (arith, z, low))
  accept_fit c arg (Some (task.Step handler.Look)) None low fit = let z = fit.colour in absurd (omega (arith, z, low))
  accept_fit c arg (Some (task.Step handler.Write)) None low fit = let z = fit.colour in absurd (omega (arith, z, low))
  accept_fit c arg (Some (task.Step handler.Close)) None low fit = let z = fit.colour in absurd (omega (arith, z, low))
  accept_fit c arg (Some (task.Step handler.Resume)) None low fit = let z = fit.colour in absurd (omega (arith, z, low))
  accept_fit c arg None (Some (load.World held)) low fit = absurd fit
  accept_fit c arg (Some task.Poll) (Some (load.World held)) low fit = let z = fit.colour in absurd (omega (arith, z, low))
  accept_fit c arg (Some task.Wait) (Some (load.World held)) low fit = absurd fit
  accept_fit c arg (Some task.Accept) (Some (load.World held)) low fit = record { is = refl; held = held; carries = refl; fit = fit }
  accept_fit c arg (Some (task.Step handler.Open)) (Some (load.World held)) low fit = absurd fit
  accept_fit c arg (Some (task.Step handler.Read)) (Some (load.World held)) low fit = absurd fit
  accept_fit c arg (Some (task.Step handler.Parse)) (Some (load.World held)) low fit = absurd fit
  accept_fit c arg (Some (task.Step handler.Look)) (Some (load.World held)) low fit = absurd fit
  accept_fit c arg (Some (task.Step handler.Write)) (Some (load.World held)) low fit = absurd fit
  accept_fit c arg (Some (task.Step handler.Close)) (Some (load.World held)) low fit = absurd fit
  accept_fit c arg (Some (task.Step handler.Resume)) (Some (load.World held)) low fit = absurd fit
  accept_fit c arg None (Some (load.Link link)) low fit = absurd fit
  accept_fit c arg (Some task.Poll) (Some (load.Link link)) low fit = absurd fit
  accept_fit c arg (Some task.Wait) (Some (load.Link link)) low fit = absurd fit
  accept_fit c arg (Some task.Accept) (Some (load.Link link)) low fit = absurd fit
  accept_fit c arg (Some (task.Step handler.Open)) (Some (load.Link link)) low fit = let z = fit.step.colour in absurd (omega (arith, z, low))
  accept_fit c arg (Some (task.Step handler.Read)) (Some (load.Link link)) low fit = absurd fit
  accept_fit c arg (Some (task.Step handler.Parse)) (Some (load.Link link)) low fit = absurd fit
  accept_fit c arg (Some (task.Step handler.Look)) (Some (load.Link link)) low fit = absurd fit
  accept_fit c arg (Some (task.Step handler.Write)) (Some (load.Link link)) low fit = absurd fit
  accept_fit c arg (Some (task.Step handler.Close)) (Some (load.Link link)) low fit = absurd fit
  accept_fit c arg (Some (task.Step handler.Resume)) (Some (load.Link link)) low fit = absurd fit
  accept_fit c arg (Some task.Log) None low fit = absurd fit
  accept_fit c arg (Some task.Log) (Some (load.World held)) low fit = absurd fit
  accept_fit c arg (Some task.Log) (Some (load.Link link)) low fit = absurd fit
  accept_fit c arg None (Some (load.Line line)) low fit = absurd fit
  accept_fit c arg (Some task.Poll) (Some (load.Line line)) low fit = absurd fit
  accept_fit c arg (Some task.Wait) (Some (load.Line line)) low fit = absurd fit
  accept_fit c arg (Some task.Accept) (Some (load.Line line)) low fit = absurd fit
  accept_fit c arg (Some (task.Step handler.Open)) (Some (load.Line line)) low fit = absurd fit
  accept_fit c arg (Some (task.Step handler.Read)) (Some (load.Line line)) low fit = absurd fit
  accept_fit c arg (Some (task.Step handler.Parse)) (Some (load.Line line)) low fit = absurd fit
  accept_fit c arg (Some (task.Step handler.Look)) (Some (load.Line line)) low fit = absurd fit
  accept_fit c arg (Some (task.Step handler.Write)) (Some (load.Line line)) low fit = absurd fit
  accept_fit c arg (Some (task.Step handler.Close)) (Some (load.Line line)) low fit = absurd fit
  accept_fit c arg (Some (task.Step handler.Resume)) (Some (load.Line line)) low fit = absurd fit
  accept_fit c arg (Some task.Log) (Some (load.Line line)) low fit = let z = fit.colour in absurd (omega (arith, z, low))

  -- one that carries a line, and one that fits on the colour of the log
  pub record IsLog (c : Colour) (arg : ℕ) (which : Option Task) (carried : Option (Load W L)) : Type 0 where
    pub is : which ≡ Some task.Log
    pub line : LogLine
    pub carries : carried ≡ Some (load.Line line)
    pub fit : LogFits x l first c arg line

  pub line_fit : (c : Colour) (arg : ℕ) (which : Option Task) (line : LogLine) → TaskFits x l first c arg which (Some (load.Line line)) → IsLog c arg which (Some (load.Line line))
  line_fit c arg None line fit = absurd fit
  line_fit c arg (Some task.Poll) line fit = absurd fit
  line_fit c arg (Some task.Wait) line fit = absurd fit
  line_fit c arg (Some task.Accept) line fit = absurd fit
  line_fit c arg (Some (task.Step handler.Open)) line fit = absurd fit
  line_fit c arg (Some (task.Step handler.Read)) line fit = absurd fit
  line_fit c arg (Some (task.Step handler.Parse)) line fit = absurd fit
  line_fit c arg (Some (task.Step handler.Look)) line fit = absurd fit
  line_fit c arg (Some (task.Step handler.Write)) line fit = absurd fit
  line_fit c arg (Some (task.Step handler.Close)) line fit = absurd fit
  line_fit c arg (Some (task.Step handler.Resume)) line fit = absurd fit
  line_fit c arg (Some task.Log) line fit = record { is = refl; line = line; carries = refl; fit = fit }

  pub log_fit : (c : Colour) (arg : ℕ) (which : Option Task) (carried : Option (Load W L)) → c.0 ≡ (x.tells first).total + 2 → TaskFits x l first c arg which carried → IsLog c arg which carried
  log_fit c arg which (Some (load.Line line)) low fit = line_fit c arg which line fit
  log_fit c arg None None low fit = absurd fit
  log_fit c arg (Some task.Poll) None low fit = absurd fit
  log_fit c arg (Some task.Wait) None low fit = let z = fit.colour in absurd (omega (arith, z, low))
  log_fit c arg (Some task.Accept) None low fit = absurd fit
  log_fit c arg (Some (task.Step handler.Open)) None low fit = absurd fit
  log_fit c arg (Some (task.Step handler.Read)) None low fit = let z = fit.colour in let small = fit.conn in absurd (omega (arith, z, small, low))
  log_fit c arg (Some (task.Step handler.Parse)) None low fit = let z = fit.colour in let small = fit.conn in absurd (omega (arith, z, small, low))
  log_fit c arg (Some (task.Step handler.Look)) None low fit = let z = fit.colour in let small = fit.conn in absurd (omega (arith, z, small, low))
  log_fit c arg (Some (task.Step handler.Write)) None low fit = let z = fit.colour in let small = fit.conn in absurd (omega (arith, z, small, low))
  log_fit c arg (Some (task.Step handler.Close)) None low fit = let z = fit.colour in let small = fit.conn in absurd (omega (arith, z, small, low))
  log_fit c arg (Some (task.Step handler.Resume)) None low fit = let z = fit.colour in let small = fit.conn in absurd (omega (arith, z, small, low))
  log_fit c arg (Some task.Log) None low fit = absurd fit
  log_fit c arg None (Some (load.World held)) low fit = absurd fit
  log_fit c arg (Some task.Poll) (Some (load.World held)) low fit = let z = fit.colour in absurd (omega (arith, z, low))
  log_fit c arg (Some task.Wait) (Some (load.World held)) low fit = absurd fit
  log_fit c arg (Some task.Accept) (Some (load.World held)) low fit = let z = fit.colour in absurd (omega (arith, z, low))
  log_fit c arg (Some (task.Step handler.Open)) (Some (load.World held)) low fit = absurd fit
  log_fit c arg (Some (task.Step handler.Read)) (Some (load.World held)) low fit = absurd fit
  log_fit c arg (Some (task.Step handler.Parse)) (Some (load.World held)) low fit = absurd fit
  log_fit c arg (Some (task.Step handler.Look)) (Some (load.World held)) low fit = absurd fit
  log_fit c arg (Some (task.Step handler.Write)) (Some (load.World held)) low fit = absurd fit
  log_fit c arg (Some (task.Step handler.Close)) (Some (load.World held)) low fit = absurd fit
  log_fit c arg (Some (task.Step handler.Resume)) (Some (load.World held)) low fit = absurd fit
  log_fit c arg (Some task.Log) (Some (load.World held)) low fit = absurd fit
  log_fit c arg None (Some (load.Link link)) low fit = absurd fit
  log_fit c arg (Some task.Poll) (Some (load.Link link)) low fit = absurd fit
  log_fit c arg (Some task.Wait) (Some (load.Link link)) low fit = absurd fit
  log_fit c arg (Some task.Accept) (Some (load.Link link)) low fit = absurd fit
  log_fit c arg (Some (task.Step handler.Open)) (Some (load.Link link)) low fit = let z = fit.step.colour in let small = fit.step.conn in absurd (omega (arith, z, small, low))
  log_fit c arg (Some (task.Step handler.Read)) (Some (load.Link link)) low fit = absurd fit
  log_fit c arg (Some (task.Step handler.Parse)) (Some (load.Link link)) low fit = absurd fit
  log_fit c arg (Some (task.Step handler.Look)) (Some (load.Link link)) low fit = absurd fit
  log_fit c arg (Some (task.Step handler.Write)) (Some (load.Link link)) low fit = absurd fit
  log_fit c arg (Some (task.Step handler.Close)) (Some (load.Link link)) low fit = absurd fit
  log_fit c arg (Some (task.Step handler.Resume)) (Some (load.Link link)) low fit = absurd fit
  log_fit c arg (Some task.Log) (Some (load.Link link)) low fit = absurd fit

  -- below the colour of the log no line fits
  pub below_line : (c : Colour) (arg : ℕ) (which : Option Task) (carried : Option (Load W L)) → c.0 < (x.tells first).total + 2 → TaskFits x l first c arg which carried → (line : LogLine) → carried ≡ Some (load.Line line) → ⊥
  below_line c arg which carried under fit line is =
      let own = (line_fit c arg which line (subst (λ (o : Option (Load W L)). TaskFits x l first c arg which o) is fit)).fit.colour in
      omega (arith, under, own)
