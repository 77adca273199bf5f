-- On a scripted world every handler makes of what its colour has, and of its
-- load, what the paths say.
use Rattle.std.proofs.Common.{◌∙◌, ◌≡◌, ◌≤◌, ◌<◌, ◌+◌, ◌⊎◌, ℕ, Bool, true, false, true≢false, List, [], Option, None, Some, arith, refl, sym, ap, subst, inl, inr}
use Rattle.mely_event.specs.declared.colour.Colour.{Colour}
use Rattle.mely_event.specs.declared.event.Event.{Event}
use Rattle.sws_link.specs.declared.Link.{Ghosts as LinkWords}
use Rattle.sws_link.specs.declared.world.World.{Ghosts as WorldWords}
use Rattle.sws_steps.specs.declared.End.{End}
use Rattle.sws_steps.specs.declared.End.TheVariants.{Done, Idle, Fault, Memory}
use Rattle.sws_steps.specs.declared.talk.Talk.{Ghosts as TalkWords}
use Rattle.sws_steps.specs.Logs.{Step}
use Rattle.sws_steps.specs.Talks.{StepsServed}
use Rattle.sws_conn.specs.Outcome.{UnlessMemory}
use Rattle.sws_steps.specs.declared.Handler.{Handler}
use Rattle.sws_conn.specs.Talks.{due}
use Rattle.sws_handlers.specs.declared.load.WorldLoad.{WorldLoad}
use Rattle.sws_handlers.specs.declared.load.Load.{Load}
use Rattle.sws_handlers.specs.declared.load.Load.TheVariants as load
use Rattle.sws_log.specs.declared.line.LogLine.{LogLine}
use Rattle.sws_handlers.specs.declared.place.Desk.{Desk}
use Rattle.sws_handlers.specs.declared.place.Seat.{Seat}
use Rattle.sws_handlers.specs.declared.place.Role.{Role}
use Rattle.sws_handlers.specs.declared.place.Role.TheVariants.{Polling, Accepting, Talking, Logging}
use Rattle.sws_handlers.specs.declared.task.Task.{Task}
use Rattle.sws_steps.specs.declared.Handler.TheVariants as handler
use Rattle.sws_handlers.specs.declared.task.Task.TheVariants as task
use Rattle.sws_handlers.specs.Place.{PlaceState}
use Rattle.sws_handlers.specs.Tasks.{task_of}
use Rattle.sws_handlers.specs.Loads.{TaskFits, Fit}
use Rattle.sws_handlers.specs.Handling.{Put, is_due, conn_of, RunsDesk, RunsAccepting, RunsSeat, RunsRole}
use Rattle.sws_handlers.specs.PathPlaces as path
use Rattle.sws_handlers.specs.PathStates.{steps_to_come, TellsPaths, HasWorld, HasRest, HasDesk, HasTalk, HasRole, HasPlace, HasLoad, IsPlacedAt, is_memory, is_spoilt_role, AreLoads, ArePuts, FollowsPaths, StaysSpoilt}
use Rattle.sws_handlers.proofs.Events.FitLemmas.{number_is, conn_fit, desk_fit, accept_fit}
use Rattle.sws_handlers.proofs.Paths.PathRunsLemmas.{poll_runs, wait_runs, accept_runs}
use Rattle.sws_handlers.proofs.Paths.PathTalksLemmas.{opened_runs, waiting_runs, opening_runs}

module _ {W L T G H : Type 0} (x : WorldWords W L) (l : LinkWords L) (y : TalkWords T L G H) (hall : H) (first : W) (paths : List (List Step)) (tells : TellsPaths x l y hall first paths)
    (steps_law : (first : L) (trail : List Handler) (talk : T) → y.has_run first trail talk → UnlessMemory (y.view_of talk).end (StepsServed (y.steps (y.hall_of talk)) (l.tells first) trail (y.told talk) (y.view_of talk))) (log : Bool) where
  abbrev Loads : Load W L → path.Load → Type 0
  Loads carried p = HasLoad x l y hall paths carried p

  -- what a handler leaves of a role, and what it puts: want of memory, or what the paths say
  abbrev RoleRan : Role W T → List (Put W L) → path.Ran → Type 0
  RoleRan role puts ran = (is_spoilt_role y role ≡ true) ⊎ (HasRole x l y hall paths role ran.place × ArePuts Loads puts ran.puts)

  no_rest : (resting : Option (WorldLoad W)) (rests : Option path.World) → HasRest x l y hall paths resting rests → path.worlds_of_rest rests ≡ 0 → resting ≡ None
  no_rest None rests has none = refl
  no_rest (Some held) None has none = absurd has
  no_rest (Some held) (Some w) has none = absurd (omega (arith, none))

  -- a load that is the world
  world_load : (held : WorldLoad W) (p : Option path.Load) → AreLoads Loads (Some (load.World held)) p → (w : path.World) × (p ≡ Some (path.world w)) × HasWorld x l y hall paths held w
  world_load held None are = absurd are
  world_load held (Some (path.world w)) are = (w, refl, are)
  world_load held (Some (path.link way)) are = absurd are
  world_load held (Some path.line) are = absurd are

  link_load : (link : L) (p : Option path.Load) → AreLoads Loads (Some (load.Link link)) p → (way : List Step) × (p ≡ Some (path.link way)) × (steps_to_come (y.steps hall) (l.tells link) ≡ Some way)
  link_load link None are = absurd are
  link_load link (Some (path.world w)) are = absurd are
  link_load link (Some (path.link way)) are = (way, refl, are)
  link_load link (Some path.line) are = absurd are

  no_load : (p : Option path.Load) → AreLoads Loads None p → p ≡ None
  no_load None are = refl
  no_load (Some p) are = absurd are

  -- a line fits the last colour alone
  line_fit : (c : Colour) (arg : ℕ) (which : Option Task) (line : LogLine) → TaskFits x l first c arg which (Some (load.Line line)) → c.0 ≡ (x.tells first).total + 2
  line_fit c arg None line fit = absurd fit
  line_fit c arg (Some task.Poll) line fit = absurd fit
  line_fit c arg (Some task.Wait) line fit = absurd fit
  line_fit c arg (Some task.Accept) line fit = absurd fit
  line_fit c arg (Some (task.Step handler.Open)) line fit = absurd fit
  line_fit c arg (Some (task.Step handler.Read)) line fit = absurd fit
  line_fit c arg (Some (task.Step handler.Parse)) line fit = absurd fit
  line_fit c arg (Some (task.Step handler.Look)) line fit = absurd fit
  line_fit c arg (Some (task.Step handler.Write)) line fit = absurd fit
  line_fit c arg (Some (task.Step handler.Close)) line fit = absurd fit
  line_fit c arg (Some (task.Step handler.Resume)) line fit = absurd fit
  line_fit c arg (Some task.Log) line fit = fit.colour

  no_line_load : (c : Colour) (arg : ℕ) (which : Option Task) (carried : Option (Load W L)) → c.0 < (x.tells first).total + 2 → TaskFits x l first c arg which carried → (line : LogLine) → carried ≡ Some (load.Line line) → ⊥
  no_line_load c arg which carried low fit line is =
      let at = line_fit c arg which line (subst (λ (o : Option (Load W L)). TaskFits x l first c arg which o) is fit) in
      omega (arith, at, low)

  -- an event that fits a connection is the opening with its link, or another one without a load
  open_or_not : (c : Colour) (arg : ℕ) (which : Option Task) (carried : Option (Load W L)) → (2 ≤ c.0) × ((line : LogLine) → carried ≡ Some (load.Line line) → ⊥) → TaskFits x l first c arg which carried
      → ((link : L) × (which ≡ Some (task.Step handler.Open)) × (carried ≡ Some (load.Link link))) ⊎ ((which ≡ Some (task.Step handler.Open) → ⊥) × (carried ≡ None))
  open_or_not c arg None None high fit = absurd fit
  open_or_not c arg None (Some (load.World held)) high fit = absurd fit
  open_or_not c arg None (Some (load.Link link)) high fit = absurd fit
  open_or_not c arg (Some task.Poll) None high fit = absurd fit
  open_or_not c arg (Some task.Accept) None high fit = absurd fit
  open_or_not c arg (Some (task.Step handler.Open)) None high fit = absurd fit
  open_or_not c arg (Some task.Wait) None high fit = inr (λ is. cc, refl)
  open_or_not c arg (Some (task.Step handler.Read)) None high fit = inr (λ is. cc, refl)
  open_or_not c arg (Some (task.Step handler.Parse)) None high fit = inr (λ is. cc, refl)
  open_or_not c arg (Some (task.Step handler.Look)) None high fit = inr (λ is. cc, refl)
  open_or_not c arg (Some (task.Step handler.Write)) None high fit = inr (λ is. cc, refl)
  open_or_not c arg (Some (task.Step handler.Close)) None high fit = inr (λ is. cc, refl)
  open_or_not c arg (Some (task.Step handler.Resume)) None high fit = inr (λ is. cc, refl)
  open_or_not c arg (Some task.Poll) (Some (load.World held)) high fit = let z = fit.colour in let more = high.0 in absurd (omega (arith, z, more))
  open_or_not c arg (Some task.Wait) (Some (load.World held)) high fit = absurd fit
  open_or_not c arg (Some task.Accept) (Some (load.World held)) high fit = let z = fit.colour in let more = high.0 in absurd (omega (arith, z, more))
  open_or_not c arg (Some (task.Step handler.Open)) (Some (load.World held)) high fit = absurd fit
  open_or_not c arg (Some (task.Step handler.Read)) (Some (load.World held)) high fit = absurd fit
  open_or_not c arg (Some (task.Step handler.Parse)) (Some (load.World held)) high fit = absurd fit
  open_or_not c arg (Some (task.Step handler.Look)) (Some (load.World held)) high fit = absurd fit
  open_or_not c arg (Some (task.Step handler.Write)) (Some (load.World held)) high fit = absurd fit
  open_or_not c arg (Some (task.Step handler.Close)) (Some (load.World held)) high fit = absurd fit
  open_or_not c arg (Some (task.Step handler.Resume)) (Some (load.World held)) high fit = absurd fit
  open_or_not c arg (Some task.Poll) (Some (load.Link link)) high fit = absurd fit
  open_or_not c arg (Some task.Wait) (Some (load.Link link)) high fit = absurd fit
  open_or_not c arg (Some task.Accept) (Some (load.Link link)) high fit = absurd fit
  open_or_not c arg (Some (task.Step handler.Open)) (Some (load.Link link)) high fit = inl (link, refl, refl)
  open_or_not c arg (Some (task.Step handler.Read)) (Some (load.Link link)) high fit = absurd fit
  open_or_not c arg (Some (task.Step handler.Parse)) (Some (load.Link link)) high fit = absurd fit
  open_or_not c arg (Some (task.Step handler.Look)) (Some (load.Link link)) high fit = absurd fit
  open_or_not c arg (Some (task.Step handler.Write)) (Some (load.Link link)) high fit = absurd fit
  open_or_not c arg (Some (task.Step handler.Close)) (Some (load.Link link)) high fit = absurd fit
  open_or_not c arg (Some (task.Step handler.Resume)) (Some (load.Link link)) high fit = absurd fit
  open_or_not c arg (Some task.Log) None high fit = absurd fit
  open_or_not c arg (Some task.Log) (Some (load.World held)) high fit = absurd fit
  open_or_not c arg (Some task.Log) (Some (load.Link link)) high fit = absurd fit
  open_or_not c arg None (Some (load.Line line)) high fit = absurd fit
  open_or_not c arg (Some task.Poll) (Some (load.Line line)) high fit = absurd fit
  open_or_not c arg (Some task.Wait) (Some (load.Line line)) high fit = absurd fit
  open_or_not c arg (Some task.Accept) (Some (load.Line line)) high fit = absurd fit
  open_or_not c arg (Some (task.Step handler.Open)) (Some (load.Line line)) high fit = absurd fit
  open_or_not c arg (Some (task.Step handler.Read)) (Some (load.Line line)) high fit = absurd fit
  open_or_not c arg (Some (task.Step handler.Parse)) (Some (load.Line line)) high fit = absurd fit
  open_or_not c arg (Some (task.Step handler.Look)) (Some (load.Line line)) high fit = absurd fit
  open_or_not c arg (Some (task.Step handler.Write)) (Some (load.Line line)) high fit = absurd fit
  open_or_not c arg (Some (task.Step handler.Close)) (Some (load.Line line)) high fit = absurd fit
  open_or_not c arg (Some (task.Step handler.Resume)) (Some (load.Line line)) high fit = absurd fit
  open_or_not c arg (Some task.Log) (Some (load.Line line)) high fit = absurd (high.1 line refl)

  module _ (c : Colour) (event : Event) (carried : Option (Load W L)) (puts : List (Put W L)) (fit : Fit x l first c event carried) (p : Option path.Load) (are : AreLoads Loads carried p) where
    -- ---- colour 0

    desk_runs : (desk after : Desk W) (d : path.Desk) → c.0 ≡ 0 → HasDesk x l y hall paths desk d → path.worlds_of_rest d.resting + path.worlds_of_load p ≤ 1 → RunsDesk x desk (task_of event.handler) event.arg carried after puts
        → RoleRan (Polling after) puts (path.runs_desk d event.handler event.arg p)
    desk_runs desk after d nought has alone does = elim (desk_fit x l first c event.arg (task_of event.handler) carried nought fit) [
      | inl polls ↦
          let w = world_load polls.held p (subst (λ (o : Option (Load W L)). AreLoads Loads o p) polls.carries are) in
          let did = subst (λ (o : Option (Load W L)). RunsDesk x desk (Some task.Poll) event.arg o after puts) polls.carries (subst (λ (t : Option Task). RunsDesk x desk t event.arg carried after puts) polls.is does) in
          let one = ap path.worlds_of_load w.1 in
          let none = no_rest desk.resting d.resting has.resting (omega (arith, alone, one)) in
          let ran = poll_runs x l y hall first paths tells desk after event.arg c polls.held puts polls.fit did none w.0 w.2 d has in
          let number = number_is event.handler task.Poll polls.is in
          let all : RoleRan (Polling after) puts (path.runs_desk d 0 event.arg (Some (path.world w.0))) = inr (subst (λ (q : path.Place). HasRole x l y hall paths (Polling after) q) (sym ran.1) (let r = ran.2 in r.desk), (let r = ran.2 in r.puts_are)) in
          subst (λ (n : ℕ). RoleRan (Polling after) puts (path.runs_desk d n event.arg p)) (sym number) (subst (λ (o : Option path.Load). RoleRan (Polling after) puts (path.runs_desk d 0 event.arg o)) (sym w.1) all)
      | inr waits ↦
          let nothing = no_load p (subst (λ (o : Option (Load W L)). AreLoads Loads o p) waits.carries are) in
          let did = subst (λ (o : Option (Load W L)). RunsDesk x desk (Some task.Wait) event.arg o after puts) waits.carries (subst (λ (t : Option Task). RunsDesk x desk t event.arg carried after puts) waits.is does) in
          let ran = wait_runs x l y hall first paths tells desk after event.arg puts did d has in
          let number = number_is event.handler task.Wait waits.is in
          let all : RoleRan (Polling after) puts (path.runs_desk d 1 event.arg None) = inr (ran.desk, ran.puts_are) in
          subst (λ (n : ℕ). RoleRan (Polling after) puts (path.runs_desk d n event.arg p)) (sym number) (subst (λ (o : Option path.Load). RoleRan (Polling after) puts (path.runs_desk d 1 event.arg o)) (sym nothing) all)
    ]

    -- ---- colour 1

    accepting_runs : (total : ℕ) → c.0 ≡ 1 → RunsAccepting x l total (task_of event.handler) carried puts → RoleRan Accepting puts (path.runs_accepting total event.handler p)
    accepting_runs total one does =
        let accepts = accept_fit x l first c event.arg (task_of event.handler) carried one fit in
        let w = world_load accepts.held p (subst (λ (o : Option (Load W L)). AreLoads Loads o p) accepts.carries are) in
        let did = subst (λ (o : Option (Load W L)). RunsAccepting x l total (Some task.Accept) o puts) accepts.carries (subst (λ (t : Option Task). RunsAccepting x l total t carried puts) accepts.is does) in
        let ran = accept_runs x l y hall first paths tells total c event.arg accepts.held puts accepts.fit did w.0 w.2 in
        let number = number_is event.handler task.Accept accepts.is in
        let all : RoleRan Accepting puts (path.runs_accepting total 2 (Some (path.world w.0))) = inr (subst (λ (q : path.Place). HasRole x l y hall paths Accepting q) (sym ran.0) tt, ran.1) in
        subst (λ (n : ℕ). RoleRan Accepting puts (path.runs_accepting total n p)) (sym number) (subst (λ (o : Option path.Load). RoleRan Accepting puts (path.runs_accepting total 2 o)) (sym w.1) all)

    -- ---- a connection

    talk_back : (after : Seat T) (ran : path.Ran) → ((y.view_of after.talk).end ≡ Some Memory) ⊎ ((rest : Option (List Step)) × (ran.place ≡ path.talking rest) × HasTalk x l y hall paths after.talk rest × ArePuts Loads puts ran.puts) → RoleRan (Talking after) puts ran
    talk_back after ran is = elim is [
      | inl memory ↦ inl (ap is_memory memory)
      | inr told ↦ inr (subst (λ (q : path.Place). HasRole x l y hall paths (Talking after) q) (sym told.1) told.2, told.3)
    ]

    talk_runs : (total : ℕ) (seat after : Seat T) (rest : Option (List Step)) → (2 ≤ c.0) × (c.0 < (x.tells first).total + 2) → HasTalk x l y hall paths seat.talk rest → RunsSeat y log total (is_due (conn_of c) (due (y.view_of seat.talk)) event) (conn_of c) seat event carried after puts
        → RoleRan (Talking after) puts (path.runs_talk log total (conn_of c) event.handler rest p)
    talk_runs total seat after (Some rest) high has does =
        let own = conn_fit x l first c event.arg (task_of event.handler) carried (high.0, no_line_load c event.arg (task_of event.handler) carried high.1 fit) fit in
        let colour = own.step.colour in
        talk_back after (path.runs_talk log total (conn_of c) event.handler (Some rest) p)
        (opened_runs x l y hall paths steps_law log total (conn_of c) seat after event carried puts (omega (arith, colour)) has.0 rest has.1 does)
    talk_runs total seat after None high has does =
        let own = conn_fit x l first c event.arg (task_of event.handler) carried (high.0, no_line_load c event.arg (task_of event.handler) carried high.1 fit) fit in
        let colour = own.step.colour in
        let arg : event.arg ≡ conn_of c = omega (arith, colour) in
        elim (open_or_not c event.arg (task_of event.handler) carried (high.0, no_line_load c event.arg (task_of event.handler) carried high.1 fit) fit) [
          | inl opens ↦
              let way = link_load opens.0 p (subst (λ (o : Option (Load W L)). AreLoads Loads o p) opens.2 are) in
              let ran = opening_runs x l y hall paths steps_law log total (conn_of c) seat after event carried puts arg has.0 has.1 (number_is event.handler (task.Step handler.Open) opens.1) opens.0 opens.2 way.0 way.2 does in
              subst (λ (o : Option path.Load). RoleRan (Talking after) puts (path.runs_talk log total (conn_of c) event.handler None o)) (sym way.1) (talk_back after (path.takes_off log total (conn_of c) event.handler None way.0) ran)
          | inr other ↦
              let nothing = no_load p (subst (λ (o : Option (Load W L)). AreLoads Loads o p) other.1 are) in
              let ran = waiting_runs x l y hall paths steps_law log total (conn_of c) seat after event carried puts arg has.0 has.1 (λ three. other.0 (ap task_of three)) does in
              subst (λ (o : Option path.Load). RoleRan (Talking after) puts (path.runs_talk log total (conn_of c) event.handler None o)) (sym nothing) (talk_back after (path.stays (path.talking None)) ran)
        ]

    -- ---- all of them

    role_runs : (total : ℕ) (role after : Role W T) (place : path.Place) → IsPlacedAt (x.tells first).total c place → HasRole x l y hall paths role place → path.worlds_of_place place + path.worlds_of_load p ≤ 1 → RunsRole x l y log c role event carried after puts total
        → RoleRan after puts (path.runs_place log total c place event p)
    role_runs total (Polling desk) (Polling after) (path.polling d) at has alone does = desk_runs desk after d at has alone does
    role_runs total Accepting Accepting path.accepting at has alone does = accepting_runs total at does
    role_runs total (Talking seat) (Talking after) (path.talking rest) at has alone does = talk_runs total seat after rest at has does
    role_runs total Logging Logging path.logging at has alone does = inr (tt, subst (λ (us : List (Put W L)). ArePuts Loads us []) (sym does) tt)
    role_runs total Logging (Polling after) path.logging at has alone does = absurd does
    role_runs total Logging Accepting path.logging at has alone does = absurd does
    role_runs total Logging (Talking after) path.logging at has alone does = absurd does
    role_runs total (Polling desk) after path.logging at has alone does = absurd has
    role_runs total Accepting after path.logging at has alone does = absurd has
    role_runs total (Talking seat) after path.logging at has alone does = absurd has
    role_runs total (Polling desk) after path.accepting at has alone does = absurd has
    role_runs total (Polling desk) after (path.talking rest) at has alone does = absurd has
    role_runs total Accepting after (path.polling d) at has alone does = absurd has
    role_runs total Accepting after (path.talking rest) at has alone does = absurd has
    role_runs total (Talking seat) after (path.polling d) at has alone does = absurd has
    role_runs total (Talking seat) after path.accepting at has alone does = absurd has
    role_runs total (Polling desk) Accepting (path.polling d) at has alone does = absurd does
    role_runs total (Polling desk) (Talking after) (path.polling d) at has alone does = absurd does
    role_runs total Accepting (Polling after) path.accepting at has alone does = absurd does
    role_runs total Accepting (Talking after) path.accepting at has alone does = absurd does
    role_runs total (Talking seat) (Polling after) (path.talking rest) at has alone does = absurd does
    role_runs total (Talking seat) Accepting (path.talking rest) at has alone does = absurd does
    role_runs total (Polling desk) Logging (path.polling d) at has alone does = absurd does
    role_runs total Accepting Logging path.accepting at has alone does = absurd does
    role_runs total (Talking seat) Logging (path.talking rest) at has alone does = absurd does
    role_runs total Logging after (path.polling d) at has alone does = absurd has
    role_runs total Logging after path.accepting at has alone does = absurd has
    role_runs total Logging after (path.talking rest) at has alone does = absurd has

  -- a handler leaves and puts what the paths say, unless its connection has met want of memory
  pub place_runs : (total : ℕ) → FollowsPaths x l y hall first log paths total
  place_runs total before after event carried puts place p fit at has are alone does sound =
      elim (role_runs before.colour event carried puts fit p are total before.role after.role place at has alone does.does) [ inl spoilt ↦ absurd (true≢false (sym spoilt ∙ sound)) | inr ran ↦ ran ]

-- ---- want of memory stays

met_memory : (end : Option End) → is_memory end ≡ true → end ≡ Some Memory
met_memory None is = cc
met_memory (Some Done) is = cc
met_memory (Some Idle) is = cc
met_memory (Some Fault) is = cc
met_memory (Some Memory) is = refl

module _ {W L T G H : Type 0} (x : WorldWords W L) (l : LinkWords L) (y : TalkWords T L G H) (c : Colour) (event : Event) (carried : Option (Load W L)) (puts : List (Put W L)) (total : ℕ) (log : Bool) where
  seat_spoilt : (i : ℕ) (seat after : Seat T) (b : Bool) → RunsSeat y log total b i seat event carried after puts → is_memory (y.view_of seat.talk).end ≡ true → is_memory (y.view_of after.talk).end ≡ true
  seat_spoilt i seat after true does is = ap is_memory (does.5 Memory (met_memory (y.view_of seat.talk).end is))
  seat_spoilt i seat after false does is = ap (λ (t : T). is_memory (y.view_of t).end) does.0 ∙ is

  role_spoilt : (role after : Role W T) → RunsRole x l y log c role event carried after puts total → is_spoilt_role y role ≡ true → is_spoilt_role y after ≡ true
  role_spoilt (Polling desk) after does is = absurd (true≢false (sym is))
  role_spoilt Accepting after does is = absurd (true≢false (sym is))
  role_spoilt (Talking seat) (Talking after) does is = seat_spoilt (conn_of c) seat after (is_due (conn_of c) (due (y.view_of seat.talk)) event) does is
  role_spoilt (Talking seat) (Polling after) does is = absurd does
  role_spoilt (Talking seat) Accepting does is = absurd does
  role_spoilt (Talking seat) Logging does is = absurd does
  role_spoilt Logging after does is = absurd (true≢false (sym is))

pub stays_spoilt : {W L T G H : Type 0} (x : WorldWords W L) (l : LinkWords L) (y : TalkWords T L G H) (total : ℕ) → StaysSpoilt {H = H} x l y total
stays_spoilt x l y total log before after event carried puts does is = role_spoilt x l y before.colour event carried puts total log before.role after.role does.does is

-- ---- worlds, room, and what there is at first

-- how many worlds a state and a load have
abbrev pub worlds_of_rest : {W : Type 0} → Option (WorldLoad W) → ℕ
worlds_of_rest None = 0
worlds_of_rest (Some held) = 1

-- how many worlds a role has
abbrev pub worlds_of_role : {W T : Type 0} → Role W T → ℕ
worlds_of_role (Polling desk) = worlds_of_rest desk.resting
worlds_of_role Accepting = 0
worlds_of_role (Talking seat) = 0
worlds_of_role Logging = 0

-- how many worlds a state has
abbrev pub worlds_of_state : {H W T : Type 0} → PlaceState H W T → ℕ
worlds_of_state s = worlds_of_role s.role

-- how many worlds a load has
abbrev pub worlds_of_load : {W L : Type 0} → Load W L → ℕ
worlds_of_load (load.World held) = 1
worlds_of_load (load.Link link) = 0
worlds_of_load (load.Line line) = 0

module _ {W L T G H : Type 0} (x : WorldWords W L) (l : LinkWords L) (y : TalkWords T L G H) (hall : H) (paths : List (List Step)) where
  rest_counts : (resting : Option (WorldLoad W)) (rests : Option path.World) → HasRest x l y hall paths resting rests → worlds_of_rest resting ≡ path.worlds_of_rest rests
  rest_counts None None has = refl
  rest_counts None (Some w) has = absurd has
  rest_counts (Some held) None has = absurd has
  rest_counts (Some held) (Some w) has = refl

  role_counts : (role : Role W T) (place : path.Place) → HasRole x l y hall paths role place → worlds_of_role role ≡ path.worlds_of_place place
  role_counts (Polling desk) (path.polling d) has = rest_counts desk.resting d.resting has.resting
  role_counts (Polling desk) path.accepting has = absurd has
  role_counts (Polling desk) path.logging has = absurd has
  role_counts (Polling desk) (path.talking rest) has = absurd has
  role_counts Accepting (path.polling d) has = absurd has
  role_counts Accepting path.accepting has = refl
  role_counts Accepting path.logging has = absurd has
  role_counts Accepting (path.talking rest) has = absurd has
  role_counts (Talking seat) (path.polling d) has = absurd has
  role_counts (Talking seat) path.accepting has = absurd has
  role_counts (Talking seat) (path.talking rest) has = refl
  role_counts (Talking seat) path.logging has = absurd has
  role_counts Logging (path.polling d) has = absurd has
  role_counts Logging path.accepting has = absurd has
  role_counts Logging (path.talking rest) has = absurd has
  role_counts Logging path.logging has = refl

  -- a state has as many worlds as what the paths have of it, and so has a load
  pub state_counts : (s : PlaceState H W T) (place : path.Place) → HasPlace x l y hall paths s place → worlds_of_state s ≡ path.worlds_of_place place
  state_counts s place has = role_counts s.role place has

  pub load_counts : (carried : Load W L) (p : path.Load) → HasLoad x l y hall paths carried p → worlds_of_load carried ≡ path.worlds_of_load (Some p)
  load_counts (load.World held) (path.world w) has = refl
  load_counts (load.World held) (path.link way) has = absurd has
  load_counts (load.World held) path.line has = absurd has
  load_counts (load.Link link) (path.world w) has = absurd has
  load_counts (load.Link link) (path.link way) has = refl
  load_counts (load.Link link) path.line has = absurd has
  load_counts (load.Line line) (path.world w) has = absurd has
  load_counts (load.Line line) (path.link way) has = absurd has
  load_counts (load.Line line) path.line has = refl

  -- a world of which no link was accepted has all paths to come
  pub first_world : (world : W) → HasLoad x l y hall paths (load.World (record { world = world; accepted = 0; failed = false })) (path.world (record { accepted = 0; coming = paths }))
  first_world world = record { accepted = refl; coming = refl }
