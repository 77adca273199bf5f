-- What each handler does, and what it puts.
use Rattle.std.specs.Prelude.{◌≡◌, ℕ, ◌+◌, ◌-◌, ◌==◌, ◌||◌, ◌&&◌, not, Bool, true, false, if◌then◌else◌, List, [], ◌∷◌, ◌++◌, map, Option, Some, None, is_some as is_there, IfSome}
use Rattle.mely_event.specs.declared.colour.Colour.{Colour}
use Rattle.mely_event.specs.declared.event.Event.{Event}
use Rattle.sws_link.specs.declared.Link.{Ghosts as LinkWords}
use Rattle.sws_link.specs.declared.world.World.{Ghosts as WorldWords}
use Rattle.sws_link.specs.declared.Polled.{Polled}
use Rattle.sws_link.specs.declared.Polled.TheVariants as polled
use Rattle.sws_link.specs.declared.Accepted.{Accepted}
use Rattle.sws_link.specs.declared.Accepted.TheVariants as accepted
use Rattle.sws_link.specs.Worlds.{Polls, Accepts}
use Rattle.sws_log.specs.declared.line.LogLine.{LogLine}
use Rattle.sws_steps.specs.declared.End.{End}
use Rattle.sws_steps.specs.declared.talk.Talk.{Ghosts as TalkWords}
use Rattle.sws_steps.specs.Logs.{bit}
use Rattle.sws_steps.specs.declared.Handler.{Handler}
use Rattle.sws_steps.specs.declared.Handler.TheVariants as handler
use Rattle.sws_conn.specs.Talks.{opened_view, due}
use Rattle.sws_handlers.specs.declared.load.WorldLoad.{WorldLoad}
use Rattle.sws_handlers.specs.declared.load.Load.{Load}
use Rattle.sws_handlers.specs.declared.load.Load.TheVariants as load
use Rattle.sws_handlers.specs.declared.place.Desk.{Desk}
use Rattle.sws_handlers.specs.declared.place.Seat.{Seat}
use Rattle.sws_handlers.specs.declared.place.Role.{Role}
use Rattle.sws_handlers.specs.declared.place.Role.TheVariants.{Polling, Accepting, Talking, Logging}
use Rattle.sws_handlers.specs.declared.task.Task.{Task}
use Rattle.sws_handlers.specs.declared.task.Task.TheVariants as task
use Rattle.sws_handlers.specs.Tasks.{task_of, number_of, event_of}
use Rattle.sws_handlers.specs.Place.{PlaceState}
use Rattle.sws_handlers.specs.Waiting.{TakenOff, waiting_with}

-- what a handler puts: a colour, an event, and its load
abbrev pub Put : Type 0 → Type 0 → Type 0
Put W L = Colour × Event × Option (Load W L)

-- ---- what may be put

-- the poll, with the world
abbrev pub poll_put : {W L : Type 0} → ℕ → WorldLoad W → Put W L
poll_put arg held = (record { 0 = 0 }, event_of task.Poll arg, Some (load.World held))

-- the accept, with the world
abbrev pub accept_put : {W L : Type 0} → WorldLoad W → Put W L
accept_put held = (record { 0 = 1 }, event_of task.Accept 0, Some (load.World held))

-- colour 0 is asked to wait for a connection
abbrev pub wait_put : {W L : Type 0} → ℕ → Put W L
wait_put conn = (record { 0 = 0 }, event_of task.Wait conn, None)

-- a connection is opened, with its link
abbrev pub open_put : {W L : Type 0} → ℕ → L → Put W L
open_put conn link =
    (record { 0 = conn + 2 }, event_of (task.Step handler.Open) conn, Some (load.Link link))

-- a step of a connection
abbrev pub step_put : {W L : Type 0} → ℕ → Handler → Put W L
step_put conn step = (record { 0 = conn + 2 }, event_of (task.Step step) conn, None)

-- the next step is put on the connection's colour; where the link was not ready, colour
-- 0 is asked to wait for it
abbrev pub next_put : {W L : Type 0} → ℕ → Handler → Put W L
next_put conn handler.Open = step_put conn handler.Open
next_put conn handler.Read = step_put conn handler.Read
next_put conn handler.Parse = step_put conn handler.Parse
next_put conn handler.Look = step_put conn handler.Look
next_put conn handler.Write = step_put conn handler.Write
next_put conn handler.Close = step_put conn handler.Close
next_put conn handler.Resume = wait_put conn

-- a line of a connection goes to the last colour of so many links
abbrev pub log_put : {W L : Type 0} → ℕ → ℕ → LogLine → Put W L
log_put total conn line =
    (record { 0 = total + 2 }, event_of task.Log conn, Some (load.Line line))

-- ---- polling

-- what is known in a poll: who waits, whether no more links come, whether the world
-- failed, and who is resumed
pub record Asked : Type 0 where
  pub waiting : List ℕ
  pub last : Bool
  pub failed : Bool
  pub resumed : List ℕ

-- what the answer tells
abbrev pub Answered : List ℕ → Bool → Polled → Asked → Type 0
Answered waiting last (polled.Ready conn) asked = TakenOff conn waiting asked.waiting
    × (asked.last ≡ last) × (asked.failed ≡ false) × (asked.resumed ≡ conn ∷ [])
Answered waiting last polled.Quiet asked = asked ≡ record {
  waiting = waiting;
  last = last;
  failed = false;
  resumed = [];
}
Answered waiting last polled.Failed asked = asked ≡ record {
  waiting = waiting;
  last = true;
  failed = true;
  resumed = [];
}

-- somebody waits
abbrev pub is_some : List ℕ → Bool
is_some [] = false
is_some (w ∷ ws) = true

-- the world is asked where it hasn't failed, and more links are to come or somebody waits
abbrev pub is_to_ask : List ℕ → Bool → Bool → Bool
is_to_ask waiting last failed = not failed && (not last || is_some waiting)

-- where the world has failed, the first of those that wait is resumed
abbrev pub resume_first : Bool → List ℕ → Asked → Asked
resume_first true (first ∷ rest) asked =
    record asked { waiting = rest; resumed = asked.resumed ++ first ∷ [] }
resume_first true [] asked = asked
resume_first false waiting asked = asked

-- where the world failed, the first that waits goes on
abbrev pub resumed_one : Asked → Asked
resumed_one asked = resume_first asked.failed asked.waiting asked

-- how the world goes on: to the next accept, to another poll for those that wait, or to rest
abbrev pub onward : {W L : Type 0} → Bool → List ℕ → WorldLoad W → List (Put W L)
onward false waiting held = accept_put held ∷ []
onward true (w ∷ ws) held = poll_put 1 held ∷ []
onward true [] held = []

-- the world that rests at the desk afterwards: where nothing more is to be
-- accepted and nobody waits
abbrev pub rest_of : {W : Type 0} → Bool → List ℕ → WorldLoad W → Option (WorldLoad W)
    → Option (WorldLoad W)
rest_of false waiting held resting = resting
rest_of true (w ∷ ws) held resting = resting
rest_of true [] held resting = Some held

-- a world that rests is woken by it
abbrev pub woken_by : {W L : Type 0} → Option (WorldLoad W) → List (Put W L)
woken_by None = []
woken_by (Some held) = poll_put 1 held ∷ []

-- the next poll: 1 after the last link
abbrev pub poll_after : Bool → ℕ
poll_after last = if last then 1 else 0

-- what an accept puts: by what the world answered
abbrev pub accept_puts : {W L : Type 0} → ℕ → WorldLoad W → W → Accepted L → List (Put W L)
accept_puts total held now (accepted.Link link) =
    poll_put (poll_after (held.accepted + 1 == total)) (record {
      world = now;
      accepted = held.accepted + 1;
      failed = held.failed;
    }) ∷ open_put held.accepted link ∷ []
accept_puts total held now accepted.NotYet =
    poll_put 0 (record { world = now; accepted = held.accepted; failed = held.failed }) ∷ []
accept_puts total held now accepted.Failed =
    poll_put 2 (record { world = now; accepted = held.accepted; failed = held.failed }) ∷ []

-- what is put after a step
abbrev pub next_puts : {W L : Type 0} → ℕ → Option Handler → List (Put W L)
next_puts conn None = []
next_puts conn (Some step) = next_put conn step ∷ []

-- a line that was given is put where there is a log
abbrev pub line_puts : {W L : Type 0} → Bool → ℕ → ℕ → Option LogLine → List (Put W L)
line_puts log total conn None = []
line_puts true total conn (Some line) = log_put total conn line ∷ []
line_puts false total conn (Some line) = []

-- the event is the due one: its handler and its argument are
abbrev pub is_due : ℕ → Option Handler → Event → Bool
is_due conn None event = false
is_due conn (Some step) event = (event.handler == number_of step) && (event.arg == conn)

-- the first stray event, with one more
abbrev pub stray_of : Option Event → Event → Option Event
stray_of None event = Some event
stray_of (Some first) event = Some first

-- the number of a connection's colour
abbrev pub conn_of : Colour → ℕ
conn_of c = c.0 - 2

-- a connection waits now, and a world that rested polls again
pub record RunsWait {W L : Type 0} (desk : Desk W) (conn : ℕ) (after : Desk W)
    (puts : List (Put W L)) : Type 0 where
  pub waiting : after.waiting.items ≡ waiting_with conn desk.waiting.items
  pub last : after.last ≡ desk.last
  pub resting : after.resting ≡ None
  pub puts_are : puts ≡ woken_by desk.resting

module _ {W L : Type 0} (x : WorldWords W L) where
  -- the world is asked, or not
  abbrev pub Asks : Bool → W → List ℕ → Bool → Bool → W → Asked → Type 0
  Asks true world waiting last failed now asked = (answer : Polled)
      × Polls x.tells x.faults x.waits world waiting answer now × Answered waiting last answer asked
  Asks false world waiting last failed now asked = (now ≡ world)
      × (asked ≡ record { waiting = waiting; last = last; failed = failed; resumed = [] })

  -- the world is polled where there is a need: who is ready resumes, and the world goes on or rests
  pub record RunsPoll (desk : Desk W) (arg : ℕ) (held : WorldLoad W) (after : Desk W)
      (puts : List (Put W L)) : Type 0 where
    pub now : W
    pub asked : Asked
    pub asks : let last = desk.last || not (arg == 0) in let failed = held.failed || (arg == 2) in
        Asks (is_to_ask desk.waiting.items last failed) held.world
        desk.waiting.items last failed now asked
    pub waiting : after.waiting.items ≡ (resumed_one asked).waiting
    pub last : after.last ≡ asked.last
    pub resting : after.resting ≡ rest_of asked.last (resumed_one asked).waiting
        (record { world = now; accepted = held.accepted; failed = asked.failed }) desk.resting
    pub puts_are : puts ≡ map (λ conn. step_put conn handler.Resume) (resumed_one asked).resumed
        ++ onward asked.last (resumed_one asked).waiting (record {
          world = now;
          accepted = held.accepted;
          failed = asked.failed;
        })

  -- colour 0 polls with a world, or lets a connection wait; any other event does nothing there
  abbrev pub RunsDesk : Desk W → Option Task → ℕ → Option (Load W L) → Desk W
      → List (Put W L) → Type 0
  RunsDesk desk (Some task.Poll) arg (Some (load.World held)) after puts =
      RunsPoll desk arg held after puts
  RunsDesk desk (Some task.Wait) arg None after puts = RunsWait desk arg after puts
  RunsDesk desk other arg carried after puts = (after ≡ desk) × (puts ≡ [])

module _ {W L : Type 0} (x : WorldWords W L) (l : LinkWords L) where
  -- the world is asked for its next link, and its answer says what is put
  pub record RunsAccept (total : ℕ) (held : WorldLoad W) (puts : List (Put W L)) : Type 0 where
    pub answer : Accepted L
    pub now : W
    pub accepts : Accepts x.tells x.faults x.waits l.tells l.is_shut l.faults
        l.waits held.world answer now
    pub puts_are : puts ≡ accept_puts total held now answer

  -- colour 1 accepts with a world; any other event does nothing there
  abbrev pub RunsAccepting : ℕ → Option Task → Option (Load W L) → List (Put W L) → Type 0
  RunsAccepting total (Some task.Accept) (Some (load.World held)) puts = RunsAccept total held puts
  RunsAccepting total other carried puts = puts ≡ []

-- an end that is known stays
abbrev pub KeepsEnd : {T L G H : Type 0} → TalkWords T L G H → T → T → Type 0
KeepsEnd y before after = (end : End) → (y.view_of before).end ≡ Some end
    → (y.view_of after).end ≡ Some end

module _ {W L T G H : Type 0} (y : TalkWords T L G H) where
  -- the step: the opening takes the link of the load, every other step is one more of the run
  abbrev pub Stepped : T → Option Handler → Option (Load W L) → T → Type 0
  Stepped before None carried after = ⊥
  Stepped before (Some handler.Open) carried after = (link : L) × (carried ≡ Some (load.Link link))
      × y.has_run link (handler.Open ∷ []) after × (y.view_of after ≡ opened_view)
  Stepped before (Some step) carried after = (first : L) (ran : List Handler)
      → y.has_run first ran before → y.has_run first (ran ++ step ∷ []) after

  -- the step gave a line or none; the next step is put, and behind it the line
  pub record PutsNext (log : Bool) (total conn : ℕ) (before after : T)
      (puts : List (Put W L)) : Type 0 where
    pub line : Option LogLine
    pub told : is_there line ≡ y.told after
    pub lines : (y.view_of after).lines ≡ (y.view_of before).lines + bit (is_there line)
    pub numbered : IfSome line (λ line.
        (line.conn ≡ conn) × (line.turn ≡ (y.view_of after).lines))
    pub puts_are : puts ≡ next_puts conn (due (y.view_of after)) ++ line_puts log total conn line

  -- the due event does its step, and the next one is put; any other event is stray,
  -- of which the first is kept
  abbrev pub RunsSeat : Bool → ℕ → Bool → ℕ → Seat T → Event → Option (Load W L) → Seat T
      → List (Put W L) → Type 0
  RunsSeat log total true conn seat event carried after puts =
      Stepped seat.talk (due (y.view_of seat.talk)) carried after.talk × (after.stray ≡ seat.stray)
      × (y.hall_of after.talk ≡ y.hall_of seat.talk)
      × (is_due conn (due (y.view_of after.talk)) (event_of (task.Step handler.Open) conn) ≡ false)
      × PutsNext log total conn seat.talk after.talk puts
      × KeepsEnd y seat.talk after.talk
  RunsSeat log total false conn seat event carried after puts = (after.talk ≡ seat.talk)
      × (after.stray ≡ stray_of seat.stray event) × (puts ≡ [])

-- the line of a load
abbrev pub line_in : {W L : Type 0} → Option (Load W L) → List LogLine
line_in None = []
line_in (Some (load.World held)) = []
line_in (Some (load.Link link)) = []
line_in (Some (load.Line line)) = line ∷ []

-- what joins the lines of a state, by its role
abbrev pub logged : {W L T : Type 0} → Role W T → Option (Load W L) → List LogLine
logged (Polling desk) carried = []
logged Accepting carried = []
logged (Talking seat) carried = []
logged Logging carried = line_in carried

module _ {W L T G H : Type 0} (x : WorldWords W L) (l : LinkWords L) (y : TalkWords T L G H)
    (log : Bool) where
  -- a role does its own events, of polling, of accepting, of talking or of the log, and stays of
  -- its kind
  abbrev pub RunsRole : Colour → Role W T → Event → Option (Load W L) → Role W T
      → List (Put W L) → ℕ → Type 0
  RunsRole c (Polling desk) event carried (Polling after) puts total =
      RunsDesk x desk (task_of event.handler) event.arg carried after puts
  RunsRole c Accepting event carried Accepting puts total =
      RunsAccepting x l total (task_of event.handler) carried puts
  RunsRole c (Talking seat) event carried (Talking after) puts total =
      RunsSeat y log total (is_due (conn_of c) (due (y.view_of seat.talk)) event) (conn_of c) seat
      event carried after puts
  RunsRole c Logging event carried Logging puts total = puts ≡ []
  RunsRole c role event carried after puts total = ⊥

  -- what the handler of an event does: the event joins the trail, at the log its line joins the
  -- lines, and all else but the role stays
  pub record Runs (total : ℕ) (before : PlaceState H W T) (event : Event)
      (carried : Option (Load W L)) (after : PlaceState H W T)
      (puts : List (Put W L)) : Type 0 where
    pub colour : after.colour ≡ before.colour
    pub hall : after.hall ≡ before.hall
    pub first : after.first ≡ before.first
    pub trail : after.trail ≡ before.trail ++ event ∷ []
    pub lines : after.lines.came ≡ before.lines.came ++ logged before.role carried
    pub does : RunsRole before.colour before.role event carried after.role puts total
