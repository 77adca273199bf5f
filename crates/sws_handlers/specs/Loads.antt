-- What an event may carry, and which event and load fit each other.
use Rattle.std.specs.Prelude.{◌≡◌, ℕ, ◌+◌, ◌≤◌, ◌<◌, false, IsTrue, List, drop, Option, Some, None, ⊤, slice_get, option_map}
use Rattle.mely_event.specs.declared.colour.Colour.{Colour}
use Rattle.mely_event.specs.declared.event.Event.{Event}
use Rattle.sws_link.specs.declared.Link.{Ghosts as LinkWords}
use Rattle.sws_link.specs.declared.world.World.{Ghosts as WorldWords}
use Rattle.sws_link.specs.Counts.{Rose, IsLater, no_faults}
use Rattle.sws_link.specs.Links.{LinkContents, IsInitialLink}
use Rattle.sws_link.specs.Worlds.{WorldContents, Coming, initial_contents}
use Rattle.sws_log.specs.declared.line.LogLine.{LogLine}
use Rattle.sws_steps.specs.declared.talk.Talk.{Ghosts as TalkWords}
use Rattle.sws_steps.specs.Logs.{IsLineOf}
use Rattle.sws_handlers.specs.declared.load.WorldLoad.{WorldLoad}
use Rattle.sws_handlers.specs.declared.load.Load.{Load}
use Rattle.sws_handlers.specs.declared.load.Load.TheVariants as load
use Rattle.sws_handlers.specs.declared.task.Task.{Task}
use Rattle.sws_steps.specs.declared.Handler.TheVariants as handler
use Rattle.sws_handlers.specs.declared.task.Task.TheVariants as task
use Rattle.sws_handlers.specs.Tasks.{task_of}

-- the world of a load, if it has it
abbrev pub world_of : {W L : Type 0} → Option (Load W L) → Option (WorldLoad W)
world_of None = None
world_of (Some (load.World held)) = Some held
world_of (Some (load.Link link)) = None
world_of (Some (load.Line line)) = None

-- the link is the i-th of those to come, where these are known: nothing was taken or written
abbrev pub IsComing : Option (List Coming) → ℕ → Option LinkContents → Type 0
IsComing None i told = IsInitialLink told
IsComing (Some coming) i told = (first : Coming) × (slice_get coming i ≡ Some first)
    × (told ≡ Some (initial_contents first))

-- a line is the one of its turn in the log of its connection's input, where the inputs are known
abbrev pub IsLineIn : (ℕ → List ℕ → List LogLine) → Option (List Coming) → LogLine → Type 0
IsLineIn log None line = ⊤
IsLineIn log (Some coming) line = (one : Coming) → slice_get coming line.conn ≡ Some one
    → IsLineOf (log line.conn) (Some (initial_contents one)) line

-- the line of a load is such a one
abbrev pub TellsLine : {W L : Type 0} → (ℕ → List ℕ → List LogLine) → Option (List Coming)
    → Option (Load W L) → Type 0
TellsLine log coming None = ⊤
TellsLine log coming (Some (load.World held)) = ⊤
TellsLine log coming (Some (load.Link link)) = ⊤
TellsLine log coming (Some (load.Line line)) = IsLineIn log coming line

module _ {W L : Type 0} (x : WorldWords W L) (l : LinkWords L) (first : W) where
  -- what the world told at first
  abbrev pub at_first : WorldContents
  at_first = x.tells first

  -- the world that was given at first, of which so many links were accepted
  pub record WorldStands (held : WorldLoad W) : Type 0 where
    pub total : (x.tells held.world).total ≡ at_first.total
    pub port : (x.tells held.world).port ≡ at_first.port
    pub scripted : (x.tells held.world).scripted ≡ at_first.scripted
    pub accepted : (x.tells held.world).accepted ≡ held.accepted
    pub within : held.accepted ≤ at_first.total
    pub coming : (x.tells held.world).coming
        ≡ option_map (λ c. drop held.accepted c) at_first.coming
    pub faults : IsLater (x.faults first) (x.faults held.world)
    pub failed : IsTrue held.failed → Rose (x.faults first) (x.faults held.world)
    pub sure : IsTrue at_first.scripted → held.failed ≡ false

  -- the link of the i-th connection, to which nothing was done
  pub record LinkStands (i : ℕ) (link : L) : Type 0 where
    pub coming : IsComing at_first.coming i (l.tells link)
    pub not_shut : l.is_shut link ≡ false
    pub no_faults_yet : l.faults link ≡ no_faults
    pub no_waits_yet : l.waits link ≡ no_faults

  -- a poll: 0 where more links are to come, 1 where none is, 2 where the world failed
  pub record PollFits (c : Colour) (arg : ℕ) (held : WorldLoad W) : Type 0 where
    pub colour : c.0 ≡ 0
    pub known : arg ≤ 2
    pub stands : WorldStands held
    pub more : arg ≡ 0 → held.accepted < at_first.total
    pub failing : arg ≡ 2 → Rose (x.faults first) (x.faults held.world)
    pub sure : IsTrue at_first.scripted → arg ≤ 1

  -- an accept: on colour 1, with the world of the run, while more links are to come
  pub record AcceptFits (c : Colour) (arg : ℕ) (held : WorldLoad W) : Type 0 where
    pub colour : c.0 ≡ 1
    pub none : arg ≡ 0
    pub stands : WorldStands held
    pub more : held.accepted < at_first.total

  -- a wait: on colour 0, for a connection of the run
  pub record WaitFits (c : Colour) (i : ℕ) : Type 0 where
    pub colour : c.0 ≡ 0
    pub conn : i < at_first.total

  -- a step: on the colour of a connection of the run
  pub record StepFits (c : Colour) (i : ℕ) : Type 0 where
    pub colour : c.0 ≡ i + 2
    pub conn : i < at_first.total

  -- an opening: on the colour of its connection, with the link of that, still untouched
  pub record OpenFits (c : Colour) (i : ℕ) (link : L) : Type 0 where
    pub step : StepFits c i
    pub initial : LinkStands i link

  -- a line: on the last colour, of a connection of the run, with a turn from 1 on
  pub record LogFits (c : Colour) (i : ℕ) (line : LogLine) : Type 0 where
    pub colour : c.0 ≡ at_first.total + 2
    pub conn : i < at_first.total
    pub own : line.conn ≡ i
    pub numbered : 1 ≤ line.turn

  -- what fits a task: its colour, its argument, and the load it takes, or none
  abbrev pub TaskFits : Colour → ℕ → Option Task → Option (Load W L) → Type 0
  TaskFits c arg (Some task.Poll) (Some (load.World held)) = PollFits c arg held
  TaskFits c arg (Some task.Accept) (Some (load.World held)) = AcceptFits c arg held
  TaskFits c arg (Some (task.Step handler.Open)) (Some (load.Link link)) = OpenFits c arg link
  TaskFits c arg (Some task.Log) (Some (load.Line line)) = LogFits c arg line
  TaskFits c arg (Some task.Wait) None = WaitFits c arg
  TaskFits c arg (Some (task.Step handler.Read)) None = StepFits c arg
  TaskFits c arg (Some (task.Step handler.Parse)) None = StepFits c arg
  TaskFits c arg (Some (task.Step handler.Look)) None = StepFits c arg
  TaskFits c arg (Some (task.Step handler.Write)) None = StepFits c arg
  TaskFits c arg (Some (task.Step handler.Close)) None = StepFits c arg
  TaskFits c arg (Some (task.Step handler.Resume)) None = StepFits c arg
  TaskFits c arg other carried = ⊥

  -- the event and the load fit each other on the colour
  abbrev pub Fit : Colour → Event → Option (Load W L) → Type 0
  Fit c event carried = TaskFits c event.arg (task_of event.handler) carried

-- they do, and the line of a load is one of its connection's log, by what the world told at first
abbrev pub FitsTold : {W L T G H : Type 0} → WorldWords W L → LinkWords L → TalkWords T L G H → H
    → W → Colour → Event → Option (Load W L) → Type 0
FitsTold x l y hall first c event carried = Fit x l first c event carried
    × TellsLine (y.log hall) (x.tells first).coming carried
