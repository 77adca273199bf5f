-- What contracts see of a talk, which is a connection over any hall: how it stands, what opening it
-- does, and what its link was served.
use Rattle.std.specs.Prelude.{◌≡◌, ℕ, ◌⊎◌, IsTrue, Bool, false, List, [], ◌∷◌, ◌++◌, length, map, take, ◌≤◌, Option, Some, None, Result, Ok, Err, ⊤, option_map}
use Rattle.sws_link.specs.declared.Link.{Ghosts as LinkWords}
use Rattle.sws_link.specs.Contents.{IsPrefix}
use Rattle.sws_link.specs.Counts.{Rose, IsLater}
use Rattle.sws_link.specs.Exchanges.{LinkCall, Exchanges, taken_in, written_in}
use Rattle.sws_link.specs.Links.{LinkContents, input_of}
use Rattle.sws_link.specs.Scripts.{Script}
use Rattle.sws_log.specs.declared.line.LogLine.{LogLine}
use Rattle.sws_log.specs.Lines.{lines_within}
use Rattle.sws_steps.specs.declared.End.{End}
use Rattle.sws_steps.specs.declared.End.TheVariants as ending
use Rattle.sws_steps.specs.declared.Next.{Next}
use Rattle.sws_steps.specs.declared.Next.TheVariants as next
use Rattle.sws_steps.specs.Protocol.{Protocol}
use Rattle.sws_steps.specs.ConnCore.{ConnCoreState, ConnState, is_waiting, reported_by, end_at}
use Rattle.sws_steps.specs.Sound.{IsUncut, is_over}
use Rattle.sws_steps.specs.Step.{wait_limit}
use Rattle.sws_steps.specs.Outcome.{Outcome, UnlessMemory}
use Rattle.sws_steps.specs.declared.Handler.{Handler}
use Rattle.sws_steps.specs.declared.Handler.TheVariants as handler
use Rattle.sws_steps.specs.Path.{answers_to_come, due_after}
use Rattle.sws_steps.specs.Logs.{lines_given, Step, last_line}
use Rattle.sws_steps.specs.Run.{HasRun}
use Rattle.sws_steps.specs.Serving.{RoseBy}

-- ---- how it stands

-- a talk, as a server sees it
pub record TalkView : Type 0 where
  -- the step that comes next, which is never `Wait`, and whether it was tried
  -- and the link was not ready
  pub pending : Next
  pub waiting : Bool
  -- the end, as soon as it is known
  pub end : Option End
  -- how many bytes were taken and written, and how many answers were written whole and so have a
  -- line in a log
  pub read : ℕ
  pub written : ℕ
  pub lines : ℕ

-- no link was given yet
abbrev pub unopened_view : TalkView
unopened_view = record {
  pending = next.Open;
  waiting = false;
  end = None;
  read = 0;
  written = 0;
  lines = 0;
}

-- a link was just given
abbrev pub opened_view : TalkView
opened_view = record unopened_view { pending = next.Read }

-- what a step answers that leaves this
abbrev pub reported_next : TalkView → Next
reported_next view = reported_by view.waiting view.pending

-- the end, which is told once the link is shut
abbrev pub reported_end : TalkView → Option End
reported_end view = end_at view.pending view.end

-- the event that does the pending step, if one is pending
abbrev pub due : TalkView → Option Handler
due view = due_after (reported_next view)

-- ---- to open it

module _ {T L : Type 0} (link_of : T → Option L) (view_of : T → TalkView) where
  -- it gets its link, or has one already and hands this one back
  abbrev pub OpensBy : Option L → T → L → Result Next L → T → Type 0
  OpensBy None before link answer after = (answer ≡ Ok next.Read) × (link_of after ≡ Some link)
      × (view_of after ≡ opened_view)
  OpensBy (Some there) before link answer after = (answer ≡ Err link) × (after ≡ before)

  -- the talk was offered a link, which it takes only where it had none
  abbrev pub OpensTalk : T → L → Result Next L → T → Type 0
  OpensTalk before link answer after = OpensBy (link_of before) before link answer after

-- no step is due: there is no link yet, or it is shut
abbrev pub HasNoStep : Next → Type 0
HasNoStep next.Open = ⊤
HasNoStep next.Read = ⊥
HasNoStep next.Parse = ⊥
HasNoStep next.Look = ⊥
HasNoStep next.Write = ⊥
HasNoStep next.Wait = ⊥
HasNoStep next.Close = ⊥
HasNoStep next.Nothing = ⊤

-- ---- what a link was served

-- the bytes of the answered requests, and those that were taken behind them: what was written
-- begins the responses to the first
pub record Consumes (respond : List ℕ → List ℕ) (tells : LinkContents) : Type 0 where
  pub consumed : List ℕ
  pub buffer : List ℕ
  pub taken_is : tells.taken ≡ consumed ++ buffer
  pub begins : IsPrefix tells.written (respond consumed)

-- a link that tells its contents: its input is what it was, what was written begins the responses,
-- and where all is done it is the responses to the whole input
pub record ServesLink (respond : List ℕ → List ℕ) (before now : LinkContents)
    (view : TalkView) : Type 0 where
  pub input : input_of now ≡ input_of before
  pub consumes : Consumes respond now
  pub begins : IsPrefix now.written (respond now.taken)
  pub whole : view.end ≡ Some ending.Done → now.written ≡ respond (input_of before)
  pub read : view.read ≡ length now.taken
  -- as many bytes were written as the answers say, unless a write failed or met want of memory
  -- and may have written more
  pub written : IsUncut view.end ⊎ IsTrue now.says_all → view.written ≡ length now.written

-- a link that told what it has was served, and tells it still
abbrev pub ServesTold : (List ℕ → List ℕ) → Option LinkContents
    → Option LinkContents → TalkView → Type 0
ServesTold respond None now view = now ≡ None
ServesTold respond (Some before) now view = (told : LinkContents) × (now ≡ Some told)
    × ServesLink respond before told view

-- a link that told its answers to come ends with exactly its outcome
abbrev pub ComesTo : Option Outcome → Option LinkContents → End → Type 0
ComesTo None now end = ⊤
ComesTo (Some outcome) now end = UnlessMemory (Some end)
    ((tells : LinkContents) × (now ≡ Some tells)
    × (tells.written ≡ outcome.bytes) × (end ≡ outcome.end))

-- the calls of a link that led from one to the other, whose answers count the bytes
-- that were taken and written
pub record ExchangesBy {L : Type 0} (x : LinkWords L) (first now : L)
    (view : TalkView) : Type 0 where
  pub calls : List LinkCall
  pub leads : Exchanges x.tells x.is_shut x.faults x.waits calls first now
  pub read : view.read ≡ taken_in calls
  pub written : view.written ≡ written_in calls

module _ {L : Type 0} (x : LinkWords L) (respond : List ℕ → List ℕ) (outcome : Script → Outcome)
    (first : L) where
  -- what has become of a link since it was given to a talk
  pub record HasServed (now : L) (view : TalkView) : Type 0 where
    pub told : ServesTold respond (x.tells first) (x.tells now) view
    -- it is shut once nothing is pending any more, and not before
    pub shut : x.is_shut now ≡ is_over view.pending
    -- its counts, and that a fault or idling shows in them
    pub faults : IsLater (x.faults first) (x.faults now)
    pub waits : IsLater (x.waits first) (x.waits now)
    pub fault : view.end ≡ Some ending.Fault → Rose (x.faults first) (x.faults now)
    pub idle : view.end ≡ Some ending.Idle → RoseBy wait_limit (x.waits first) (x.waits now)
    -- the calls that were made of it, whatever it tells
    pub exchange : ExchangesBy x first now view
    -- the outcome, once the link is shut
    pub outcome_is : (end : End) → reported_end view ≡ Some end
        → ComesTo (option_map outcome (answers_to_come (x.tells first))) (x.tells now) end

-- the link is there and was served
abbrev pub ServesNow : {L : Type 0} → (L → TalkView → Type 0) → Option L → TalkView → Type 0
ServesNow Served None view = ⊥
ServesNow Served (Some now) view = Served now view

-- ---- the rest of the path

-- the path of the answers to come, where these are told
abbrev pub path_to_come : (Script → List Handler) → Option LinkContents → Option (List Handler)
path_to_come path tells = option_map path (answers_to_come tells)

-- the rest begins with the event that is due, and is at its end where none is
abbrev pub BeginsWith : Option Handler → List Handler → Type 0
BeginsWith None rest = rest ≡ []
BeginsWith (Some event) rest = (behind : List Handler) × (rest ≡ event ∷ behind)

-- the event is the first of the path, where one is told
abbrev pub IsDue : Option Handler → Option (List Handler) → Type 0
IsDue event None = ⊤
IsDue event (Some rest) = BeginsWith event rest

-- ---- the log

-- as many lines were given as stand first in the log of the whole input and sum to at most the
-- bytes that were written: those of the answers that were written whole
pub record LinesOf (log : List LogLine) (view : TalkView) : Type 0 where
  pub lines : take view.lines log ≡ lines_within view.written log
  pub there : view.lines ≤ length log

-- where the link told its input, as many lines were given as stand first in the log of the whole
-- input and sum to at most the bytes that were written
abbrev pub LinesServed : (List ℕ → List LogLine) → Option LinkContents → TalkView → Type 0
LinesServed log None view = ⊤
LinesServed log (Some tells) view = LinesOf (log (input_of tells)) view

-- the events that were run are the first steps of all, the last of which gave a line where one is
-- told, and the next step is the one that is due
pub record StepsOf (all : List Step) (trail : List Handler) (told : Bool)
    (view : TalkView) : Type 0 where
  pub ran : List Step
  pub rest : List Step
  pub all_is : all ≡ ran ++ rest
  pub trail_is : map (λ step. step.handler) ran ≡ trail
  pub told_is : told ≡ last_line ran
  pub due_is : BeginsWith (due view) (map (λ step. step.handler) rest)

-- the same, where the answers to come are known
abbrev pub StepsBy : (Script → List Step) → Option Script → List Handler → Bool → TalkView → Type 0
StepsBy steps None trail told view = ⊤
StepsBy steps (Some script) trail told view = StepsOf (steps script) trail told view

-- where the link told its answers to come, the events that were run are the first steps of its
-- connection, with whether the last of them gave a line, and the next is the one that is due
abbrev pub StepsServed : (Script → List Step) → Option LinkContents → List Handler → Bool
    → TalkView → Type 0
StepsServed steps tells trail told view = StepsBy steps (answers_to_come tells) trail told view

-- ---- a connection as a talk

-- a connection as a talk
abbrev pub talk_view : {Hall Answer : Type 0} → Protocol Hall Answer → ConnCoreState Hall → TalkView
talk_view p c = record {
  pending = c.pending;
  waiting = is_waiting c;
  end = c.end;
  read = c.read;
  written = c.written;
  lines = lines_given p c;
}

-- it was opened over this link, and has run these events since, of which the opening is the first
abbrev pub HasRunOpen : {Hall Answer L : Type 0} → Protocol Hall Answer → LinkWords L → L
    → List Handler → ConnState Hall L → Type 0
HasRunOpen p x first trail conn = (later : List Handler) × (trail ≡ handler.Open ∷ later)
    × HasRun p x conn.standing.hall first later conn
