-- A connection that knows whether its last step gave a line of the log.
use Rattle.std.specs.Prelude.{◌≡◌, ◌⊎◌, ℕ, ◌+◌, Bool, true, false, if◌then◌else◌, List, [], ◌∷◌, ◌++◌, Option, Some, None, ⊤}
use Rattle.sws_link.specs.declared.Link.{Ghosts as LinkWords}
use Rattle.sws_link.specs.Links.{LinkContents, input_of, IsInitialLink}
use Rattle.sws_log.specs.declared.line.LogLine.{LogLine}
use Rattle.sws_log.specs.Lines.{lines_within}
use Rattle.sws_steps.specs.Protocol.{Protocol}
use Rattle.sws_steps.specs.declared.Next.TheVariants as next
use Rattle.sws_steps.specs.ConnCore.{ConnCoreState, ConnState, is_sent}
use Rattle.sws_steps.specs.Sound.{IsSound}
use Rattle.sws_steps.specs.Step.{Steps}
use Rattle.sws_steps.specs.declared.Handler.{Handler}
use Rattle.sws_steps.specs.declared.Handler.TheVariants as handler
use Rattle.sws_steps.specs.Path.{event_of}
use Rattle.sws_steps.specs.Logs.{gives_line, line_of}
use Rattle.sws_steps.specs.Run.{conn_at_open}
use Rattle.sws_steps.specs.Talks.{HasRunOpen}

-- a connection, and whether its last step gave a line
pub record TalkState (Hall L : Type 0) : Type 0 where
  pub conn : ConnState Hall L
  pub told : Bool

-- the line that the last step gave, with the number of the connection
abbrev pub line_told : {Hall L : Type 0} → ℕ → TalkState Hall L → Option LogLine
line_told conn talk =
    if talk.told then Some (line_of conn talk.conn.standing.answered talk.conn.standing.note)
    else None

module _ {Hall Answer : Type 0} (p : Protocol Hall Answer) where
  -- after a step that gave a line all is sent, and the search or the close comes next
  pub record IsAfterLine (c : ConnCoreState Hall) : Type 0 where
    pub logs : p.logs ≡ true
    pub sent : is_sent c.parts ≡ true
    pub pending_is : (c.pending ≡ next.Parse) ⊎ (c.pending ≡ next.Close)

  -- so it stands where the last step gave a line
  abbrev pub IsTelling : {L : Type 0} → TalkState Hall L → Type 0
  IsTelling talk = talk.told ≡ true → IsAfterLine talk.conn.standing

  -- what holds at every moment of a connection that knows of its lines
  pub record IsSoundTelling {L : Type 0} (x : LinkWords L) (talk : TalkState Hall L) : Type 0 where
    pub sound : IsSound p x talk.conn
    pub telling : IsTelling talk

module _ {Hall Answer L : Type 0} (p : Protocol Hall Answer) (x : LinkWords L) (first : L) where
  -- the link was just given, which gives no line
  pub record JustOpened (trail : List Handler) (told : Bool) : Type 0 where
    pub trail_is : trail ≡ handler.Open ∷ []
    pub told_is : told ≡ false

  -- the last step led here from a run before it, and gave a line where that is told
  pub record JustStepped (trail : List Handler) (talk : TalkState Hall L) : Type 0 where
    pub earlier : List Handler
    pub event : Handler
    pub before : ConnState Hall L
    pub trail_is : trail ≡ earlier ++ event ∷ []
    pub ran : HasRunOpen p x first earlier before
    pub event_is : event_of before.standing ≡ event ∷ []
    pub steps : Steps p x before talk.conn
    pub told_is : talk.told ≡ gives_line p before.standing talk.conn.standing

  -- it was opened over this link, has run these events since, of which the opening is the first,
  -- and knows whether the last of them gave a line
  pub record HasRunTold (trail : List Handler) (talk : TalkState Hall L) : Type 0 where
    pub ran : HasRunOpen p x first trail talk.conn
    pub last : JustOpened trail talk.told ⊎ JustStepped trail talk

-- ---- the lines of a run

module _ {Hall Answer : Type 0} (p : Protocol Hall Answer) where
  -- the line of a step, if it gives one
  abbrev pub step_lines : ℕ → ConnCoreState Hall → ConnCoreState Hall → List LogLine
  step_lines conn before after =
      if gives_line p before after then line_of conn after.answered after.note ∷ [] else []

  -- these events lead from one connection to another, by a step each, and these lines are what
  -- the steps give, one after another
  unfoldable pub RunsGiving : {L : Type 0} → LinkWords L → ℕ → List Handler → ConnState Hall L
      → ConnState Hall L → List LogLine → Type 0
  RunsGiving x conn [] before after lines = (after ≡ before) × (lines ≡ [])
  RunsGiving {L = L} x conn (event ∷ later) before after lines =
      (between : ConnState Hall L) × (event_of before.standing ≡ event ∷ [])
      × Steps p x before between
      × (more : List LogLine) × (lines ≡ step_lines conn before.standing between.standing ++ more)
      × RunsGiving x conn later between after more

module _ {Hall Answer L : Type 0} (p : Protocol Hall Answer) (x : LinkWords L) (hall : Hall)
    (first : L) where
  -- the connection was opened over this link, which wasn't shut and of which nothing was taken or
  -- written before, has run these events since, and its steps gave these lines
  pub record HasGiven (conn : ℕ) (trail : List Handler) (now : ConnState Hall L)
      (lines : List LogLine) : Type 0 where
    pub limits : p.IsHall hall
    pub initial : IsInitialLink (x.tells first)
    pub not_shut : x.is_shut first ≡ false
    pub gives : RunsGiving p x conn trail (conn_at_open hall first) now lines

-- the lines are of this connection, and their turns count on from here
unfoldable pub NumbersFrom : ℕ → ℕ → List LogLine → Type 0
NumbersFrom conn turn [] = ⊤
NumbersFrom conn turn (line ∷ later) = (line.conn ≡ conn) × (line.turn ≡ turn)
    × NumbersFrom conn (turn + 1) later

-- where the link told its input, the lines are those of the first answers to it whose responses
-- together have no more bytes than were written
abbrev pub IsLogWithin : (List ℕ → List LogLine) → Option LinkContents → ℕ → List LogLine → Type 0
IsLogWithin log None written lines = ⊤
IsLogWithin log (Some tells) written lines = lines ≡ lines_within written (log (input_of tells))
