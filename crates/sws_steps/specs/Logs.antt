-- The access log of a connection: which steps give a line, what the lines are, and the steps of a
-- scripted connection with the lines that they give.
use Rattle.std.specs.Prelude.{◌≡◌, ℕ, ◌+◌, ◌-◌, ◌≤◌, Bool, true, false, ◌&&◌, if◌then◌else◌, List, [], ◌∷◌, ◌++◌, slice_get, Option, Some, None, ⊤}
use Rattle.sws_link.specs.Links.{LinkContents, input_of}
use Rattle.sws_link.specs.Scripts.{Script}
use Rattle.sws_log.specs.declared.line.LogLine.{LogLine}
use Rattle.sws_steps.specs.Protocol.{Protocol}
use Rattle.sws_steps.specs.declared.note.Note.{Note}
use Rattle.sws_steps.specs.declared.Next.{Next}
use Rattle.sws_steps.specs.declared.Next.TheVariants as next
use Rattle.sws_steps.specs.ConnCore.{ConnCoreState, is_sent}
use Rattle.sws_steps.specs.Sound.{core_before_open}
use Rattle.sws_steps.specs.declared.Handler.{Handler}
use Rattle.sws_steps.specs.Path.{Scripted, scripted_step, path_of}

-- ---- which steps give a line

-- a write is pending
abbrev pub is_write : Next → Bool
is_write next.Open = false
is_write next.Read = false
is_write next.Parse = false
is_write next.Look = false
is_write next.Write = true
is_write next.Wait = false
is_write next.Close = false
is_write next.Nothing = false

-- 1 where it is so, and else 0
abbrev pub bit : Bool → ℕ
bit b = if b then 1 else 0

module _ {Hall Answer : Type 0} (p : Protocol Hall Answer) where
  -- a step gives a line where it is a write that leaves nothing of an answer
  abbrev pub gives_line : ConnCoreState Hall → ConnCoreState Hall → Bool
  gives_line before after = p.logs && is_write before.pending && is_sent after.parts

  -- how many lines were given: one for each answer that was written whole
  abbrev pub lines_given : ConnCoreState Hall → ℕ
  lines_given c =
      if p.logs then (if is_sent c.parts then c.answered else c.answered - 1) else 0

-- ---- the lines

-- the line of the answer with this number, from 1, of the connection with that one, from 0
abbrev pub line_of : ℕ → ℕ → Note → LogLine
line_of conn turn note = record {
  conn = conn;
  turn = turn;
  code = note.code;
  length = note.length;
  target = note.target;
}

-- a line of such a log, by its turn, where the link told its input
abbrev pub IsLineOf : (List ℕ → List LogLine) → Option LinkContents → LogLine → Type 0
IsLineOf log None line = ⊤
IsLineOf log (Some tells) line = (1 ≤ line.turn)
    × (slice_get (log (input_of tells)) (line.turn - 1) ≡ Some line)

module _ {Hall Answer : Type 0} (p : Protocol Hall Answer) where
  -- the lines of answers that are numbered from here on
  unfoldable pub log_from : ℕ → ℕ → List Answer → List LogLine
  log_from conn turn [] = []
  log_from conn turn (answer ∷ later) =
      line_of conn turn (p.note answer) ∷ log_from conn (turn + 1) later

  -- the lines of all answers to the bytes of a connection, where its protocol logs
  abbrev pub log_of : Hall → ℕ → List ℕ → List LogLine
  log_of hall conn bytes = if p.logs then log_from conn 1 (p.answers_to hall bytes) else []

-- the first lines are a front of the second
abbrev pub IsLogPrefix : List LogLine → List LogLine → Type 0
IsLogPrefix front whole = (behind : List LogLine) × (whole ≡ front ++ behind)

-- ---- the steps of a scripted connection

-- a step: the handler that does it, and whether it gives a line
pub record Step : Type 0 where
  pub handler : Handler
  pub line : Bool

-- whether the last of these steps gave a line
abbrev pub last_line : List Step → Bool
last_line [] = false
last_line (step ∷ []) = step.line
last_line (step ∷ next ∷ later) = last_line (next ∷ later)

module _ {Hall Answer : Type 0} (p : Protocol Hall Answer) where
  -- the step that is pending, done by this handler
  abbrev pub step_by : Scripted Hall → Handler → Step
  step_by c handler = record {
    handler = handler;
    line = gives_line p c.standing (scripted_step p c).standing;
  }

  -- the steps along these events, each from what the one before it left
  unfoldable pub steps_along : Scripted Hall → List Handler → List Step
  steps_along c [] = []
  steps_along c (event ∷ later) = step_by c event ∷ steps_along (scripted_step p c) later

  -- the steps of a scripted connection: its path, with the lines that it gives
  abbrev pub steps_of : Hall → Script → List Step
  steps_of hall script =
      steps_along (record { standing = core_before_open hall; script = script })
      (path_of p hall script)
