-- The log of a connection of HTTP: a line for each answer, numbered from 1; and the lines that its
-- steps give.
use Rattle.std.specs.Prelude.{ℕ, ◌+◌, List, [], ◌∷◌}
use Rattle.std.proofs.Common.{◌≡◌, refl, ap}
use Rattle.sws_link.specs.declared.Link.{Ghosts as LinkWords}
use Rattle.sws_link.specs.Scripts.{Script}
use Rattle.sws_log.specs.declared.line.LogLine.{LogLine}
use Rattle.sws_site.specs.Site.{SiteState}
use Rattle.sws_answer.specs.Answers.{Answer}
use Rattle.sws_answer.specs.Responses.{answers_to}
use Rattle.sws_steps.specs.Logs as logs
use Rattle.sws_steps.specs.Told as told
use Rattle.sws_conn.specs.Http.{http, note_of}
use Rattle.sws_conn.specs.Conn.{ConnState}
use Rattle.sws_steps.specs.declared.Handler.{Handler}
pub use Rattle.sws_steps.specs.Logs.{line_of, IsLineOf, IsLogPrefix, Step}
pub use Rattle.sws_steps.specs.Told.{NumbersFrom, IsLogWithin}

-- the line of the answer with this number: its code, the length of the whole response, and the
-- first 64 bytes of the target that was asked for
abbrev pub answer_line : ℕ → ℕ → Answer → LogLine
answer_line conn turn answer = line_of conn turn (note_of answer)

-- the lines of answers that are numbered from here on
unfoldable pub log_from : ℕ → ℕ → List Answer → List LogLine
log_from conn turn [] = []
log_from conn turn (answer ∷ later) = answer_line conn turn answer ∷ log_from conn (turn + 1) later

-- the lines of all answers to the bytes of a connection
abbrev pub log_of : SiteState → ℕ → List ℕ → List LogLine
log_of site conn bytes = log_from conn 1 (answers_to site bytes)

-- it is the log of HTTP as of any protocol
pub log_from-is : (conn turn : ℕ) (given : List Answer)
    → logs.log_from http conn turn given ≡ log_from conn turn given
unfolding logs.log_from log_from
log_from-is conn turn [] = refl
log_from-is conn turn (answer ∷ later) =
    ap (λ lines. answer_line conn turn answer ∷ lines) (log_from-is conn (turn + 1) later)

-- so the log of a connection is what the laws of all connections speak of
pub log_of-is : (site : SiteState) (conn : ℕ) (bytes : List ℕ)
    → logs.log_of http site conn bytes ≡ log_of site conn bytes
log_of-is site conn bytes = log_from-is conn 1 (answers_to site bytes)

-- ---- the lines of the steps

-- the steps of a scripted connection: its path, with the lines that it gives
abbrev pub steps_of : SiteState → Script → List Step
steps_of site script = logs.steps_of http site script

module _ {L : Type 0} (x : LinkWords L) (site : SiteState) (first : L) where
  -- the connection, which has this number, was opened over this link, has run these events since,
  -- and its steps gave these lines
  abbrev pub HasGiven : ℕ → List Handler → ConnState L → List LogLine → Type 0
  HasGiven conn trail now lines = told.HasGiven http x site first conn trail now lines
