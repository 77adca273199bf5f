-- What a connection has told its clerk.
use Rattle.std.specs.Prelude.{◌≡◌, ℕ, ◌+◌, List, [], ◌∷◌, length, Option, ⊤}
use Rattle.sws_link.specs.declared.Link.{Ghosts as LinkWords}
use Rattle.sws_link.specs.Links.{LinkContents}
use Rattle.sws_log.specs.declared.line.LogLine.{LogLine}
use Rattle.sws_steps.specs.declared.Handler.{Handler}
use Rattle.sws_steps.specs.declared.talk.Talk.{Ghosts as TalkWords}
use Rattle.sws_steps.specs.Logs.{IsLineOf}
use Rattle.sws_steps.specs.Talks.{TalkView}
use Rattle.sws_steps.specs.Told.{NumbersFrom, IsLogWithin}

-- a line that was told behind so many others: it names the connection by this number, has the next
-- turn, and is that answer's line in the log, where the link told its input
pub record IsToldBehind (log : List ℕ → List LogLine) (tells : Option LinkContents)
    (number before : ℕ) (line : LogLine) : Type 0 where
  pub conn : line.conn ≡ number
  pub turn : line.turn ≡ before + 1
  pub of_log : IsLineOf log tells line

-- lines that were told one after another, the first behind so many others
abbrev pub AreToldBehind : (List ℕ → List LogLine) → Option LinkContents → ℕ → ℕ → List LogLine
    → Type 0
AreToldBehind log tells number before [] = ⊤
AreToldBehind log tells number before (line ∷ later) =
    IsToldBehind log tells number before line × AreToldBehind log tells number (before + 1) later

module _ {T L G H C : Type 0} (x : LinkWords L) (y : TalkWords T L G H) (number_of : C → ℕ)
    (told_of : C → List LogLine) (first : L) (trail : List Handler) (talk : T) where
  -- the connection was opened over this link and has run these events since, and its clerk was told
  -- each line that it gave, in order
  pub record TellsSo (clerk : C) : Type 0 where
    pub ran : y.has_run first trail talk
    pub many : length (told_of clerk) ≡ (y.view_of talk).lines
    pub told : AreToldBehind (y.log (y.hall_of talk) (number_of clerk)) (x.tells first)
        (number_of clerk) 0 (told_of clerk)

-- each line that was given was told once and in its turn; where the link told its input, they are
-- those of the answers to it that were written whole
pub record TellsEach (log : List ℕ → List LogLine) (tells : Option LinkContents) (view : TalkView)
    (number : ℕ) (told : List LogLine) : Type 0 where
  pub many : length told ≡ view.lines
  pub in_turn : NumbersFrom number 1 told
  pub written : IsLogWithin log tells view.written told
