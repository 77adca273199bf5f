-- What a parser of an input shows.
use Rattle.std.specs.Prelude.{◌≡◌, ◌≤◌, Bool, true, false, Option, Some, None, MatchBool, MatchOption}
use Rattle.sws_script.specs.declared.input.Input.{Input}
use Rattle.sws_script.specs.declared.parser.Parser.{Parser}
use Rattle.sws_script.specs.declared.line.Line.{Line}
use Rattle.sws_script.specs.Order.{State, state_after, grown, in_script, input_of}
use Rattle.sws_script.specs.Limits.{step_limit}

-- the place and the total of a parser
abbrev pub state : Parser → State
state parser = record { place = parser.place; total = parser.total }

-- the line was added
pub record Adds (old new : Parser) (says : Line) : Type 0 where
  pub state_is : state_after old.cores (state old) says ≡ Some (state new)
  pub contents_are : new.contents ≡ grown old.contents says
  pub cores : new.cores ≡ old.cores
  pub few : new.total ≤ step_limit

-- the line was added, or may not follow
abbrev pub TakesLine : Parser → Parser → Line → Bool → Type 0
TakesLine old new says taken =
    MatchBool taken (Adds old new says) (state_after old.cores (state old) says ≡ None)

-- the lines are those of an input, or of none
abbrev pub Finishes : Parser → Option Input → Type 0
Finishes parser finished = MatchOption finished (in_script parser.place ≡ false) (λ input.
    (in_script parser.place ≡ true) × (input ≡ input_of parser.contents))
