-- What becomes of a parser with one line of a text more.
use Rattle.std.specs.Prelude.{◌≡◌, ◌≢◌, ℕ, List, length, Result, Ok, Err, None, ⊤}
use Rattle.sws_script.specs.declared.parser.Parser.{Parser}
use Rattle.sws_script.specs.declared.fault.ScriptFault.{ScriptFault}
use Rattle.sws_script.specs.declared.fault.ScriptFault.TheVariants.{Bad, TooMany, Memory}
use Rattle.sws_script.specs.declared.line.Line.{Line}
use Rattle.sws_script.specs.declared.line.Line.TheVariants as line
use Rattle.sws_script.specs.Lines.{IsSpelled}
use Rattle.sws_script.specs.Order.{state_after, conns_of}
use Rattle.sws_script.specs.Parsers.{state, Adds}
use Rattle.sws_link.specs.Limits.{conn_limit}

-- the line was added, and begins no connection too many
pub record AddsSpelled (old new : Parser) (text : List ℕ) : Type 0 where
  pub says : Line
  pub spelled : IsSpelled text says
  pub adds : Adds old new says
  pub room : says ≡ line.Conn → length (conns_of old.contents) ≢ conn_limit

-- a line was added, or refused as one outside the grammar, as one that may not follow, or
-- as one connection too many
abbrev pub AddsLine : Parser → Parser → List ℕ → ℕ → Result (Unit {0}) ScriptFault → Type 0
AddsLine old new text number (Ok done) = AddsSpelled old new text
AddsLine old new text number (Err (Bad at)) = (at ≡ number)
    × ((says : Line) → IsSpelled text says → state_after old.cores (state old) says ≡ None)
AddsLine old new text number (Err (TooMany at)) = (at ≡ number) × IsSpelled text line.Conn
    × (length (conns_of old.contents) ≡ conn_limit)
AddsLine old new text number (Err Memory) = ⊤
