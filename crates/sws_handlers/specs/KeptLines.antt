-- The lines of the access log at the colour that keeps it, as contracts see them.
use Rattle.std.specs.Prelude.{◌≡◌, Bool, false, List, []}
use Rattle.sws_log.specs.declared.line.LogLine.{LogLine}
use Rattle.sws_steps.specs.Logs.{IsLogPrefix}

-- all that came, those that are kept, and whether one was lost for want of memory
pub record KeptLinesState : Type 0 where
  pub came : List LogLine
  pub kept : List LogLine
  pub lost : Bool

-- none yet
abbrev pub no_lines : KeptLinesState
no_lines = record { came = []; kept = []; lost = false }

-- the first of those that came are kept, and all of them where none was lost
pub record AreKept (lines : KeptLinesState) : Type 0 where
  pub front : IsLogPrefix lines.kept lines.came
  pub all : lines.lost ≡ false → lines.kept ≡ lines.came
