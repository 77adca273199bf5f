-- The access log of connections that are each served alone. No worker, event or order occurs in it
-- but that of each connection's own lines.
use Rattle.std.specs.Prelude.{◌≡◌, ◌<◌, ℕ, Bool, true, false, List, [], Some, length, slice_get}
use Rattle.std.specs.List.{AllByRecursion}
use Rattle.sws_handlers.specs.LogTurns.{lines_for}
use Rattle.sws_link.specs.LinkItems.{all_bytes}
use Rattle.sws_log.specs.Lines.{lines_within}
use Rattle.sws_log.specs.declared.line.LogLine.{LogLine}
use Rattle.sws_script.specs.Scripted.{script_of}
use Rattle.sws_script.specs.declared.input.ScriptConn.{ScriptConn}
use Rattle.sws_replay.specs.Expected.{Expected}
use Rattle.sws_replay.specs.Transcripts.{alone}

-- the lines of the connection with this number: those of the first answers to its input, as many as
-- are written whole of its outcome
abbrev pub log_alone : Expected → ℕ → ScriptConn → List LogLine
log_alone expected i conn = lines_within (length (alone expected conn).bytes)
    (expected.log i (all_bytes (script_of conn).items))

-- the lines are of these connections, and those of each are its own, in order
pub record AreLogged (expected : Expected) (conns : List ScriptConn)
    (lines : List LogLine) : Type 0 where
  pub known : AllByRecursion (λ line. line.conn < length conns) lines
  pub each : (i : ℕ) (conn : ScriptConn) → slice_get conns i ≡ Some conn
      → lines_for i lines ≡ log_alone expected i conn

-- the lines of a run's log, and none without it
abbrev pub IsLog : Expected → List ScriptConn → Bool → List LogLine → Type 0
IsLog expected conns false lines = lines ≡ []
IsLog expected conns true lines = AreLogged expected conns lines
