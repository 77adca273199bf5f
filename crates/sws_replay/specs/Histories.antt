-- Which histories a run of scripted connections may leave.
use Rattle.std.specs.Prelude.{◌≡◌, ◌+◌, ℕ, Bool, true, List, Some, length, map, slice_get}
use Rattle.mely_event.specs.declared.colour.Colour.{Colour}
use Rattle.mely_history.specs.History.{ran_of}
use Rattle.mely_history.specs.Legal.{AreLegal, IsDrained}
use Rattle.mely_history.specs.Setup.{colours_of}
use Rattle.mely_history.specs.declared.entry.Entry.{Entry}
use Rattle.mely_history.specs.declared.setup.Setup.{Setup}
use Rattle.mely_history.specs.declared.shape.Shape.{Shape}
use Rattle.mely_machine.specs.Rules.{rules_of}
use Rattle.mely_weave.specs.Side.{shard_of}
use Rattle.sws_handlers.specs.Counting.{colours_over}
use Rattle.sws_handlers.specs.Tasks.{event_for}
use Rattle.sws_weave.specs.ServerRun.{server_rules}
use Rattle.sws_log.specs.declared.line.LogLine.{LogLine}
use Rattle.sws_script.specs.Scripted.{script_of}
use Rattle.sws_script.specs.declared.input.ScriptConn.{ScriptConn}
use Rattle.sws_replay.specs.Expected.{Expected}

-- the colour of a connection; the log has the one behind those of all connections
abbrev pub colour_for : ℕ → Colour
colour_for i = record { 0 = i + 2 }

-- the histories of a server of this shape that has served these connections: one for each shard,
-- legal and drained, by which the events that were run of each connection are those of its path,
-- and with the log those of its colour are of the connections of its lines, in order
pub record AreServed (expected : Expected) (shape : Shape) (conns : List ScriptConn) (log : Bool)
    (lines : List LogLine) (histories : List (List Entry)) : Type 0 where
  pub setup : Setup
  -- of the shape, with the server's handlers, its first colour pinned, and two colours more than
  -- connections, or three with the log
  pub rules : rules_of setup ≡ server_rules shape
  pub colours : colours_of setup ≡ colours_over (length conns) log
  pub shards : length histories ≡ shape.shards
  pub legal : AreLegal setup histories
  pub drained : (shard : ℕ) (history : List Entry) → slice_get histories shard ≡ Some history
      → IsDrained history
  pub paths : (i : ℕ) (conn : ScriptConn) (history : List Entry) → slice_get conns i ≡ Some conn
      → slice_get histories (shard_of setup (colour_for i)) ≡ Some history
      → ran_of history (colour_for i) ≡ map (event_for i) (expected.path (script_of conn))
  pub logged : log ≡ true → (history : List Entry)
      → slice_get histories (shard_of setup (colour_for (length conns))) ≡ Some history
      → map (λ event. event.arg) (ran_of history (colour_for (length conns)))
      ≡ map (λ line. line.conn) lines
