-- What a run of scripted connections leaves, where it ends well.
use Rattle.std.specs.Prelude.{◌≡◌, ◌≢◌, ◌≤◌, ◌++◌, ℕ, Bool, List, Some, length, map, slice_get}
use Rattle.std.specs.List.{AllByRecursion}
use Rattle.mely_history.specs.declared.entry.Entry.{Entry}
use Rattle.mely_history.specs.declared.shape.Shape.{Shape}
use Rattle.sws_steps.specs.declared.End.TheVariants.{Memory}
use Rattle.sws_handlers.specs.declared.ended.Ended.{Ended}
use Rattle.sws_handlers.specs.declared.ended.Served.{Served}
use Rattle.sws_handlers.specs.declared.ended.Verdict.{Verdict}
use Rattle.sws_handlers.specs.declared.ended.Verdict.TheVariants as verdict
use Rattle.sws_link.specs.LinkItems.{all_bytes}
use Rattle.sws_link.specs.MemLink.{MemLinkState}
use Rattle.sws_link.specs.MemLinks.{bytes_tell}
use Rattle.sws_link.specs.MemWorld.{MemWorldState}
use Rattle.sws_steps.specs.Talks.{Consumes}
use Rattle.sws_script.specs.Scripted.{script_of}
use Rattle.sws_script.specs.declared.input.ScriptConn.{ScriptConn}
use Rattle.sws_replay.specs.Expected.{Expected}
use Rattle.sws_replay.specs.Histories.{AreServed}
use Rattle.sws_replay.specs.Logs.{IsLog}
use Rattle.sws_replay.specs.Transcripts.{alone}

-- the connection was served as if it were alone
pub record IsServedAlone (expected : Expected) (conn : ScriptConn)
    (s : Served MemLinkState) : Type 0 where
  pub link : MemLinkState
  pub there : s.link ≡ Some link
  -- its end and what was written are those of its outcome, in which memory doesn't occur
  pub end : s.end ≡ Some (alone expected conn).end
  pub fine : (alone expected conn).end ≢ Memory
  pub bytes : link.bytes.written ≡ (alone expected conn).bytes
  -- what was written begins the responses to a front of what was taken
  pub consumes : Consumes expected.responses (bytes_tell link.calls.failing link.bytes)
  -- the counts are those of what was written and taken, and what was taken and is left
  -- is all that its lines give
  pub written : s.written ≡ length link.bytes.written
  pub few_written : s.written ≤ expected.output_limit
  pub read : s.read ≡ length link.bytes.input.taken
  pub few_read : s.read ≤ expected.input_limit
  pub input : link.bytes.input.taken ++ all_bytes link.bytes.input.items
      ≡ all_bytes (script_of conn).items

-- the verdict is Ok, and each connection was served as if it were alone
pub record ServesAll (expected : Expected) (conns : List ScriptConn)
    (ended : Ended MemWorldState MemLinkState) : Type 0 where
  pub well : ended.verdict ≡ verdict.Ok
  pub many : length ended.served.items ≡ length conns
  pub each : (i : ℕ) (conn : ScriptConn) (s : Served MemLinkState) → slice_get conns i ≡ Some conn
      → slice_get ended.served.items i ≡ Some s → IsServedAlone expected conn s

-- a run that came to this verdict has lost neither a connection nor its world
abbrev pub HasLostNothing : Verdict → Type 0
HasLostNothing verdict.Ok = Unit {0}
HasLostNothing verdict.World = ⊥
HasLostNothing (verdict.Apart conn) = ⊥
HasLostNothing verdict.Memory = Unit {0}

-- the entries of each shard
abbrev pub histories_of : Ended MemWorldState MemLinkState → List (List Entry)
histories_of ended = map (λ history. history.items) ended.histories.items

-- each of them can be read at run time, or none, as was asked
abbrev pub AreListedAs : Bool → Ended MemWorldState MemLinkState → Type 0
AreListedAs listed ended = AllByRecursion (λ history. history.listed ≡ listed)
    ended.histories.items

-- the run went well, its log has the lines of these connections, and its histories are those of a
-- server that has served them
pub record RunsWell (expected : Expected) (shape : Shape) (conns : List ScriptConn) (log : Bool)
    (ended : Ended MemWorldState MemLinkState) : Type 0 where
  pub serves : ServesAll expected conns ended
  pub logged : IsLog expected conns log ended.log.items
  pub served : AreServed expected shape conns log ended.log.items (histories_of ended)
