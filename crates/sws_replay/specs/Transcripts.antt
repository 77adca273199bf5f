-- The one-core transcript: what is printed of connections that are each served alone. No worker,
-- event or order occurs in it.
use Rattle.std.specs.Prelude.{ℕ, List, map}
use Rattle.sws_steps.specs.Outcome.{Outcome}
use Rattle.sws_steps.specs.declared.End.{End}
use Rattle.sws_report.specs.Transcript.{transcript}
use Rattle.sws_script.specs.Scripted.{script_of}
use Rattle.sws_script.specs.declared.input.ScriptConn.{ScriptConn}
use Rattle.sws_replay.specs.Expected.{Expected}

-- the outcome of a connection, by its lines alone
abbrev pub alone : Expected → ScriptConn → Outcome
alone expected conn = expected.outcome (script_of conn)

-- how it ends, and what is written to it
abbrev pub ended_alone : Expected → ScriptConn → End × List ℕ
ended_alone expected conn = ((alone expected conn).end, (alone expected conn).bytes)

-- the transcript of these connections, in their order
unfoldable pub transcript_of : Expected → List ScriptConn → List ℕ
transcript_of expected conns = transcript (map (ended_alone expected) conns)
