-- What a checker of journals says of the journal that a replay writes.
use Rattle.std.specs.Prelude.{◌≡◌, ◌+◌, ◌<◌, ℕ, Bool, List, ◌++◌, length}
use Rattle.mely_event.specs.HandlerTable.{rows_of}
use Rattle.mely_history.specs.Setup.{shape_of, colours_of, handlers_of, pinned_of}
use Rattle.mely_history.specs.declared.entry.Entry.{Entry}
use Rattle.mely_history.specs.declared.setup.Setup.{Setup}
use Rattle.mely_history.specs.declared.shape.Shape.{Shape}
use Rattle.mely_check.specs.Journals.{entries_in, line_limit}
use Rattle.mely_check.specs.Verdicts.{IsDrainedRun}
use Rattle.sws_handlers.specs.Counting.{colours_over}
use Rattle.sws_weave.specs.ServerRun.{handler_rows}
use Rattle.sws_log.specs.Lines.{log_text}
use Rattle.sws_log.specs.declared.line.LogLine.{LogLine}
use Rattle.mely_journal.specs.Journal.{journal}
use Rattle.sws_script.specs.declared.input.ScriptConn.{ScriptConn}
use Rattle.sws_replay.specs.Expected.{Expected}
use Rattle.sws_replay.specs.Logs.{IsLog}
use Rattle.sws_replay.specs.Transcripts.{transcript_of}

-- the setup of the server's runs with so many connections: a colour of polling, which stays on its
-- core, one of accepting, one for each connection, and one of the log where it is kept
pub record IsServerSetup (connections : ℕ) (log : Bool) (shape : Shape)
    (setup : Setup) : Type 0 where
  pub shape_is : shape_of setup ≡ shape
  pub colours : colours_of setup ≡ colours_over connections log
  pub handlers : rows_of (handlers_of setup) ≡ handler_rows
  pub pinned : pinned_of setup ≡ 1

-- the text is the journal of a legal and drained run of the server, with the log or without it, as
-- a checker has it that accepts a journal
abbrev pub IsServerJournal : ℕ → Bool → Shape → List ℕ → Type 0
IsServerJournal connections log shape text = (histories : List (List Entry))
    × ((setup : Setup) → IsServerSetup connections log shape setup
    → IsDrainedRun setup histories text)

-- Behind the transcript and the lines of the log stands a journal, and where it has fewer lines
-- than a checker reads, it is one that is accepted, of as many connections, of the same shape, and
-- with the log or without it.
pub record EndsAccepted (expected : Expected) (shape : Shape) (conns : List ScriptConn) (log : Bool)
    (text : List ℕ) : Type 0 where
  pub lines : List LogLine
  pub logged : IsLog expected conns log lines
  pub histories : List (List Entry)
  pub is : text ≡ transcript_of expected conns ++ log_text lines ++ journal histories
  pub accepted : length histories + entries_in histories < line_limit
      → IsServerJournal (length conns) log shape (journal histories)
