-- What a replay writes.
use Rattle.std.specs.Prelude.{◌≡◌, ◌⊎◌, Bool, true, false, ℕ, List, [], ◌++◌, map, Option, Some, None, Result, Ok, Err}
use Rattle.mely_history.specs.declared.entry.Entry.{Entry}
use Rattle.mely_history.specs.declared.shape.Shape.{Shape}
use Rattle.mely_check.specs.Journals.{AreFit}
use Rattle.sws_weave.specs.ServerRun.{IsServerRun}
use Rattle.sws_link.specs.Contents.{IsPrefix}
use Rattle.sws_link.specs.declared.Put.{Put}
use Rattle.sws_link.specs.declared.Put.TheVariants as put
use Rattle.sws_log.specs.Lines.{log_text}
use Rattle.sws_log.specs.declared.line.LogLine.{LogLine}
use Rattle.mely_journal.specs.Journal.{journal}
use Rattle.sws_script.specs.Scripted.{script_of}
use Rattle.sws_script.specs.declared.input.Input.{Input}
use Rattle.sws_script.specs.declared.input.ScriptConn.{ScriptConn}
use Rattle.sws_site.specs.Site.{SiteState}
use Rattle.sws_replay.specs.declared.fault.RunFault.{RunFault}
use Rattle.sws_replay.specs.declared.fault.RunFault.TheVariants.{Write, Memory}
use Rattle.sws_replay.specs.Expected.{Expected, by_http}
use Rattle.sws_replay.specs.Histories.{AreServed}
use Rattle.sws_replay.specs.Logs.{IsLog}
use Rattle.sws_replay.specs.Transcripts.{transcript_of}

-- the text of a replay, with its log and with its journal where these are asked for: behind the
-- transcript, the lines of the log, and behind them the journal of histories by which the
-- connections were served, whose numbers are within the ranges of a journal's
abbrev pub IsReplay : Expected → Shape → List ScriptConn → (log journal : Bool) → List ℕ → Type 0
IsReplay expected shape conns log false text =
    (lines : List LogLine) × IsLog expected conns log lines
    × (text ≡ transcript_of expected conns ++ log_text lines)
IsReplay expected shape conns log true text =
    (lines : List LogLine) × (histories : List (List Entry)) × IsLog expected conns log lines
    × AreServed expected shape conns log lines histories × AreFit shape.shards histories
    × (text ≡ transcript_of expected conns ++ log_text lines ++ journal histories)

-- the one text of a replay of HTTP by a schedule: behind the transcript, the lines of the log where
-- that is asked for, and the journal of the histories that the definition of a run gives
abbrev pub IsScheduledReplay : SiteState → Shape → Input → (log : Bool) → List ℕ → Type 0
IsScheduledReplay site shape input log text =
    (lines : List LogLine) × (histories : List (List Entry))
    × IsServerRun shape log site (map script_of input.conns) input.steps histories
    × IsLog (by_http site) input.conns log lines
    × AreServed (by_http site) shape input.conns log lines histories × AreFit shape.shards histories
    × (text ≡ transcript_of (by_http site) input.conns ++ log_text lines ++ journal histories)

-- a front of such a text
abbrev pub Begins : (List ℕ → Type 0) → List ℕ → Type 0
Begins IsText front = (text : List ℕ) × IsText text × IsPrefix front text

-- Behind what a sink had before: one of these texts, whole, where the call is Ok; a front of
-- one where the sink failed; and where there was no memory, a front of one or, as where the
-- run found none, nothing.
abbrev pub WritesBehind : {T : Type 0} → (List ℕ → Type 0) → List ℕ → List ℕ
    → Result T RunFault → Type 0
WritesBehind IsText before now (Ok done) = (text : List ℕ) × IsText text × (now ≡ before ++ text)
WritesBehind IsText before now (Err Write) = (front : List ℕ) × Begins IsText front
    × (now ≡ before ++ front)
WritesBehind IsText before now (Err Memory) = (front : List ℕ)
    × ((front ≡ []) ⊎ Begins IsText front) × (now ≡ before ++ front)

-- behind what a sink tells that it had before stands what `WritesBehind` says; a sink that tells
-- nothing goes on telling nothing
abbrev pub WritesOne : {T : Type 0} → (List ℕ → Type 0) → Option (List ℕ) → Option (List ℕ)
    → Result T RunFault → Type 0
WritesOne IsText None now result = now ≡ None
WritesOne IsText (Some before) now result = (bytes : List ℕ) × (now ≡ Some bytes)
    × WritesBehind IsText before bytes result

-- how a replay ends by its last write
abbrev pub result_of : Put → Result (Unit {0}) RunFault
result_of put.Done = Ok tt
result_of put.Failed = Err Write
result_of put.Memory = Err Memory
