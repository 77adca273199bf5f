-- What a run of `check --connections N ..` did.
use Rattle.std.specs.Prelude.{◌≡◌, ℕ, Bool, Option, Some, Result, Ok, Err}
use Rattle.mely_check.specs.Extent.{ReadsTold}
use Rattle.mely_check.specs.Verdicts.{Finds, Accepts, IsExact}
use Rattle.mely_check.specs.declared.fault.CheckFault.{CheckFault}
use Rattle.mely_check.specs.declared.fault.CheckFault.TheVariants.{Read}
use Rattle.mely_check.specs.declared.report.Report.{Report}
use Rattle.mely_history.specs.declared.setup.Setup.{Setup}
use Rattle.mely_history.specs.declared.shape.Shape.{Shape}
use Rattle.sws_link.specs.Counts.{HasCause}
use Rattle.sws_link.specs.declared.Source.{Ghosts as SourceWords}
use Rattle.sws_link.specs.declared.Sink.{Ghosts as SinkWords}
use Rattle.sws_replay.specs.Accepted.{IsServerSetup}
use Rattle.sws_top.specs.declared.faults.TopFault.{TopFault}
use Rattle.sws_top.specs.Checked.{report_text}
use Rattle.sws_top.specs.Faults.{check_fault_of}
use Rattle.sws_top.specs.Texts.{WritesText}

-- what was written by what was found: the report's text, and of a journal
-- that isn't accepted nothing
abbrev pub WritesFound : {O : Type 0} → SinkWords O → O → O → Option TopFault
    → Result Report CheckFault → Type 0
WritesFound o out now fault (Ok report) =
    WritesText o out now fault (λ text. text ≡ report_text report)
WritesFound o out now fault (Err why) = (fault ≡ Some (check_fault_of why)) × (now ≡ out)

-- The source was read as a journal of the server with so many connections, with the log or without
-- it, no further than shows what was found. That is so of its bytes and of no others, and was
-- written.
pub record RanCheck {R O : Type 0} (r : SourceWords R) (o : SinkWords O) (source source_now : R)
    (out out_now : O) (fault : Option TopFault) (connections : ℕ) (log : Bool)
    (shape : Shape) : Type 0 where
  pub setup : Setup
  pub of_server : IsServerSetup connections log shape setup
  pub found : Result Report CheckFault
  pub finds : Finds setup (r.left source) found
  pub accepts : Accepts setup (r.left source) found
  pub exact : IsExact setup (r.left source) found
  pub reads : ReadsTold (r.left source) (r.left source_now) found
  pub cause : HasCause (r.faults source) (r.faults source_now) (found ≡ Err Read)
  pub writes : WritesFound o out out_now fault found
