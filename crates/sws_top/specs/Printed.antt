-- What a run has written where a journal was asked for: one that `check` accepts.
use Rattle.std.specs.Prelude.{◌≡◌, ℕ, Bool, true, false, ◌||◌, List, ◌++◌, Option, Some, None, ⊤}
use Rattle.mely_history.specs.declared.shape.Shape.{Shape}
use Rattle.sws_link.specs.declared.Source.{Ghosts as SourceWords}
use Rattle.sws_link.specs.declared.Sink.{Ghosts as SinkWords}
use Rattle.sws_replay.specs.Accepted.{EndsAccepted}
use Rattle.sws_replay.specs.Expected.{Expected}
use Rattle.sws_script.specs.declared.input.Input.{Input}
use Rattle.sws_words.specs.Orders.{Order, answer, replay, serve, bench, check, gopher}
use Rattle.sws_top.specs.Hands.{Hands}
use Rattle.sws_top.specs.Ranges.{run_shape}
use Rattle.sws_top.specs.Scripts.{IsInputRead}

-- The source was read as an input, and behind what the sink had stands a text that ends in a
-- journal which `check` accepts, of as many connections, of the same shape, and with the log or
-- without it.
pub record PrintsAccepted {R O : Type 0} (r : SourceWords R) (o : SinkWords O)
    (source source_now : R) (sent : List ℕ) (out_now : O) (schedule log : Bool)
    (shape : Shape) : Type 0 where
  pub input : Input
  pub read : IsInputRead r schedule shape.cores source source_now input
  pub expected : Expected
  pub text : List ℕ
  pub ends : EndsAccepted expected shape input.conns log text
  pub written : o.written out_now ≡ Some (sent ++ text)

module _ {F R O : Type 0} (r : SourceWords R) (o : SinkWords O) (before now : Hands F R O)
    (sent : List ℕ) where
  -- what an order prints that asks for a journal, as a schedule does too: an accepted one
  abbrev pub PrintsJournal : Order → Type 0
  PrintsJournal (answer path date) = ⊤
  PrintsJournal (replay path shape date journal schedule log) = ((journal || schedule) ≡ true)
      → PrintsAccepted r o before.source now.source sent now.out schedule log (run_shape shape)
  PrintsJournal (serve path port connections shape date log) = ⊤
  PrintsJournal (bench connections number shape) = ⊤
  PrintsJournal (check connections shape log) = ⊤
  PrintsJournal (gopher path host port None shape journal) = journal ≡ true
      → PrintsAccepted r o before.source now.source sent now.out false false (run_shape shape)
  PrintsJournal (gopher path host port (Some connections) shape journal) = ⊤
