-- What a run writes at its end.
use Rattle.std.specs.Prelude.{◌≡◌, ℕ, List, Option, Result, Err}
use Rattle.sws_link.specs.Counts.{HasCause}
use Rattle.sws_link.specs.declared.Sink.{Ghosts as SinkWords}
use Rattle.sws_replay.specs.Replays.{WritesOne}
use Rattle.sws_replay.specs.declared.fault.RunFault.{RunFault}
use Rattle.sws_replay.specs.declared.fault.RunFault.TheVariants.{Write}
use Rattle.sws_top.specs.declared.faults.TopFault.{TopFault}
use Rattle.sws_top.specs.Faults.{fault_of_run}

-- One of these texts was written, all of it where there is no fault, and a front of one or
-- nothing where there is. A fault of writing comes only where the sink failed, and without it
-- the sink's count stands.
pub record WritesText {O : Type 0} (o : SinkWords O) (out now : O) (fault : Option TopFault)
    (IsText : List ℕ → Type 0) : Type 0 where
  pub answer : Result (Unit {0}) RunFault
  pub ended : fault ≡ fault_of_run answer
  pub writes : WritesOne IsText (o.written out) (o.written now) answer
  pub cause : HasCause (o.faults out) (o.faults now) (answer ≡ Err Write)
