-- How a connection is kept.
use Rattle.sws_steps.specs.declared.speech.Speech.{Ghosts as SpeechWords}
use Rattle.sws_steps.specs.declared.conn_core.ConnCore.{ConnCore}
use Rattle.sws_steps.specs.ConnCore.{ConnCoreState}

-- a connection without its link, of its fields
abbrev pub state_of : {S G C : Type 0} → SpeechWords S G C → ConnCore S → ConnCoreState C
state_of y core = record {
  hall = y.hall_of core.speech;
  pending = core.pending;
  buffer = y.bytes_of core.speech;
  input_ended = core.input_ended;
  waits = core.waits;
  parts = y.parts_of core.speech;
  closes = core.closes;
  note = y.note_of core.speech;
  answered = core.answered;
  end = core.end;
  read = core.read;
  written = core.written;
}
