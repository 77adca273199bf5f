-- The lines of a connection as a stream from its colour to that of the log.
use Rattle.std.specs.Prelude.{ℕ, ◌+◌, ◌<◌, ◌==◌, Bool, true, List, Option, Some, None, IsTrue}
use Rattle.mely_event.specs.declared.colour.Colour.{Colour}
use Rattle.mely_event.specs.declared.event.Event.{Event}
use Rattle.mely_weave.specs.Weave.{WeaveState}
use Rattle.mely_order.specs.Stream.{Stream}
use Rattle.mely_order.specs.InOrder.{InOrder, EndsInOrder}
use Rattle.sws_steps.specs.declared.talk.Talk.{Ghosts as TalkWords}
use Rattle.sws_handlers.specs.declared.load.Load.{Load}
use Rattle.sws_handlers.specs.declared.load.Load.TheVariants as load
use Rattle.sws_handlers.specs.LogTurns.{turn_in, turns_of}
use Rattle.sws_handlers.specs.Place.{PlaceState}
use Rattle.sws_weave.specs.RunStands.{Way, at_seat, misplaced_count}

-- the turn of the line that a load is, where it is of this connection
abbrev pub turn_carried : {W L : Type 0} → ℕ → Option (Load W L) → Option ℕ
turn_carried i None = None
turn_carried i (Some (load.World held)) = None
turn_carried i (Some (load.Link link)) = None
turn_carried i (Some (load.Line line)) = turn_in i line

module _ {W L T G H : Type 0} (y : TalkWords T L G H) (total : ℕ) where
  -- the colour of the connection sends its lines to that of the log, numbered by their turns, and
  -- has sent as many as its talk has given
  abbrev pub log_stream : ℕ → Stream (PlaceState H W T) (Load W L)
  log_stream i = record {
    sender = record { 0 = i + 2 };
    receiver = record { 0 = total + 2 };
    number = λ e. turn_carried i e.1;
    received = λ s. turns_of i s.lines.came;
    sent = λ s. at_seat (λ seat. (y.view_of seat.talk).lines) s.role;
    is_gapless = true;
    is_sound = λ s. misplaced_count total s == 0;
  }

  -- with the log, the lines of each connection are in order
  abbrev pub LogsInOrder : Bool → WeaveState (PlaceState H W T) (Load W L) → Type 0
  LogsInOrder log weave = IsTrue log → (i : ℕ) → i < total → InOrder (log_stream i) weave

  -- so they are in what a weave was taken apart into
  abbrev pub LogsEndInOrder : Bool → List (PlaceState H W T) → List (List (Way W L))
      → List (Colour × Event × Option (Load W L)) → Type 0
  LogsEndInOrder log states queued lost = IsTrue log → (i : ℕ) → i < total
      → EndsInOrder (log_stream i) states queued lost
