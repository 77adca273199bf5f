-- What the server has come to where all was run and no memory was refused.
use Rattle.std.specs.Prelude.{◌≡◌, ℕ, ◌+◌, ◌<◌, Bool, true, List, [], Some, slice_get}
use Rattle.std.specs.List.{range_with_len}
use Rattle.sws_steps.specs.declared.talk.Talk.{Ghosts as TalkWords}
use Rattle.sws_handlers.specs.LogTurns.{turns_of}
use Rattle.sws_handlers.specs.Place.{PlaceState}
use Rattle.sws_weave.specs.RunStands.{RunStands, at_seat}

-- the run stands, with nothing under way, and the lines that the log has of each connection are
-- those that this gave, in their order
pub record CrewEnds {W T L G H : Type 0} (y : TalkWords T L G H) (total : ℕ) (log : Bool)
    (states : List (PlaceState H W T)) : Type 0 where
  pub stands : RunStands {W = W} {L = L} y total states []
  pub in_turn : log ≡ true → (i : ℕ) → i < total → (last place : PlaceState H W T)
      → slice_get states (total + 2) ≡ Some last → slice_get states (i + 2) ≡ Some place
      → turns_of i last.lines.came
      ≡ range_with_len 1 (at_seat (λ seat. (y.view_of seat.talk).lines) place.role)
