-- The numbers that one colour tells another.
use Rattle.std.specs.Prelude.{◌≡◌, ◌==◌, ℕ, true, List, Option, None, Some, if◌then◌else◌, filter_map, slice_get}
use Rattle.std.specs.List.{range_with_len}
use Rattle.mely_event.specs.declared.event.Event.{Event}
use Rattle.mely_event.specs.declared.logged.Logged.{Logged}
use Rattle.mely_order.specs.Stream.{Stream}

-- the number that an event tells, by handler 1
abbrev pub number_in : Event → Option ℕ
number_in event = if event.handler == 1 then Some event.arg else None

-- the numbers that were heard, by the trail
abbrev pub heard : Logged ℕ → List ℕ
heard s = filter_map number_in s.log.events

-- colour 1 tells colour 0 numbers, without a gap
abbrev pub telling : Stream (Logged ℕ) (Unit {0})
telling = record {
  sender = record { 0 = 1 };
  receiver = record { 0 = 0 };
  number = λ e. number_in e.0;
  received = heard;
  sent = λ s. s.value;
  is_gapless = true;
  is_sound = λ s. true;
}

-- colour 0 has heard all that colour 1 has told, in order: 1, 2, 3 and so on
abbrev pub HeardAll : List (Logged ℕ) → Type 0
HeardAll states = (hears tells : Logged ℕ) → slice_get states 0 ≡ Some hears
    → slice_get states 1 ≡ Some tells → heard hears ≡ range_with_len 1 tells.value
