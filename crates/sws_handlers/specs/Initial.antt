-- The initial states, and the event that begins a run.
use Rattle.std.specs.Prelude.{◌≡◌, ℕ, ◌+◌, ◌≤◌, ◌<◌, ◌==◌, false, if◌then◌else◌, List, [], length, Some, None, slice_get}
use Rattle.mely_event.specs.declared.event.Event.{Event}
use Rattle.sws_steps.specs.declared.talk.Talk.{Ghosts as TalkWords}
use Rattle.sws_conn.specs.Talks.{unopened_view}
use Rattle.sws_handlers.specs.declared.load.WorldLoad.{WorldLoad}
use Rattle.sws_handlers.specs.declared.place.Seat.{Seat}
use Rattle.sws_handlers.specs.declared.place.Role.{Role}
use Rattle.sws_handlers.specs.declared.place.Role.TheVariants.{Polling, Accepting, Talking, Logging}
use Rattle.sws_handlers.specs.declared.task.Task.TheVariants as task
use Rattle.sws_handlers.specs.Tasks.{event_of}
use Rattle.sws_handlers.specs.KeptLines.{no_lines}
use Rattle.sws_handlers.specs.Place.{PlaceState}

module _ {W L T G H : Type 0} (y : TalkWords T L G H) (first : W) where
  -- nobody waits at colour 0, and none of so many connections has its link
  abbrev pub IsInitialRole : ℕ → ℕ → Role W T → Type 0
  IsInitialRole total c (Polling desk) = (c ≡ 0) × (desk.waiting.items ≡ []) × (desk.last ≡ false)
      × (desk.resting ≡ None)
  IsInitialRole total c Accepting = c ≡ 1
  IsInitialRole total c (Talking seat) = ((2 ≤ c) × (c < total + 2))
      × (y.view_of seat.talk ≡ unopened_view) × (seat.stray ≡ None)
  IsInitialRole total c Logging = c ≡ total + 2

  -- a state of colour c, over the first world, with the initial role of that colour
  pub record IsInitialPlace (total c : ℕ) (s : PlaceState H W T) : Type 0 where
    pub colour : s.colour.0 ≡ c
    pub world : s.first ≡ first
    pub role : IsInitialRole total c s.role

-- the first poll: 1 where no link is to come
abbrev pub first_poll : ℕ → Event
first_poll total = event_of task.Poll (if total == 0 then 1 else 0)

-- the initial load: the world, of which no link was accepted
abbrev pub initial_load : {W : Type 0} → W → WorldLoad W
initial_load world = record { world = world; accepted = 0; failed = false }

-- an initial state as it is made, over the hall
pub record IsInitialPlaceOver {W L T G H : Type 0} (y : TalkWords T L G H) (first : W) (hall : H)
    (total c : ℕ) (s : PlaceState H W T) : Type 0 where
  pub initial : IsInitialPlace y first total c s
  pub untouched : s.trail ≡ []
  pub unlogged : s.lines ≡ no_lines
  pub hall_is : s.hall ≡ hall
  pub own_hall : (seat : Seat T) → s.role ≡ Talking seat → y.hall_of seat.talk ≡ hall

-- so many of them, in ascending order
pub record AreInitialPlacesOver {W L T G H : Type 0} (y : TalkWords T L G H) (first : W) (hall : H)
    (total count : ℕ) (states : List (PlaceState H W T)) : Type 0 where
  pub many : length states ≡ count
  pub each : (i : ℕ) (s : PlaceState H W T) → slice_get states i ≡ Some s
      → IsInitialPlaceOver y first hall total i s
