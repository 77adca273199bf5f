-- Numbered values that one colour sends to another.
use Rattle.std.specs.Prelude.{◌≡◌, ◌≢◌, ◌+◌, ◌==◌, if◌then◌else◌, ℕ, Bool, true, List, [], ◌∷◌, ◌++◌, Option, None, filter_map, length}
use Rattle.mely_event.specs.declared.colour.Colour.{Colour}
use Rattle.mely_event.specs.declared.event.Event.{Event}
use Rattle.mely_event.specs.declared.trail.Trail.{Ghosts as TrailWords}
use Rattle.mely_worker.specs.declared.app.App.{Ghosts as AppWords}
use Rattle.mely_tally.specs.Tallies.{Carried}
use Rattle.mely_order.specs.Rising.{Rises}
use Rattle.mely_order.specs.Seen.{Put}

-- values from one colour to another, each with a number of its own, from 1 on
pub record Stream (S P : Type 0) : Type 0 where
  pub sender : Colour
  pub receiver : Colour
  -- the number of the value that an event brings, where it brings one of the stream's
  pub number : Carried P → Option ℕ
  -- what the receiver's state has received, by number, the first one first
  pub received : S → List ℕ
  -- the number of the last value that the sender's state has sent, 0 before the first
  pub sent : S → ℕ
  -- whether the numbers have no gaps: the sender numbers its values 1, 2, 3 and so on
  pub is_gapless : Bool
  -- what is known of each state, whatever its colour, so that handlers may go by it
  pub is_sound : S → Bool

module _ {S P : Type 0} (stream : Stream S P) where
  -- the numbers that events bring
  abbrev pub numbers_of : List (Carried P) → List ℕ
  numbers_of events = filter_map stream.number events

  -- the number that a registration brings to the receiver
  abbrev pub number_put : Put P → Option ℕ
  number_put put =
      if put.0.0 == stream.receiver.0 then stream.number (put.1, put.2) else None

  -- the numbers that registrations bring to the receiver
  abbrev pub numbers_put : List (Put P) → List ℕ
  numbers_put puts = filter_map number_put puts

  -- what a handler did on a state of the colour: on the receiver, it added the value that came,
  -- where one did; on the sender, what it sent it put in ascending order, above all that was sent
  -- before, and with no number left out where the numbers have no gaps; and on no other colour it
  -- put a value of the stream
  pub record HandlerServes (colour : Colour) (state : S) (event : Carried P) (becomes : S)
      (puts : List (Put P)) : Type 0 where
    pub sound : stream.is_sound becomes ≡ true
    pub receives : colour ≡ stream.receiver → stream.received becomes
        ≡ stream.received state ++ numbers_of (event ∷ [])
    pub sends : colour ≡ stream.sender
        → Rises (stream.sent state) (numbers_put puts) (stream.sent becomes)
    pub counts : stream.is_gapless ≡ true → colour ≡ stream.sender
        → stream.sent becomes ≡ stream.sent state + length (numbers_put puts)
    pub silent : colour.0 ≢ stream.sender.0 → numbers_put puts ≡ []

-- the app serves the stream: each handler does its part, on every sound state of the frame and
-- every event that fits
pub record ServesStream {R S P F : Type 0} (t : TrailWords S F)
    (fits : F → Colour → Event → Option P → Type 0) (y : AppWords R P S F) (app : R) (frame : F)
    (stream : Stream S P) : Type 0 where
  pub each : (state : S) (event : Event) (load : Option P) (becomes : S) (puts : List (Put P))
      → t.frame_of state ≡ frame → stream.is_sound state ≡ true
      → fits frame (t.colour_of state) event load → y.runs app state event load becomes puts
      → HandlerServes stream (t.colour_of state) state (event, load) becomes puts
