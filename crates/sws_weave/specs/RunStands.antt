-- What holds of a run across its colours, as sums over all states and all events under way.
use Rattle.std.specs.Prelude.{◌≡◌, ℕ, ◌+◌, ◌≤◌, ◌<◌, ◌==◌, ◌&&◌, ◌||◌, not, nat_lt, Bool, true, List, Option, Some, None, sum_by}
use Rattle.mely_event.specs.declared.event.Event.{Event}
use Rattle.sws_steps.specs.declared.talk.Talk.{Ghosts as TalkWords}
use Rattle.sws_steps.specs.declared.Handler.{Handler}
use Rattle.sws_steps.specs.declared.Handler.TheVariants as handler
use Rattle.sws_conn.specs.Talks.{due}
use Rattle.sws_handlers.specs.declared.load.WorldLoad.{WorldLoad}
use Rattle.sws_handlers.specs.declared.load.Load.{Load}
use Rattle.sws_handlers.specs.declared.place.Desk.{Desk}
use Rattle.sws_handlers.specs.declared.place.Seat.{Seat}
use Rattle.sws_handlers.specs.declared.place.Role.{Role}
use Rattle.sws_handlers.specs.declared.place.Role.TheVariants.{Polling, Accepting, Talking, Logging}
use Rattle.sws_handlers.specs.declared.task.Task.TheVariants as task
use Rattle.sws_handlers.specs.Tasks.{number_of_task, number_of}
use Rattle.sws_handlers.specs.Handling.{is_some}
use Rattle.sws_handlers.specs.Counting.{bit, times}
use Rattle.sws_handlers.specs.Loads.{world_of}
use Rattle.sws_handlers.specs.Place.{PlaceState}

-- an event under way, with its load
abbrev pub Way : Type 0 → Type 0 → Type 0
Way W L = Event × Option (Load W L)

-- ---- of the events under way

-- one where it is there and passes the test
abbrev pub if_held : {W : Type 0} → (WorldLoad W → Bool) → Option (WorldLoad W) → ℕ
if_held test None = 0
if_held test (Some held) = bit (test held)

-- any world
abbrev pub is_any : {W : Type 0} → WorldLoad W → Bool
is_any held = true

-- more links than i were accepted
abbrev pub is_beyond : {W : Type 0} → ℕ → WorldLoad W → Bool
is_beyond i held = nat_lt i held.accepted

-- links are still to be accepted, and the world hasn't failed
abbrev pub is_unended : {W : Type 0} → ℕ → WorldLoad W → Bool
is_unended total held = not held.failed && nat_lt held.accepted total

-- how many worlds an event under way carries
abbrev pub worlds : {W L : Type 0} → Way W L → ℕ
worlds e = if_held is_any (world_of e.1)

-- whether an event under way carries a world that has accepted more links than i, as a number
abbrev pub beyond : {W L : Type 0} → ℕ → Way W L → ℕ
beyond i e = if_held (is_beyond i) (world_of e.1)

-- the poll after the last link
abbrev pub is_late : Event → Bool
is_late event = (event.handler == number_of_task task.Poll) && (event.arg == 1)

-- a world that isn't in the poll after the last link
abbrev pub early : {W L : Type 0} → Way W L → ℕ
early e = if_held (λ held. not (is_late e.0)) (world_of e.1)

-- a world that is, though links are still to be accepted
abbrev pub unended_count : {W L : Type 0} → ℕ → Way W L → ℕ
unended_count total e = if_held (λ held. is_late e.0 && is_unended total held) (world_of e.1)

-- an event of this handler for this connection
abbrev pub asks_for : {W L : Type 0} → ℕ → ℕ → Way W L → ℕ
asks_for handler i e = bit ((e.0.handler == handler) && (e.0.arg == i))

-- ---- of the states

module _ {W T : Type 0} where
  -- a number of the desk, and 0 where the role isn't to poll
  abbrev pub at_desk : (Desk W → ℕ) → Role W T → ℕ
  at_desk of (Polling desk) = of desk
  at_desk of Accepting = 0
  at_desk of (Talking seat) = 0
  at_desk of Logging = 0

  -- a number of the seat, and 0 where the role isn't to talk
  abbrev pub at_seat : (Seat T → ℕ) → Role W T → ℕ
  at_seat of (Polling desk) = 0
  at_seat of Accepting = 0
  at_seat of (Talking seat) = of seat
  at_seat of Logging = 0

  -- the role isn't that of the colour, of so many links
  abbrev pub misplaced_at : ℕ → ℕ → Role W T → ℕ
  misplaced_at total c (Polling desk) = bit (not (c == 0))
  misplaced_at total c Accepting = bit (not (c == 1))
  misplaced_at total c (Talking seat) = bit (nat_lt c 2 || not (nat_lt c (total + 2)))
  misplaced_at total c Logging = bit (not (c == total + 2))

-- the number of the handler that is due, and 0 where none is
abbrev pub first_number : Option Handler → ℕ
first_number None = 0
first_number (Some step) = number_of step

-- whether there is a stray event, as a number
abbrev pub is_stray : Option Event → ℕ
is_stray None = 0
is_stray (Some event) = 1

module _ {H W T : Type 0} where
  -- a state whose role isn't that of its colour
  abbrev pub misplaced_count : ℕ → PlaceState H W T → ℕ
  misplaced_count total s = misplaced_at total s.colour.0 s.role

  -- a state that polls
  abbrev pub desks : PlaceState H W T → ℕ
  desks s = at_desk (λ desk. 1) s.role

  -- the seat of the connection
  abbrev pub seats : ℕ → PlaceState H W T → ℕ
  seats i s = at_seat (λ seat. bit (s.colour.0 == i + 2)) s.role

  -- a world that rests in the state
  abbrev pub rests : PlaceState H W T → ℕ
  rests s = at_desk (λ desk. if_held is_any desk.resting) s.role

  -- a world that rests in the state and has accepted more links than i
  abbrev pub rests_beyond : ℕ → PlaceState H W T → ℕ
  rests_beyond i s = at_desk (λ desk. if_held (is_beyond i) desk.resting) s.role

  -- a world that rests though links are still to be accepted and it hasn't failed
  abbrev pub unended_rests : ℕ → PlaceState H W T → ℕ
  unended_rests total s = at_desk (λ desk. if_held (is_unended total) desk.resting) s.role

  -- the world rests though somebody waits
  abbrev pub rests_in_vain : PlaceState H W T → ℕ
  rests_in_vain s = at_desk (λ desk.
      if_held (λ held. is_some desk.waiting.items) desk.resting) s.role

  -- a desk that knows that no more links are to come
  abbrev pub is_last : PlaceState H W T → ℕ
  is_last s = at_desk (λ desk. bit desk.last) s.role

  -- how often the connection stands in the list of those that wait
  abbrev pub waits_for : ℕ → PlaceState H W T → ℕ
  waits_for i s = at_desk (λ desk. times i desk.waiting.items) s.role

  -- a connection that met a stray event
  abbrev pub strays : PlaceState H W T → ℕ
  strays s = at_seat (λ seat. is_stray seat.stray) s.role

-- the number of the handler that is due at a connection
abbrev pub due_number : {T L G H : Type 0} → TalkWords T L G H → Seat T → ℕ
due_number y seat = first_number (due (y.view_of seat.talk))

module _ {W L T G H : Type 0} (y : TalkWords T L G H) where
  -- the connection's due handler has this number
  abbrev pub is_at : ℕ → ℕ → PlaceState H W T → ℕ
  is_at i number s = at_seat (λ seat.
      bit ((s.colour.0 == i + 2) && (due_number y seat == number))) s.role

  -- the connection was opened
  abbrev pub is_opened : ℕ → PlaceState H W T → ℕ
  is_opened i s = at_seat (λ seat.
      bit ((s.colour.0 == i + 2) && not (due_number y seat == number_of handler.Open))) s.role

  -- Of all states and all events under way in a run with so many links
  pub record RunStands (total : ℕ) (states : List (PlaceState H W T))
      (ways : List (Way W L)) : Type 0 where
    -- each colour has the role that is its own, there is one state that polls,
    -- and one for each connection
    pub placed : sum_by (misplaced_count total) states ≡ 0
    pub one_desk : sum_by desks states ≡ 1
    pub one_seat : (i : ℕ) → i < total → sum_by (seats i) states ≡ 1
    -- there is one world: in an event, or at rest in the state that polls
    pub one_world : sum_by worlds ways + sum_by rests states ≡ 1
    -- a link that was accepted is in the opening of its connection, or that was opened
    pub opens : (i : ℕ) → i < total
        → sum_by (asks_for (number_of handler.Open) i) ways + sum_by (is_opened i) states
        ≡ sum_by (beyond i) ways + sum_by (rests_beyond i) states
    -- a connection that is to do a step has one event under way, of the due handler
    pub steps : (i number : ℕ) → i < total
        → number_of handler.Read ≤ number → number ≤ number_of handler.Close
        → sum_by (asks_for number i) ways ≡ sum_by (is_at i number) states
    -- one that waits is in an event Wait, in the list, or in an event Resume
    pub waits : (i : ℕ) → i < total
        → sum_by (asks_for (number_of handler.Resume) i) ways
        + sum_by (asks_for (number_of_task task.Wait) i) ways + sum_by (waits_for i) states
        ≡ sum_by (is_at i (number_of handler.Resume)) states
    pub no_stray : sum_by strays states ≡ 0
    -- the poll after the last link comes after the last link or a fault, and so
    -- does the rest of the world
    pub ended : sum_by (unended_count total) ways + sum_by (unended_rests total) states ≡ 0
    pub late : sum_by early ways + sum_by is_last states ≤ 1
    pub not_in_vain : sum_by rests_in_vain states ≡ 0
