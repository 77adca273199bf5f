-- What the runs of handlers come to: on what they were run, and what they put. Lists are compared by
-- counting: where two count the same whatever number each event has, they have the same events, each
-- as often.
use Rattle.std.specs.Prelude.{◌≡◌, ◌==◌, ◌+◌, ◌<◌, ℕ, List, [], ◌∷◌, ◌++◌, Option, Result, Ok, Err, if◌then◌else◌, sum_by, take}
use Rattle.std.specs.List.{AllByRecursion}
use Rattle.mely_event.specs.declared.colour.Colour.{Colour}
use Rattle.mely_event.specs.declared.event.Event.{Event}
use Rattle.mely_event.specs.declared.trail.Trail.{Ghosts as TrailWords}
use Rattle.mely_event.specs.declared.unregistered.Unregistered.{Unregistered}
use Rattle.mely_history.specs.History.{registered_of, begun_of}
use Rattle.mely_history.specs.Setup.{colours_of}
use Rattle.mely_history.specs.declared.entry.Entry.{Entry}
use Rattle.mely_history.specs.declared.registered.Registered.{Registered}
use Rattle.mely_history.specs.declared.setup.Setup.{Setup}
use Rattle.mely_worker.specs.Access.{events_of}
use Rattle.mely_worker.specs.declared.app.App.{Ghosts as AppWords}
use Rattle.mely_worker.specs.declared.phase.Phase.{Phase}
use Rattle.mely_worker.specs.declared.phase.Phase.TheVariants.{Free, Popped, Picked, Landing, Pushing, Turning}
use Rattle.mely_worker.specs.Worker.{WorkerState}
use Rattle.mely_weave.specs.Side.{history_for}
use Rattle.mely_weave.specs.Weave.{WeaveState}

-- one run of a handler: its colour, the state and the event with its load that it was given, the
-- state that it left, and what it put
pub record HandlerRun (S P : Type 0) : Type 0 where
  pub colour : Colour
  pub state : S
  pub event : Event
  pub load : Option P
  pub becomes : S
  pub puts : List (Colour × Event × Option P)

-- the run is one by the app's relation, on a state of its colour, which is one of the setup, and of
-- the frame, and of an event and a load that fit
pub record IsRunOf {R S P F : Type 0} (t : TrailWords S F)
    (fits : F → Colour → Event → Option P → Type 0) (y : AppWords R P S F) (app : R) (setup : Setup)
    (frame : F) (run : HandlerRun S P) : Type 0 where
  pub ran : y.runs app run.state run.event run.load run.becomes run.puts
  pub there : run.colour.0 < colours_of setup
  pub coloured : t.colour_of run.state ≡ run.colour
  pub framed : t.frame_of run.state ≡ frame
  pub fit : fits frame run.colour run.event run.load

-- a number of each of a list, by those before it, summed up
abbrev pub sum_along : {X : Type 0} → (List X → X → ℕ) → List X → List X → ℕ
sum_along f before [] = 0
sum_along f before (x ∷ more) = f before x + sum_along f (before ++ x ∷ []) more

-- the number of a registration's event, where it is on the colour
abbrev pub count_put : {P : Type 0} → Colour → (Event → ℕ) → Colour × Event × Option P → ℕ
count_put c number put = if put.0.0 == c.0 then number put.1 else 0

-- the numbers of what was put on the colour
abbrev pub count_puts : {P : Type 0} → Colour → (Event → ℕ) → List (Colour × Event × Option P) → ℕ
count_puts c number puts = sum_by (count_put c number) puts

-- the number of a run's event, by those that were run on the colour before it, where it is on the
-- colour
abbrev pub count_run : {S P F : Type 0} → TrailWords S F → Colour → (List Event → Event → ℕ)
    → HandlerRun S P → ℕ
count_run t c number run =
    if run.colour.0 == c.0 then number (t.trail_of run.state) run.event else 0

-- what the worker's turn has left to register
abbrev pub puts_left : {S P : Type 0} → Phase S P → List (Colour × Event × Option P)
puts_left (Free place) = []
puts_left (Popped mark) = []
puts_left (Picked mark victim) = []
puts_left (Landing mark) = []
puts_left (Pushing core mark) = []
puts_left (Turning turn hand puts) = puts

-- the numbers of what a worker has put on the colour and not registered: it is left of its turn, or
-- was refused for memory
abbrev pub count_due : {S P : Type 0} → Colour → (Event → ℕ) → WorkerState S P → ℕ
count_due c number w = count_puts c number (puts_left w.phase) + count_puts c number w.lost

-- the numbers of the events that are left of a worker's turn, where it is on the colour
abbrev pub count_left : {S P F : Type 0} → TrailWords S F → Colour → (List Event → Event → ℕ)
    → Phase S P → ℕ
count_left t c number (Free place) = 0
count_left t c number (Popped mark) = 0
count_left t c number (Picked mark victim) = 0
count_left t c number (Landing mark) = 0
count_left t c number (Pushing core mark) = 0
count_left t c number (Turning turn hand puts) =
    if turn.colour.0 == c.0 then sum_along number (t.trail_of turn.state) (events_of turn.events)
    else 0

-- the events of a colour that were taken, in order: as many of the first ones registered
abbrev pub taken_of : List Entry → Colour → List Event
taken_of history c = take (begun_of history c) (registered_of history c)

-- The runs are all that were made on the way to the weave, if these were posted from outside: what
-- they put and what was posted is registered, left to register, or was refused for memory; and what
-- they were run on, with what is left of turns, are the events that were taken, each by its place in
-- the order of its colour.
pub record Account {R S P F : Type 0} (t : TrailWords S F)
    (fits : F → Colour → Event → Option P → Type 0) (y : AppWords R P S F) (app : R)
    (posted : List (Colour × Event × Option P)) (weave : WeaveState S P)
    (runs : List (HandlerRun S P)) : Type 0 where
  pub each : AllByRecursion (IsRunOf t fits y app weave.setup (t.frame_of weave.given)) runs
  pub put : (c : Colour) (number : Event → ℕ)
      → sum_by number (registered_of (history_for weave.setup weave.shards c) c)
      + sum_by (λ w. count_due c number w) weave.workers
      ≡ count_puts c number posted + sum_by (λ run. count_puts c number run.puts) runs
  pub ran : (c : Colour) (number : List Event → Event → ℕ)
      → sum_by (count_run t c number) runs
      + sum_by (λ w. count_left t c number w.phase) weave.workers
      ≡ sum_along number [] (taken_of (history_for weave.setup weave.shards c) c)

-- what was posted from outside, and this too, where it wasn't refused
abbrev pub and_posted : {P : Type 0} → Colour × Event × Option P
    → Result Registered (Unregistered P) → List (Colour × Event × Option P)
    → List (Colour × Event × Option P)
and_posted put (Ok reply) posted = posted ++ put ∷ []
and_posted put (Err back) posted = posted

-- the runs of some handlers are all that were made on the way to the weave
abbrev pub IsAccounted : {R S P F : Type 0} → TrailWords S F
    → (F → Colour → Event → Option P → Type 0) → AppWords R P S F → R
    → List (Colour × Event × Option P) → WeaveState S P → Type 0
IsAccounted {S = S} {P = P} t fits y app posted weave =
    (runs : List (HandlerRun S P)) × Account t fits y app posted weave runs
