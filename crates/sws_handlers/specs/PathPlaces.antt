-- The server on a scripted world, where nothing is known of a connection but the steps of the rest
-- of its path, and which of them give a line of the log:
-- what each colour's state and each load has, and what a handler makes of them.
use Rattle.std.specs.Prelude.{ℕ, zero, suc, ◌+◌, ◌-◌, ◌==◌, ◌||◌, Bool, true, false, not, List, [], ◌∷◌, ◌++◌, Option, None, Some, map, if◌then◌else◌}
use Rattle.mely_event.specs.declared.colour.Colour.{Colour}
use Rattle.mely_event.specs.declared.event.Event.{Event}
use Rattle.sws_steps.specs.Logs.{Step}
use Rattle.sws_steps.specs.declared.Handler.{Handler}
use Rattle.sws_steps.specs.declared.Handler.TheVariants as handler
use Rattle.sws_handlers.specs.declared.task.Task.{Task}
use Rattle.sws_handlers.specs.declared.task.Task.TheVariants as task
use Rattle.sws_handlers.specs.Tasks.{number_of, event_of}
use Rattle.sws_handlers.specs.Waiting.{waiting_with}

-- ---- registrations without their loads

-- a task with an argument on a colour
abbrev pub put : ℕ → Task → ℕ → Colour × Event
put colour task arg = (record { 0 = colour }, event_of task arg)

-- the colour of a connection
abbrev pub talk_colour : ℕ → ℕ
talk_colour conn = 2 + conn

-- the event of a poll
abbrev pub poll : ℕ → Colour × Event
poll arg = put 0 task.Poll arg

-- the event that asks colour 0 to wait for a connection
abbrev pub wait_for : ℕ → Colour × Event
wait_for conn = put 0 task.Wait conn

-- the event of an accept
abbrev pub accept : Colour × Event
accept = put 1 task.Accept 0

-- the event of a step of a connection
abbrev pub talk : ℕ → Handler → Colour × Event
talk conn step = put (talk_colour conn) (task.Step step) conn

-- the event that brings a connection on to a step: where that is a resume the connection waits for
-- it, else it is the event of the step
abbrev pub next_event : ℕ → Handler → Colour × Event
next_event conn handler.Resume = wait_for conn
next_event conn handler.Open = talk conn handler.Open
next_event conn handler.Read = talk conn handler.Read
next_event conn handler.Parse = talk conn handler.Parse
next_event conn handler.Look = talk conn handler.Look
next_event conn handler.Write = talk conn handler.Write
next_event conn handler.Close = talk conn handler.Close

-- what follows a connection's step: the event of its next one, where the path has one left
abbrev pub follows : ℕ → List Step → List (Colour × Event)
follows conn [] = []
follows conn (next ∷ later) = next_event conn next.handler ∷ []

-- the event of a line of a connection, on the last colour of so many links
abbrev pub log_event : ℕ → ℕ → Colour × Event
log_event total conn = put (total + 2) task.Log conn

-- a step that gave a line is followed by the event of it too, where there is a log
abbrev pub logs : Bool → ℕ → ℕ → Bool → List (Colour × Event)
logs log total conn false = []
logs true total conn true = log_event total conn ∷ []
logs false total conn true = []

-- ---- what there is

-- a world: how many links were accepted, and the paths of the links to come
pub record World : Type 0 where
  pub accepted : ℕ
  pub coming : List (List Step)

-- a load: the world, a link with the steps of its path, or a line of the log
pub data Load : Type 0 where
  world : World → Load
  link : List Step → Load
  line : Load

-- who waits, whether no more links are to come, and the world where it rests
pub record Desk : Type 0 where
  pub waiting : List ℕ
  pub last : Bool
  pub resting : Option World

-- what a colour has: the desk, nothing, a connection with the rest of its path, once it is open, or
-- the log
pub data Place : Type 0 where
  polling : Desk → Place
  accepting : Place
  talking : Option (List Step) → Place
  logging : Place

-- what a handler puts: a colour, an event, and its load
abbrev pub Put : Type 0
Put = Colour × Event × Option Load

-- an event that carries the world
abbrev pub with_world : World → Colour × Event → Put
with_world w p = (p.0, p.1, Some (world w))

-- an event that carries nothing
abbrev pub with_nothing : Colour × Event → Put
with_nothing p = (p.0, p.1, None)

-- an event that carries a line
abbrev pub with_line : Colour × Event → Put
with_line p = (p.0, p.1, Some line)

-- what a handler leaves, and what it puts
pub record Ran : Type 0 where
  pub place : Place
  pub puts : List Put

-- the place stays as it is, and nothing is put
abbrev pub stays : Place → Ran
stays place = record { place = place; puts = [] }

-- ---- polling

-- the world goes on, by whether no more links are to come: the next is accepted; or where somebody
-- waits it is polled again; or it rests
abbrev pub goes_on : Bool → List ℕ → World → List Put
goes_on false waiting w = with_world w accept ∷ []
goes_on true [] w = []
goes_on true (conn ∷ waiting) w = with_world w (poll 1) ∷ []

-- the world that rests after a poll: where no more links are to come and nobody waits
abbrev pub rests_with : Bool → List ℕ → World → Option World
rests_with false waiting w = None
rests_with true [] w = Some w
rests_with true (conn ∷ waiting) w = None

-- the first that waits, where somebody does, is ready and resumes
abbrev pub polls : Bool → List ℕ → World → Ran
polls last [] w = record {
  place = polling (record {
    waiting = [];
    last = last;
    resting = rests_with last [] w;
  });
  puts = goes_on last [] w;
}
polls last (conn ∷ waiting) w = record {
  place = polling (record { waiting = waiting; last = last; resting = rests_with last waiting w });
  puts = with_nothing (talk conn handler.Resume) ∷ goes_on last waiting w;
}

-- a world that rests is polled
abbrev pub wakes : Option World → List Put
wakes None = []
wakes (Some w) = with_world w (poll 1) ∷ []

-- what the wait of a connection leaves of the desk, and puts
abbrev pub waits : Desk → ℕ → Ran
waits desk conn = record {
  place = polling (record {
    waiting = waiting_with conn desk.waiting;
    last = desk.last;
    resting = None;
  });
  puts = wakes desk.resting;
}

-- by the handler and the load
abbrev pub runs_desk : Desk → ℕ → ℕ → Option Load → Ran
runs_desk desk zero arg (Some (world w)) = polls (desk.last || not (arg == 0)) desk.waiting w
runs_desk desk (suc zero) arg None = waits desk arg
runs_desk desk handler arg load = stays (polling desk)

-- ---- accepting

-- the next link is that of the next connection, which opens
abbrev pub accepts : ℕ → ℕ → List (List Step) → Ran
accepts total n [] = stays accepting
accepts total n (path ∷ coming) = record {
  place = accepting;
  puts = with_world (record { accepted = n + 1; coming = coming })
      (poll (if n + 1 == total then 1 else 0))
      ∷ ((talk n handler.Open).0, (talk n handler.Open).1, Some (link path)) ∷ [];
}

-- what the colour of accepting does with an event
abbrev pub runs_accepting : ℕ → ℕ → Option Load → Ran
runs_accepting total (suc (suc zero)) (Some (world w)) = accepts total w.accepted w.coming
runs_accepting total handler load = stays accepting

-- ---- a connection

-- a step was taken off the path: the next one follows, and behind it the line that the step gave
abbrev pub goes_along : Bool → ℕ → ℕ → Step → List Step → Ran
goes_along log total conn step later = record {
  place = talking (Some later);
  puts = map with_nothing (follows conn later) ++ map with_line (logs log total conn step.line);
}

-- the step that is next on the path is taken off it by its event; any other does nothing
abbrev pub takes_off : Bool → ℕ → ℕ → ℕ → Option (List Step) → List Step → Ran
takes_off log total conn handler seat [] = stays (talking seat)
takes_off log total conn handler seat (next ∷ later) =
    if number_of next.handler == handler then goes_along log total conn next later
    else stays (talking seat)

-- what the colour of a connection does with an event
abbrev pub runs_talk : Bool → ℕ → ℕ → ℕ → Option (List Step) → Option Load → Ran
runs_talk log total conn handler None (Some (link path)) =
    takes_off log total conn handler None path
runs_talk log total conn handler None None = stays (talking None)
runs_talk log total conn handler None (Some (world w)) = stays (talking None)
runs_talk log total conn handler None (Some line) = stays (talking None)
runs_talk log total conn handler (Some path) load =
    takes_off log total conn handler (Some path) path

-- what a colour does with an event, by its place, with the log or without it; the log keeps its
-- line, and nothing comes of that
abbrev pub runs_place : Bool → ℕ → Colour → Place → Event → Option Load → Ran
runs_place log total c (polling desk) event load = runs_desk desk event.handler event.arg load
runs_place log total c accepting event load = runs_accepting total event.handler load
runs_place log total c (talking seat) event load =
    runs_talk log total (c.0 - 2) event.handler seat load
runs_place log total c logging event load = stays logging

-- ---- how many worlds there are

-- how many worlds rest at a desk
abbrev pub worlds_of_rest : Option World → ℕ
worlds_of_rest None = 0
worlds_of_rest (Some w) = 1

-- how many worlds a place has
abbrev pub worlds_of_place : Place → ℕ
worlds_of_place (polling desk) = worlds_of_rest desk.resting
worlds_of_place accepting = 0
worlds_of_place (talking seat) = 0
worlds_of_place logging = 0

-- how many worlds a load has
abbrev pub worlds_of_load : Option Load → ℕ
worlds_of_load None = 0
worlds_of_load (Some (world w)) = 1
worlds_of_load (Some (link path)) = 0
worlds_of_load (Some line) = 0
