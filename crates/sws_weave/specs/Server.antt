-- The server on a scripted world as a function: what each handler does, on what the world and its
-- connections are. Nothing is known of a connection but the steps of the rest of its path.
use Rattle.std.specs.Prelude.{ℕ, zero, suc, ◌+◌, ◌-◌, ◌==◌, ◌&&◌, ◌||◌, Bool, true, false, not, List, [], ◌∷◌, ◌++◌, Option, None, Some, length, slice_get, slice_set, if◌then◌else◌}
use Rattle.mely_event.specs.declared.colour.Colour.{Colour}
use Rattle.mely_event.specs.declared.event.Event.{Event}
use Rattle.sws_steps.specs.Logs.{Step}
use Rattle.sws_steps.specs.declared.Handler.TheVariants as handler
use Rattle.mely_machine.specs.Machine.{Acted}
use Rattle.sws_handlers.specs.Tasks.{number_of}
use Rattle.sws_handlers.specs.Waiting.{waiting_with}
use Rattle.sws_handlers.specs.PathPlaces.{poll, accept, talk, follows, logs}

-- who waits, whether no more links are to come, whether the world rests, how many links were
-- accepted, of each connection the steps of the rest of its path, and whether there is a log
pub record Server : Type 0 where
  pub waiting : List ℕ
  pub last : Bool
  pub rests : Bool
  pub accepted : ℕ
  pub paths : List (List Step)
  pub log : Bool

-- nothing was accepted, and no connection is open
abbrev pub initial_server : Bool → List (List Step) → Server
initial_server log paths = record {
  waiting = [];
  last = false;
  rests = false;
  accepted = 0;
  paths = paths;
  log = log;
}

-- the world goes on, by whether no more links are to come: the next is accepted; or where somebody
-- waits it is polled again; or it rests
abbrev pub world_goes : Bool → List ℕ → List (Colour × Event)
world_goes false waiting = accept ∷ []
world_goes true [] = []
world_goes true (conn ∷ waiting) = poll 1 ∷ []

-- nobody waits
abbrev pub is_nobody : List ℕ → Bool
is_nobody [] = true
is_nobody (conn ∷ waiting) = false

-- Poll: the first that waits, where somebody does, is ready and resumes; and the world goes on
abbrev pub after_poll : Server → List ℕ → Acted Server
after_poll s [] = record { puts = world_goes s.last []; becomes = record s { rests = s.last } }
after_poll s (conn ∷ waiting) = record {
  puts = talk conn handler.Resume ∷ world_goes s.last waiting;
  becomes = record s { waiting = waiting; rests = s.last && is_nobody waiting };
}

-- Wait: a connection waits, and a world that rests is polled
abbrev pub after_wait : Server → Bool → ℕ → Acted Server
after_wait s rests conn = record {
  puts = if rests then poll 1 ∷ [] else [];
  becomes = record s { waiting = waiting_with conn s.waiting; rests = false };
}

-- Accept: the next link is that of the next connection, which opens
abbrev pub after_accept : Server → ℕ → Acted Server
after_accept s conn = record {
  puts = poll (if conn + 1 == length s.paths then 1 else 0) ∷ talk conn handler.Open ∷ [];
  becomes = record s { accepted = conn + 1 };
}

-- a connection's event: where it is that of the next step, that is taken off the path, and what
-- follows is registered, behind it the line that the step gave; any other does nothing
abbrev pub after_talk : Server → ℕ → Bool → Step → List Step → Acted Server
after_talk s conn false step later = record { puts = []; becomes = s }
after_talk s conn true step later = record {
  puts = follows conn later ++ logs s.log (length s.paths) conn step.line;
  becomes = record s { paths = slice_set s.paths conn later };
}

-- what a connection does with an event of this handler, by the rest of its path, where one is left;
-- the colour of the log is that of no connection, and nothing comes of its events
abbrev pub after_event : Server → ℕ → ℕ → Option (List Step) → Acted Server
after_event s conn handler None = record { puts = []; becomes = s }
after_event s conn handler (Some []) = record { puts = []; becomes = s }
after_event s conn handler (Some (next ∷ later)) =
    after_talk s conn (number_of next.handler == handler) next later

-- by the number of the handler
abbrev pub after_handler : Server → ℕ → ℕ → ℕ → Acted Server
after_handler s colour zero arg =
    after_poll (record s { last = s.last || not (arg == 0) }) s.waiting
after_handler s colour (suc zero) arg = after_wait s s.rests arg
after_handler s colour (suc (suc zero)) arg = after_accept s s.accepted
after_handler s colour (suc (suc (suc more))) arg =
    after_event s (colour - 2) (suc (suc (suc more))) (slice_get s.paths (colour - 2))

-- what the server does with an event of a colour
unfoldable pub serve : Server → Colour → Event → Acted Server
serve s c event = after_handler s c.0 event.handler event.arg

-- the first event: the world is polled
abbrev pub first_event : ℕ → Colour × Event
first_event zero = poll 1
first_event (suc more) = poll 0
