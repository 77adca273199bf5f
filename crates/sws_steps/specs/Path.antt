-- The events of a scripted connection alone: what each step does to its standing and its script,
-- and the list of them. It is defined twice: `IsPathFrom` says what a path is, and `path_of` gives
-- it, counting with a bound on the steps. A law has that both are the same.
use Rattle.std.specs.Prelude.{ℕ, ◌+◌, ◌-◌, ◌*◌, zero, suc, Bool, true, false, if◌then◌else◌, List, [], ◌∷◌, ◌++◌, length, Option, Some, None, ◌≡◌, ⊤}
use Rattle.std.specs.Option.{option_to_list}
use Rattle.sws_link.specs.Scripts.{Script, read_of, write_of}
use Rattle.sws_link.specs.declared.Link.{Ghosts as LinkWords}
use Rattle.sws_link.specs.Links.{LinkContents}
use Rattle.sws_parts.specs.Parts.{front_of, unsent_bytes}
use Rattle.sws_steps.specs.Protocol.{Protocol}
use Rattle.sws_steps.specs.ConnCore.{ConnCoreState, is_waiting, ConnState}
use Rattle.sws_steps.specs.declared.Handler.{Handler}
use Rattle.sws_steps.specs.declared.Handler.TheVariants as handler
use Rattle.sws_steps.specs.declared.Next.{Next}
use Rattle.sws_steps.specs.declared.Next.TheVariants as next
use Rattle.sws_steps.specs.Step.{going_to, room_of, after_read, after_parse, after_look, after_write, wait_limit}
use Rattle.sws_steps.specs.Sound.{core_before_open}
use Rattle.sws_steps.specs.Outcome.{UnlessMemory}

-- the event that is due after a step that answered this, if one is
abbrev pub due_after : Next → Option Handler
due_after next.Open = Some handler.Open
due_after next.Read = Some handler.Read
due_after next.Parse = Some handler.Parse
due_after next.Look = Some handler.Look
due_after next.Write = Some handler.Write
due_after next.Wait = Some handler.Resume
due_after next.Close = Some handler.Close
due_after next.Nothing = None

-- the event that does a step, in a list
abbrev pub handler_of : Next → List Handler
handler_of pending = option_to_list (due_after pending)

-- the event that is due: the step, or the same one again where the link was not ready
abbrev pub event_of : {Hall : Type 0} → ConnCoreState Hall → List Handler
event_of c = if is_waiting c then handler.Resume ∷ [] else handler_of c.pending

-- a connection over a script, as they stand
pub record Scripted (Hall : Type 0) : Type 0 where
  pub standing : ConnCoreState Hall
  pub script : Script

module _ {Hall Answer : Type 0} (p : Protocol Hall Answer) where
  -- the step where this is pending: what the table of steps does over a link, with the
  -- script in place of the link
  abbrev pub scripted_at : Next → Scripted Hall → Scripted Hall
  scripted_at next.Open c = record c { standing = going_to c.standing next.Read }
  scripted_at next.Read c =
      let said = read_of (room_of p c.standing) c.script.items in
      record {
        standing = after_read c.standing said.answer said.bytes;
        script = record c.script { items = said.items };
      }
  scripted_at next.Parse c =
      record c { standing = after_parse p c.standing (p.cut c.standing.buffer) }
  scripted_at next.Look c =
      record c { standing = after_look p c.standing (p.cut c.standing.buffer) }
  scripted_at next.Write c =
      let said = write_of c.script (length (front_of c.standing.parts)) in
      record { standing = after_write c.standing said.answer; script = said.script }
  scripted_at next.Wait c = c
  scripted_at next.Close c = record c { standing = going_to c.standing next.Nothing }
  scripted_at next.Nothing c = c

  -- the step that is pending
  abbrev pub scripted_step : Scripted Hall → Scripted Hall
  scripted_step c = scripted_at c.standing.pending c

  -- ---- what a path is

  -- the list begins with the event of the pending step and goes on as a path from what that step
  -- leaves; it is at its end where no step is pending any more
  unfoldable pub IsPathFrom : Scripted Hall → List Handler → Type 0
  IsPathFrom c [] = event_of c.standing ≡ []
  IsPathFrom c (event ∷ later) = (event_of c.standing ≡ event ∷ [])
      × IsPathFrom (scripted_step c) later

  -- ---- the path

  -- the events of so many steps
  unfoldable pub events : ℕ → Scripted Hall → List Handler
  events zero c = []
  events (suc more) c = event_of c.standing ++ events more (scripted_step c)

-- ---- how many steps there may be

-- a number that falls with each step that takes, answers and writes nothing and is not kept waiting
abbrev pub rank_of : Next → ℕ
rank_of next.Open = 3
rank_of next.Parse = 3
rank_of next.Read = 2
rank_of next.Look = 2
rank_of next.Write = 2
rank_of next.Wait = 2
rank_of next.Close = 1
rank_of next.Nothing = 0

-- whether the end of the input is still to be read, as a number
abbrev pub input_left : Bool → ℕ
input_left true = 0
input_left false = 1

-- the answers to come of a link that tells them
abbrev pub answers_to_come : Option LinkContents → Option Script
answers_to_come None = None
answers_to_come (Some tells) = tells.to_come

-- what the link tells, where there is one
abbrev pub told_by_link : {L : Type 0} → LinkWords L → Option L → Option LinkContents
told_by_link x None = None
told_by_link x (Some link) = x.tells link

-- these events are taken off the front of a path, which leaves the rest
abbrev pub TakesOff : List Handler → Option (List Handler) → Option (List Handler) → Type 0
TakesOff front None rest = rest ≡ None
TakesOff front (Some path) rest = (left : List Handler) × (rest ≡ Some left)
    × (path ≡ front ++ left)

-- no event is left, where that is told
abbrev pub HasNoEvents : Option (List Handler) → Type 0
HasNoEvents None = ⊤
HasNoEvents (Some rest) = rest ≡ []

-- the standing, and the answers to come that are told, are those of the scripted connection
pub record Follows {Hall : Type 0} (next : Scripted Hall) (d : ConnCoreState Hall)
    (now : Option LinkContents) : Type 0 where
  pub after : LinkContents
  pub is : now ≡ Some after
  pub to_come : after.to_come ≡ Some next.script
  pub standing : d ≡ next.standing

module _ {Hall Answer : Type 0} (p : Protocol Hall Answer) where
  -- a bound on the steps that are left
  abbrev pub steps_left : ConnCoreState Hall → ℕ
  steps_left c =
      ((p.answer_limit c.hall - c.answered) * (p.text_limit + 1) + length (unsent_bytes c.parts)
      + (p.input_limit c.hall - c.read) + input_left c.input_ended) * 160
      + (wait_limit - c.waits) * 4 + rank_of c.pending

  -- the rest of the path
  abbrev pub rest_of_path : ConnCoreState Hall → Script → List Handler
  rest_of_path c script = events p (steps_left c) (record { standing = c; script = script })

  -- the path of a scripted connection
  abbrev pub path_of : Hall → Script → List Handler
  path_of hall script = rest_of_path (core_before_open hall) script

  -- ---- a connection over a link that tells its answers to come

  -- the path of these answers
  abbrev pub path_by : Hall → Option Script → Option (List Handler)
  path_by hall None = None
  path_by hall (Some script) = Some (path_of hall script)

  -- the rest of the path as the connection stands, where these are the answers to come;
  -- none where they aren't told
  abbrev pub rest_by : ConnCoreState Hall → Option Script → Option (List Handler)
  rest_by c None = None
  rest_by c (Some script) = Some (rest_of_path c script)

  -- the path of a connection over such a link; none where the link doesn't tell its answers to come
  abbrev pub known_path : Hall → Option LinkContents → Option (List Handler)
  known_path hall tells = path_by hall (answers_to_come tells)

  -- the rest of its path as the connection stands; none where there is no link yet, or where it
  -- doesn't tell its answers to come
  abbrev pub known_rest : {L : Type 0} → LinkWords L → ConnState Hall L → Option (List Handler)
  known_rest x conn = rest_by conn.standing (answers_to_come (told_by_link x conn.link))

  -- a step takes its event off the rest of the path, unless memory runs out
  abbrev pub TakesEvent : {L : Type 0} → LinkWords L → ConnState Hall L
      → ConnState Hall L → Type 0
  TakesEvent x before after =
      UnlessMemory after.standing.end
      (TakesOff (event_of before.standing) (known_rest x before) (known_rest x after))

  -- from c, with these answers to come, the step led where that of the scripted connection leads,
  -- unless memory ran out; of answers that aren't told nothing is said
  abbrev pub FollowsBy : Option Script → ConnCoreState Hall → ConnCoreState Hall
      → Option LinkContents → Type 0
  FollowsBy None c d now = ⊤
  FollowsBy (Some script) c d now =
      UnlessMemory d.end (Follows
      (scripted_step p (record { standing = c; script = script })) d now)

  -- and by what the link told before the step; of a link that tells nothing, nothing is said
  abbrev pub FollowsTold : Option LinkContents → ConnCoreState Hall → ConnCoreState Hall
      → Option LinkContents → Type 0
  FollowsTold None c d now = ⊤
  FollowsTold (Some tells) c d now = FollowsBy tells.to_come c d now

  -- the step is the one of the scripted connection, where the link tells its answers to
  -- come, unless memory runs out
  abbrev pub FollowsScript : {L : Type 0} → LinkWords L → ConnState Hall L
      → ConnState Hall L → Type 0
  FollowsScript x before after = FollowsTold (told_by_link x before.link) before.standing
      after.standing (told_by_link x after.link)
