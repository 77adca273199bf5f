-- The events of a talk whose answers have lines in a log: each event is a burst of steps, which
-- ends also with a step that gives a line. So an event gives one line at most.
use Rattle.std.specs.Prelude.{◌≡◌, ◌-◌, ◌||◌, ℕ, Bool, false, if◌then◌else◌, List, [], ◌∷◌, ◌++◌, length, map, drop, Option, None, Some, option_map, ⊤}
use Rattle.std.specs.declared.snapshot.Snapshot.{Snapshot}
use Rattle.sws_link.specs.declared.Link.{Ghosts as LinkWords}
use Rattle.sws_link.specs.Scripts.{Script}
use Rattle.sws_steps.specs.declared.Handler.{Handler}
use Rattle.sws_steps.specs.declared.Handler.TheVariants as handler
use Rattle.sws_steps.specs.declared.talk.Talk.{Ghosts as TalkWords}
use Rattle.sws_steps.specs.Logs.{Step, last_line}
use Rattle.sws_steps.specs.Outcome.{UnlessMemory}
use Rattle.sws_steps.specs.Path.{answers_to_come, told_by_link}
use Rattle.sws_steps.specs.Talks.{due}
use Rattle.sws_burst.specs.Bursts.{IsBetween, begins, left_after, plain_step}

-- ---- which steps are events

-- how many steps more the burst may have after the step: none where it gave a line
abbrev pub left_behind : ℕ → Step → ℕ
left_behind left step = if step.line then 0 else left_after left step.handler

-- whether one of these steps gives a line before a burst begins, where the burst before them may
-- have so many steps more
unfoldable pub gives_line_from : ℕ → List Step → Bool
gives_line_from left [] = false
gives_line_from left (step ∷ later) =
    if begins left step.handler then false
    else step.line || gives_line_from (left_behind left step) later

-- of steps that follow one another the events, where the burst before them may have so many steps
-- more: those with which a burst begins, each with whether a step of the burst gives a line
unfoldable pub events_from : ℕ → List Step → List Step
events_from left [] = []
events_from left (step ∷ later) =
    if begins left step.handler then record {
      handler = step.handler;
      line = step.line || gives_line_from (left_behind left step) later;
    } ∷ events_from (left_behind left step) later
    else events_from (left_behind left step) later

-- how many steps more the last burst may have after these steps
unfoldable pub left_from : ℕ → List Step → ℕ
left_from left [] = left
left_from left (step ∷ later) = left_from (left_behind left step) later

-- the events by which these steps are taken: the first, which is the opening, by itself, and then
-- bursts
abbrev pub events_of : List Step → List Step
events_of [] = []
events_of (first ∷ later) = first ∷ events_from 0 later

-- the handlers of steps
abbrev pub handlers : List Step → List Handler
handlers steps = map (λ step. step.handler) steps

-- ---- what a talk has run

-- the opening, which gives no line
abbrev pub opening : Step
opening = plain_step handler.Open

-- the steps are the first of all, where these are told
abbrev pub AreFirst : List Step → Option (List Step) → Type 0
AreFirst ran None = ⊤
AreFirst ran (Some all) = (rest : List Step) × (all ≡ ran ++ rest)

module _ {T L G C : Type 0} (x : LinkWords L) (y : TalkWords T L G C) (first : L) where
  -- all steps of this hall over the link, where it told its answers to come
  abbrev pub all_steps : C → Option (List Step)
  all_steps hall = option_map (y.steps hall) (answers_to_come (x.tells first))

  -- the talk inside has made these steps: they are the first of all unless memory ran out, and the
  -- last of them gave a line where that is told
  pub record HasMade (steps : List Step) (talk : T) : Type 0 where
    pub ran : y.has_run first (handlers steps) talk
    pub told_is : y.told talk ≡ last_line steps
    pub follows : UnlessMemory (y.view_of talk).end
        (AreFirst steps (all_steps (y.hall_of talk)))

  -- it was opened over this link and has made steps since, whose events are those that were run,
  -- and the burst of the last of them is over
  pub record HasRunEvents (trail : List Handler) (talk : T) : Type 0 where
    pub later : List Step
    pub made : HasMade (opening ∷ later) talk
    pub events : trail ≡ handlers (events_of (opening ∷ later))
    pub between : IsBetween (left_from 0 later) (due (y.view_of talk))

-- ---- the rest of the path

-- the link as it was given
abbrev pub first_of : {L : Type 0} → Option (Snapshot L) → Option L
first_of first = option_map (λ link. link.value) first

-- the steps with these handlers, which give a line where those of a list do, one after another
unfoldable pub with_lines : List Handler → List Step → List Step
with_lines [] steps = []
with_lines (handler ∷ later) [] = plain_step handler ∷ with_lines later []
with_lines (handler ∷ later) (step ∷ steps) =
    record { handler = handler; line = step.line } ∷ with_lines later steps

-- the last steps of all, where these handlers are left
abbrev pub steps_left : List Step → List Handler → List Step
steps_left all rest = with_lines rest (drop (length all - length rest) all)

-- all steps of a link, where it told its answers to come, and else none
abbrev pub steps_by : (Script → List Step) → Option Script → List Step
steps_by steps None = []
steps_by steps (Some script) = steps script

-- the events that are left, where these handlers of all steps are
abbrev pub events_left : List Step → Option (List Handler) → Option (List Handler)
events_left all rest = option_map (λ left. handlers (events_from 0 (steps_left all left))) rest

module _ {T L G C : Type 0} (x : LinkWords L) (y : TalkWords T L G C) where
  -- the rest of the path of a talk that was given this link
  abbrev pub rest_of_events : Option (Snapshot L) → T → Option (List Handler)
  rest_of_events first talk = events_left
      (steps_by (y.steps (y.hall_of talk)) (answers_to_come (told_by_link x (first_of first))))
      (y.rest_of talk)

  -- it was given this link, and has run these events since
  pub record HasRunFrom (first : L) (trail : List Handler) (given : Option (Snapshot L)) (talk : T)
      : Type 0 where
    pub given_is : first_of given ≡ Some first
    pub ran : HasRunEvents x y first trail talk
