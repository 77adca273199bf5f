-- Bursts that end with a line, and the steps of which they are made.
use Rattle.std.specs.Prelude.{◌||◌, ◌-◌, if◌then◌else◌, drop, length, option_map}
use Rattle.std.specs.declared.snapshot.Snapshot.{Snapshot}
use Rattle.std.proofs.Common.{inl, inr, ◌⊎◌, ◌≡◌, ◌∙◌, ℕ, suc, ◌+◌, Bool, true, false, List, [], ◌∷◌, ◌++◌, Option, Some, None, refl, sym, ap, subst, append-nil}
use Rattle.std.proofs.Math.Seq.{drop-append_seam}
use Rattle.std.proofs.Math.Nat.{add-sub_cancel}
use Rattle.std.proofs.lemmas.List.{map-append, append_cancel_left, length-append, length-map}
use Rattle.sws_link.specs.declared.Link.{Ghosts as LinkWords}
use Rattle.sws_link.specs.Scripts.{Script}
use Rattle.sws_steps.specs.declared.End.{End}
use Rattle.sws_steps.specs.declared.End.TheVariants as ending
use Rattle.sws_steps.specs.declared.Handler.{Handler}
use Rattle.sws_steps.specs.declared.Handler.TheVariants as handler
use Rattle.sws_steps.specs.declared.Next.{Next}
use Rattle.sws_steps.specs.declared.talk.Talk.{Ghosts as TalkWords}
use Rattle.sws_steps.specs.Logs.{Step, last_line}
use Rattle.sws_steps.specs.Outcome.{UnlessMemory}
use Rattle.sws_steps.specs.Path.{TakesOff, answers_to_come, due_after, told_by_link}
use Rattle.sws_steps.specs.Talks.{TalkView, due, path_to_come, IsDue, BeginsWith, StepsBy, StepsServed}
use Rattle.sws_steps.proofs.Runs.PathLemmas.{unless-both, unless-map}
use Rattle.sws_burst.specs.Bursts.{IsBetween, begins, burst_limit, is_awaited, is_ready, spend, left_after}
use Rattle.sws_burst.specs.LoggedBursts.{AreFirst, HasMade, HasRunEvents, HasRunFrom, all_steps, events_from, events_left, events_of, first_of, gives_line_from, handlers, left_behind, left_from, opening, rest_of_events, steps_by, steps_left, with_lines}
use Rattle.sws_burst.proofs.BurstLemmas.{at-once, begins-quiet}

-- ---- steps behind steps

pub handlers-append : (left : ℕ) (front back : List Step)
    → handlers (events_from left (front ++ back)) ≡ handlers (events_from left front) ++ handlers (events_from (left_from left front) back)
unfolding events_from left_from
handlers-append left [] back = refl
handlers-append left (step ∷ front) back =
    by_begins (begins left step.handler) (step.line || gives_line_from (left_behind left step) (front ++ back)) (step.line || gives_line_from (left_behind left step) front)
    (handlers-append (left_behind left step) front back)
  where
    by_begins : (begin line other : Bool)
        → handlers (events_from (left_behind left step) (front ++ back))
        ≡ handlers (events_from (left_behind left step) front) ++ handlers (events_from (left_from (left_behind left step) front) back)
        → handlers (if begin then record { handler = step.handler; line = line } ∷ events_from (left_behind left step) (front ++ back) else events_from (left_behind left step) (front ++ back))
        ≡ handlers (if begin then record { handler = step.handler; line = other } ∷ events_from (left_behind left step) front else events_from (left_behind left step) front)
        ++ handlers (events_from (left_from (left_behind left step) front) back)
    by_begins true line other rest = ap (λ l. step.handler ∷ l) rest
    by_begins false line other rest = rest

pub left-append : (left : ℕ) (front back : List Step) → left_from left (front ++ back) ≡ left_from (left_from left front) back
unfolding left_from
left-append left [] back = refl
left-append left (step ∷ front) back = left-append (left_behind left step) front back

-- steps that are no part of the burst before them give it no line
line-append : (left : ℕ) (front back : List Step) → gives_line_from (left_from left front) back ≡ false
    → gives_line_from left (front ++ back) ≡ gives_line_from left front
unfolding gives_line_from left_from
line-append left [] back none = none
line-append left (step ∷ front) back none =
    ap (λ line. if begins left step.handler then false else step.line || line) (line-append (left_behind left step) front back none)

pub events-append : (left : ℕ) (front back : List Step) → gives_line_from (left_from left front) back ≡ false
    → events_from left (front ++ back) ≡ events_from left front ++ events_from (left_from left front) back
unfolding events_from left_from
events-append left [] back none = refl
events-append left (step ∷ front) back none =
    ap (λ line. if begins left step.handler then record { handler = step.handler; line = step.line || line } ∷ events_from (left_behind left step) (front ++ back)
    else events_from (left_behind left step) (front ++ back)) (line-append (left_behind left step) front back none)
    ∙ by_begins (begins left step.handler) (events-append (left_behind left step) front back none)
  where
    by_begins : (begin : Bool)
        → events_from (left_behind left step) (front ++ back)
        ≡ events_from (left_behind left step) front ++ events_from (left_from (left_behind left step) front) back
        → (if begin then record { handler = step.handler; line = step.line || gives_line_from (left_behind left step) front } ∷ events_from (left_behind left step) (front ++ back) else events_from (left_behind left step) (front ++ back))
        ≡ (if begin then record { handler = step.handler; line = step.line || gives_line_from (left_behind left step) front } ∷ events_from (left_behind left step) front else events_from (left_behind left step) front)
        ++ events_from (left_from (left_behind left step) front) back
    by_begins true rest = ap (λ l. record { handler = step.handler; line = step.line || gives_line_from (left_behind left step) front } ∷ l) rest
    by_begins false rest = rest

-- ---- a burst that begins

-- its event, and those behind it
abbrev begun : Step → List Step → List Step
begun step later = record { handler = step.handler; line = step.line || gives_line_from (if step.line then 0 else burst_limit - 1) later }
    ∷ events_from (if step.line then 0 else burst_limit - 1) later

pub begins-event : (left : ℕ) (step : Step) (later : List Step) → begins left step.handler ≡ true
    → (events_from left (step ∷ later) ≡ begun step later)
    × (left_from left (step ∷ later) ≡ left_from (if step.line then 0 else burst_limit - 1) later)
    × (gives_line_from left (step ∷ later) ≡ false)
unfolding events_from left_from gives_line_from
begins-event left step later begin = (
  ap (λ b. if b then record { handler = step.handler; line = step.line || gives_line_from (if step.line then 0 else if b then burst_limit - 1 else spend left) later }
      ∷ events_from (if step.line then 0 else if b then burst_limit - 1 else spend left) later
      else events_from (if step.line then 0 else if b then burst_limit - 1 else spend left) later) begin,
  ap (λ b. left_from (if step.line then 0 else if b then burst_limit - 1 else spend left) later) begin,
  ap (λ b. if b then false else step.line || gives_line_from (if step.line then 0 else if b then burst_limit - 1 else spend left) later) begin,
)

-- the next event begins a burst, whatever the last one had left
begins-between : (left : ℕ) (event : Handler) → IsBetween left (Some event) → begins left event ≡ true
begins-between left event (inl none) = ap (λ n. begins n event) none
begins-between left event (inr quiet) = begins-quiet left event quiet

-- so that no step of the rest is a part of the last burst
between-any : (left : ℕ) (event : Option Handler) (rest : List Step) → IsBetween left event → BeginsWith event (handlers rest)
    → (events_from left rest ≡ events_from 0 rest) × (gives_line_from left rest ≡ false)
unfolding events_from gives_line_from
between-any left event [] between begin = (refl, refl)
between-any left None (step ∷ later) between begin = let no : step.handler ∷ handlers later ≡ [] = begin in cc
between-any left (Some event) (step ∷ later) between begin =
    let same : step.handler ≡ event = (let is : step.handler ∷ handlers later ≡ event ∷ begin.0 = begin.1 in cc) in
    let awaits = begins-between left step.handler (subst (λ e. IsBetween left (Some e)) (sym same) between) in
    let at = begins-event left step later awaits in
    (at.0 ∙ sym (begins-event 0 step later refl).0, at.2)

-- the next burst begins with the event that is due
begins-due : (event : Option Handler) (rest : List Step) → BeginsWith event (handlers rest) → BeginsWith event (handlers (events_from 0 rest))
unfolding events_from
begins-due None [] begin = refl
begins-due None (step ∷ later) begin = let no : step.handler ∷ handlers later ≡ [] = begin in cc
begins-due (Some event) [] begin = let no : [] ≡ event ∷ begin.0 = begin.1 in cc
begins-due (Some event) (step ∷ later) begin =
    let same : step.handler ≡ event = (let is : step.handler ∷ handlers later ≡ event ∷ begin.0 = begin.1 in cc) in (
      handlers (events_from (if step.line then 0 else burst_limit - 1) later),
      ap (λ h. h ∷ handlers (events_from (if step.line then 0 else burst_limit - 1) later)) same,
    )

-- ---- the last line

first-line : (one other : Handler) (line : Bool) (later : List Step)
    → last_line (record { handler = one; line = line } ∷ later) ≡ last_line (record { handler = other; line = line } ∷ later)
first-line one other line [] = refl
first-line one other line (step ∷ later) = refl

-- the last event gives a line exactly where the last step does, of steps that go on a burst which
-- has given none, or has nothing left
last-of : (one : Handler) (line : Bool) (left : ℕ) (later : List Step) → (line ≡ true → left ≡ 0)
    → last_line (record { handler = one; line = line || gives_line_from left later } ∷ events_from left later)
    ≡ last_line (record { handler = one; line = line } ∷ later)
unfolding events_from gives_line_from
last-of one line left [] spent = ap (λ b. last_line (record { handler = one; line = b } ∷ [])) (or-false line)
  where
    or-false : (b : Bool) → (b || false) ≡ b
    or-false true = refl
    or-false false = refl
last-of one line left (step ∷ later) spent =
    by_begins (begins left step.handler) refl (last-of step.handler step.line (left_behind left step) later spent-behind)
  where
    spent-behind : step.line ≡ true → left_behind left step ≡ 0
    spent-behind is = ap (λ b. if b then 0 else left_after left step.handler) is

    -- where the burst goes on, it has given no line yet
    unlined : (b : Bool) → (b ≡ true → left ≡ 0) → begins left step.handler ≡ false → b ≡ false
    unlined true is_spent goes = let zero_is = is_spent refl in
        let no : true ≡ false = ap (λ n. begins n step.handler) (sym zero_is) ∙ goes in cc
    unlined false is_spent goes = refl

    by_begins : (begin : Bool) → begins left step.handler ≡ begin
        → last_line (record { handler = step.handler; line = step.line || gives_line_from (left_behind left step) later } ∷ events_from (left_behind left step) later)
        ≡ last_line (step ∷ later)
        → last_line (record { handler = one; line = line || gives_line_from left (step ∷ later) } ∷ events_from left (step ∷ later))
        ≡ last_line (record { handler = one; line = line } ∷ step ∷ later)
    by_begins true is rest =
        ap (λ b. last_line (record { handler = one; line = line || (if b then false else step.line || gives_line_from (left_behind left step) later) }
        ∷ (if b then record { handler = step.handler; line = step.line || gives_line_from (left_behind left step) later } ∷ events_from (left_behind left step) later
        else events_from (left_behind left step) later))) is
        ∙ rest
    by_begins false is rest =
        ap (λ b. last_line (record { handler = one; line = line || (if b then false else step.line || gives_line_from (left_behind left step) later) }
        ∷ (if b then record { handler = step.handler; line = step.line || gives_line_from (left_behind left step) later } ∷ events_from (left_behind left step) later
        else events_from (left_behind left step) later))) is
        ∙ ap (λ b. last_line (record { handler = one; line = b || (step.line || gives_line_from (left_behind left step) later) } ∷ events_from (left_behind left step) later)) (unlined line spent is)
        ∙ first-line one step.handler (step.line || gives_line_from (left_behind left step) later) (events_from (left_behind left step) later)
        ∙ rest

no-line : (later : List Step) → gives_line_from 0 later ≡ false
unfolding gives_line_from
no-line [] = refl
no-line (step ∷ later) = refl

pub last-event : (later : List Step) → last_line (events_of (opening ∷ later)) ≡ last_line (opening ∷ later)
last-event later =
    ap (λ b. last_line (record { handler = handler.Open; line = b } ∷ events_from 0 later)) (sym (no-line later))
    ∙ last-of handler.Open false 0 later (λ no. refl)

pub last-append : (front : List Step) (step : Step) → last_line (front ++ step ∷ []) ≡ step.line
last-append [] step = refl
last-append (one ∷ []) step = refl
last-append (one ∷ next ∷ front) step = last-append (next ∷ front) step

-- ---- the first steps of all

-- one step more, by its handler and whether it gave a line
front-more : (steps rest ran rest_now : List Step) (event : Handler) (line : Bool) → steps ++ rest ≡ ran ++ rest_now
    → handlers ran ≡ handlers steps ++ event ∷ [] → line ≡ last_line ran → ran ≡ steps ++ record { handler = event; line = line } ∷ []
front-more [] rest [] rest_now event line same trail told = let no : [] ≡ event ∷ [] = trail in cc
front-more [] rest (one ∷ []) rest_now event line same trail told =
    let is : one.handler ≡ event = (let all : one.handler ∷ [] ≡ event ∷ [] = trail in cc) in
    ap (λ h. record { handler = h; line = one.line } ∷ []) is ∙ ap (λ b. record { handler = event; line = b } ∷ []) (sym told)
front-more [] rest (one ∷ next ∷ more) rest_now event line same trail told =
    let no : one.handler ∷ next.handler ∷ handlers more ≡ event ∷ [] = trail in cc
front-more (step ∷ steps) rest [] rest_now event line same trail told =
    let no : [] ≡ step.handler ∷ (handlers steps ++ event ∷ []) = trail in cc
front-more (step ∷ steps) rest (one ∷ []) rest_now event line same trail told =
    none steps (let all : one.handler ∷ [] ≡ step.handler ∷ (handlers steps ++ event ∷ []) = trail in cc)
  where
    none : (steps : List Step) → [] ≡ handlers steps ++ event ∷ [] → one ∷ [] ≡ step ∷ (steps ++ record { handler = event; line = line } ∷ [])
    none [] never = cc
    none (a ∷ b) never = cc
front-more (step ∷ steps) rest (one ∷ next ∷ more) rest_now event line same trail told =
    let heads : one ≡ step = (let all : step ∷ (steps ++ rest) ≡ one ∷ next ∷ (more ++ rest_now) = same in cc) in
    let tails : steps ++ rest ≡ next ∷ (more ++ rest_now) = (let all : step ∷ (steps ++ rest) ≡ one ∷ next ∷ (more ++ rest_now) = same in cc) in
    let trails : next.handler ∷ handlers more ≡ handlers steps ++ event ∷ [] =
    (let all : one.handler ∷ next.handler ∷ handlers more ≡ step.handler ∷ (handlers steps ++ event ∷ []) = trail in cc) in
    ap (λ o. o ∷ next ∷ more) heads ∙ ap (λ l. step ∷ l) (front-more steps rest (next ∷ more) rest_now event line tails trails told)

-- the first steps are followed by one more
follows-more : (all : Script → List Step) (script : Option Script) (steps : List Step) (event : Handler) (told : Bool) (view : TalkView)
    → AreFirst steps (option_map all script) → StepsBy all script (handlers steps ++ event ∷ []) told view
    → AreFirst (steps ++ record { handler = event; line = told } ∷ []) (option_map all script)
follows-more all None steps event told view first served = tt
follows-more all (Some script) steps event told view (rest, is) served = (
  served.rest,
  served.all_is ∙ ap (λ l. l ++ served.rest)
      (front-more steps rest served.ran served.rest event told (sym is ∙ served.all_is) served.trail_is served.told_is),
)

-- ---- the rest of the steps

handlers-lined : (rest : List Handler) (steps : List Step) → handlers (with_lines rest steps) ≡ rest
unfolding with_lines
handlers-lined [] steps = refl
handlers-lined (event ∷ rest) [] = ap (λ l. event ∷ l) (handlers-lined rest [])
handlers-lined (event ∷ rest) (step ∷ steps) = ap (λ l. event ∷ l) (handlers-lined rest steps)

lined-same : (steps : List Step) → with_lines (handlers steps) steps ≡ steps
unfolding with_lines
lined-same [] = refl
lined-same (step ∷ steps) = ap (λ l. step ∷ l) (lined-same steps)

left-same : (ran rest : List Step) → steps_left (ran ++ rest) (handlers rest) ≡ rest
left-same ran rest =
    let behind : length (ran ++ rest) - length (handlers rest) ≡ length ran =
    ap (λ n. n - length (handlers rest)) (length-append ran rest) ∙ ap (λ n. length ran + length rest - n) (length-map rest (λ (step : Step). step.handler))
    ∙ add-sub_cancel (length ran) (length rest) in
    ap (λ n. with_lines (handlers rest) (drop n (ran ++ rest))) behind ∙ ap (with_lines (handlers rest)) (drop-append_seam ran rest) ∙ lined-same rest

-- whatever lines it gives, it begins with what is due
pub left-due : (event : Option Handler) (all : List Step) (rest : Option (List Handler)) → IsDue event rest → IsDue event (events_left all rest)
left-due event all None is_due = tt
left-due event all (Some rest) is_due =
    begins-due event (steps_left all rest) (subst (BeginsWith event) (sym (handlers-lined rest (drop (length all - length rest) all))) is_due)

-- the steps behind those that were made, of which the handlers are what the talk inside has left
record Split (all : List Step) (later : List Step) (event : Option Handler) (rest : Option (List Handler)) : Type 0 where
  behind : List Step
  all_is : all ≡ opening ∷ (later ++ behind)
  rest_is : rest ≡ Some (handlers behind)
  due_is : BeginsWith event (handlers behind)

SplitBy : (Script → List Step) → Option Script → List Step → Option Handler → Option (List Handler) → Type 0
SplitBy all None later event rest = rest ≡ None
SplitBy all (Some script) later event rest = Split (all script) later event rest

split : (all : Script → List Step) (path : Script → List Handler) (script : Option Script) (later : List Step) (event : Option Handler) (rest : Option (List Handler))
    → ((s : Script) → handlers (all s) ≡ path s) → IsDue event rest → AreFirst (opening ∷ later) (option_map all script)
    → TakesOff (handlers (opening ∷ later)) (option_map path script) rest → SplitBy all script later event rest
unfolding SplitBy
split all path None later event rest are is_due first takes = takes
split all path (Some script) later event rest are is_due (behind, is) (left, rest_is, path_is) =
    let same : handlers behind ≡ left =
    append_cancel_left (handlers (opening ∷ later)) (handlers behind) left
    (sym (map-append (λ (step : Step). step.handler) (opening ∷ later) behind) ∙ ap handlers (sym is) ∙ are script ∙ path_is) in
    record {
      behind = behind;
      all_is = is;
      rest_is = rest_is ∙ ap Some (sym same);
      due_is = subst (BeginsWith event) (sym same) (subst (IsDue event) rest_is is_due);
    }

-- ---- what a run promises

-- what is left of the path, by events
takes-events : (all : Script → List Step) (script : Option Script) (later : List Step) (event : Option Handler) (rest : Option (List Handler))
    → IsBetween (left_from 0 later) event → SplitBy all script later event rest
    → TakesOff (handlers (events_of (opening ∷ later))) (option_map (λ s. handlers (events_of (all s))) script) (events_left (steps_by all script) rest)
unfolding SplitBy
takes-events all None later event rest between none = ap (events_left []) none
takes-events all (Some script) later event rest between s = (
  handlers (events_from 0 s.behind),
  ap (events_left (all script)) s.rest_is
      ∙ ap (λ l. Some (handlers (events_from 0 (steps_left l (handlers s.behind))))) s.all_is
      ∙ ap (λ l. Some (handlers (events_from 0 l))) (left-same (opening ∷ later) s.behind),
  ap (λ l. handlers (events_of l)) s.all_is
      ∙ ap (λ l. handler.Open ∷ l) (handlers-append 0 later s.behind
      ∙ ap (λ l. handlers (events_from 0 later) ++ handlers l) (between-any (left_from 0 later) event s.behind between s.due_is).0),
)

-- the events with their lines
steps-served : (all : Script → List Step) (script : Option Script) (later : List Step) (view : TalkView) (told : Bool) (trail : List Handler) (rest : Option (List Handler))
    → trail ≡ handlers (events_of (opening ∷ later)) → told ≡ last_line (opening ∷ later)
    → IsBetween (left_from 0 later) (due view) → SplitBy all script later (due view) rest
    → StepsBy (λ s. events_of (all s)) script trail told view
unfolding SplitBy
steps-served all None later view told trail rest events told_is between s = tt
steps-served all (Some script) later view told trail rest events told_is between s =
    let apart = between-any (left_from 0 later) (due view) s.behind between s.due_is in
    record {
      ran = events_of (opening ∷ later);
      rest = events_from 0 s.behind;
      all_is = ap events_of s.all_is
          ∙ ap (λ l. opening ∷ l) (events-append 0 later s.behind apart.1 ∙ ap (λ l. events_from 0 later ++ l) apart.0);
      trail_is = sym events;
      told_is = told_is ∙ sym (last-event later);
      due_is = begins-due (due view) s.behind s.due_is;
    }

module _ {T L G C : Type 0} (x : LinkWords L) (y : TalkWords T L G C) where
  -- what the talk inside promises of a run
  pub record Promises : Type 0 where
    pub path : (first : L) (trail : List Handler) (talk : T) → y.has_run first trail talk
        → UnlessMemory (y.view_of talk).end (TakesOff trail (path_to_come (y.path (y.hall_of talk)) (x.tells first)) (y.rest_of talk))
    pub due_is : (first : L) (trail : List Handler) (talk : T) → y.has_run first trail talk → IsDue (due (y.view_of talk)) (y.rest_of talk)
    pub steps : (first : L) (trail : List Handler) (talk : T) → y.has_run first trail talk
        → UnlessMemory (y.view_of talk).end (StepsServed (y.steps (y.hall_of talk)) (x.tells first) trail (y.told talk) (y.view_of talk))
    pub steps_are : (hall : C) (script : Script) → handlers (y.steps hall script) ≡ y.path hall script

  module _ (p : Promises) (first : L) (trail : List Handler) (given : Option (Snapshot L)) (talk : T) (run : HasRunFrom x y first trail given talk) where
    split-run : UnlessMemory (y.view_of talk).end
        (SplitBy (y.steps (y.hall_of talk)) (answers_to_come (x.tells first)) run.ran.later (due (y.view_of talk)) (y.rest_of talk))
    split-run =
        unless-both (y.view_of talk).end (y.view_of talk).end _ _ _ (λ memory. memory)
        (split (y.steps (y.hall_of talk)) (y.path (y.hall_of talk)) (answers_to_come (x.tells first)) run.ran.later (due (y.view_of talk)) (y.rest_of talk)
        (p.steps_are (y.hall_of talk)) (p.due_is first (handlers (opening ∷ run.ran.later)) talk run.ran.made.ran))
        run.ran.made.follows
        (p.path first (handlers (opening ∷ run.ran.later)) talk run.ran.made.ran)

    pub run-path : UnlessMemory (y.view_of talk).end
        (TakesOff trail (path_to_come (λ script. handlers (events_of (y.steps (y.hall_of talk) script))) (x.tells first)) (rest_of_events x y given talk))
    run-path =
        unless-map (y.view_of talk).end _ _
        (λ s. subst (λ t. TakesOff t (path_to_come (λ script. handlers (events_of (y.steps (y.hall_of talk) script))) (x.tells first)) (rest_of_events x y given talk)) (sym run.ran.events)
        (subst (λ l. TakesOff (handlers (events_of (opening ∷ run.ran.later))) (path_to_come (λ script. handlers (events_of (y.steps (y.hall_of talk) script))) (x.tells first))
        (events_left (steps_by (y.steps (y.hall_of talk)) (answers_to_come (told_by_link x l))) (y.rest_of talk))) (sym run.given_is)
        (takes-events (y.steps (y.hall_of talk)) (answers_to_come (x.tells first)) run.ran.later (due (y.view_of talk)) (y.rest_of talk) run.ran.between s)))
        split-run

    pub run-due : IsDue (due (y.view_of talk)) (rest_of_events x y given talk)
    run-due =
        left-due (due (y.view_of talk)) (steps_by (y.steps (y.hall_of talk)) (answers_to_come (told_by_link x (first_of given)))) (y.rest_of talk)
        (p.due_is first (handlers (opening ∷ run.ran.later)) talk run.ran.made.ran)

    pub run-steps : UnlessMemory (y.view_of talk).end
        (StepsServed (λ script. events_of (y.steps (y.hall_of talk) script)) (x.tells first) trail (y.told talk) (y.view_of talk))
    run-steps =
        unless-map (y.view_of talk).end _ _
        (steps-served (y.steps (y.hall_of talk)) (answers_to_come (x.tells first)) run.ran.later (y.view_of talk) (y.told talk) trail (y.rest_of talk)
        run.ran.events run.ran.made.told_is run.ran.between)
        split-run

-- ---- one step after another

module _ {T L G C : Type 0} (x : LinkWords L) (y : TalkWords T L G C) (first : L) where
  -- one step more was made
  made-more : (steps : List Step) (event : Handler) (before after : T)
      → y.hall_of after ≡ y.hall_of before → ((end : End) → (y.view_of before).end ≡ Some end → (y.view_of after).end ≡ Some end)
      → UnlessMemory (y.view_of before).end (AreFirst steps (all_steps x y first (y.hall_of before)))
      → y.has_run first (handlers steps ++ event ∷ []) after
      → UnlessMemory (y.view_of after).end (StepsServed (y.steps (y.hall_of after)) (x.tells first) (handlers steps ++ event ∷ []) (y.told after) (y.view_of after))
      → HasMade x y first (steps ++ record { handler = event; line = y.told after } ∷ []) after
  made-more steps event before after hall ended follows ran served = record {
    ran = subst (λ t. y.has_run first t after) (sym (map-append (λ (step : Step). step.handler) steps (record { handler = event; line = y.told after } ∷ []))) ran;
    told_is = sym (last-append steps (record { handler = event; line = y.told after }));
    follows =
        unless-both (y.view_of before).end (y.view_of after).end _ _ _ (ended ending.Memory)
        (λ first_so steps_so. follows-more (y.steps (y.hall_of after)) (answers_to_come (x.tells first)) steps event (y.told after) (y.view_of after)
        (subst (λ h. AreFirst steps (all_steps x y first h)) (sym hall) first_so) steps_so)
        follows served;
  }

  -- the link was just given
  pub opened-events : (before after : T) → y.hall_of after ≡ y.hall_of before → y.told after ≡ false
      → y.has_run first (handler.Open ∷ []) after
      → UnlessMemory (y.view_of after).end (StepsServed (y.steps (y.hall_of after)) (x.tells first) (handler.Open ∷ []) (y.told after) (y.view_of after))
      → HasRunEvents x y first (handler.Open ∷ []) after
  unfolding events_from left_from
  opened-events before after hall told ran served = record {
    later = [];
    made = record {
      ran = ran;
      told_is = told;
      follows =
          unless-map (y.view_of after).end _ _
          (λ steps_so. subst (λ b. AreFirst (record { handler = handler.Open; line = b } ∷ []) (all_steps x y first (y.hall_of after))) told
          (follows-more (y.steps (y.hall_of after)) (answers_to_come (x.tells first)) [] handler.Open (y.told after) (y.view_of after)
          (none (option_map (y.steps (y.hall_of after)) (answers_to_come (x.tells first)))) steps_so))
          served;
    };
    events = refl;
    between = inl refl;
  }
    where
      none : (all : Option (List Step)) → AreFirst [] all
      none None = tt
      none (Some all) = (all, refl)

  -- a burst that goes on behind these events, and may have so many steps more unless it has given a
  -- line
  pub record Going (trail : List Handler) (talk : T) (left : ℕ) : Type 0 where
    pub later : List Step
    pub made : HasMade x y first (opening ∷ later) talk
    pub events : trail ≡ handlers (events_of (opening ∷ later))
    pub left_is : left_from 0 later ≡ (if y.told talk then 0 else left)

  -- what a step does
  pub record IsStepOn (before after : T) (event : Handler) : Type 0 where
    pub hall : y.hall_of after ≡ y.hall_of before
    pub ended : (end : End) → (y.view_of before).end ≡ Some end → (y.view_of after).end ≡ Some end
    pub runs : (trail : List Handler) → y.has_run first trail before → y.has_run first (trail ++ event ∷ []) after

  one-made : (p : Promises x y) (later : List Step) (event : Handler) (before after : T) → IsStepOn before after event
      → HasMade x y first (opening ∷ later) before
      → HasMade x y first (opening ∷ (later ++ record { handler = event; line = y.told after } ∷ [])) after
  one-made p later event before after on made =
      let ran = on.runs (handlers (opening ∷ later)) made.ran in
      made-more (opening ∷ later) event before after on.hall on.ended made.follows ran
      (p.steps first (handlers (opening ∷ later) ++ event ∷ []) after ran)

  -- a burst begins
  pub burst-begun : (p : Promises x y) (trail : List Handler) (event : Handler) (before after : T) → IsStepOn before after event
      → due (y.view_of before) ≡ Some event → HasRunEvents x y first trail before → Going (trail ++ event ∷ []) after (burst_limit - 1)
  unfolding events_from left_from
  burst-begun p trail event before after on is_due ran =
      let step : Step = record { handler = event; line = y.told after } in
      let begin = begins-between (left_from 0 ran.later) event (subst (IsBetween (left_from 0 ran.later)) is_due ran.between) in
      let at = begins-event (left_from 0 ran.later) step [] begin in
      record {
        later = ran.later ++ step ∷ [];
        made = one-made p ran.later event before after on ran.made;
        events = ap (λ t. t ++ event ∷ []) ran.events
            ∙ ap (λ l. handler.Open ∷ l) (sym (handlers-append 0 ran.later (step ∷ [])
            ∙ ap (λ l. handlers (events_from 0 ran.later) ++ handlers l) at.0));
        left_is = left-append 0 ran.later (step ∷ []) ∙ at.1;
      }

  -- and goes on
  one-more-event : (left : ℕ) (step : Step) → is_awaited step.handler ≡ false
      → (events_from (suc left) (step ∷ []) ≡ []) × (left_from (suc left) (step ∷ []) ≡ (if step.line then 0 else left))
  unfolding events_from left_from gives_line_from
  one-more-event left step early = (
    ap (λ b. if b then record { handler = step.handler; line = step.line || false } ∷ [] else []) early,
    ap (λ b. if step.line then 0 else if b then burst_limit - 1 else left) early,
  )

  pub burst-goes : (p : Promises x y) (trail : List Handler) (before after : T) (left : ℕ) (now : Next) → is_ready now ≡ true
      → y.told before ≡ false → ((event : Handler) → due_after now ≡ Some event → IsStepOn before after event)
      → Going trail before (suc left) → Going trail after left
  unfolding events_from left_from
  burst-goes p trail before after left now ready untold on going =
      let made_now = at-once now ready in
      let event = made_now.0 in
      let step : Step = record { handler = event; line = y.told after } in
      let left_so : left_from 0 going.later ≡ suc left = going.left_is ∙ ap (λ b. if b then 0 else suc left) untold in
      let more = one-more-event left step made_now.2 in
      record {
        later = going.later ++ step ∷ [];
        made = one-made p going.later event before after (on event made_now.1) going.made;
        events = going.events
            ∙ ap (λ l. handler.Open ∷ l) (sym (handlers-append 0 going.later (step ∷ [])
            ∙ ap (λ n. handlers (events_from 0 going.later) ++ handlers (events_from n (step ∷ []))) left_so
            ∙ ap (λ l. handlers (events_from 0 going.later) ++ handlers l) more.0
            ∙ append-nil (handlers (events_from 0 going.later))));
        left_is = left-append 0 going.later (step ∷ []) ∙ ap (λ n. left_from n (step ∷ [])) left_so ∙ more.1;
      }

  -- it is over where it has given a line, has had its share, or no step can be made at once
  pub burst-over : (trail : List Handler) (talk : T) (left : ℕ) → (y.told talk ≡ true) ⊎ IsBetween left (due (y.view_of talk))
      → Going trail talk left → HasRunEvents x y first trail talk
  burst-over trail talk left over going = record {
    later = going.later;
    made = going.made;
    events = going.events;
    between = by_told (y.told talk) refl over;
  }
    where
      by_told : (told : Bool) → y.told talk ≡ told → (y.told talk ≡ true) ⊎ IsBetween left (due (y.view_of talk))
          → IsBetween (left_from 0 going.later) (due (y.view_of talk))
      by_told true is over = inl (going.left_is ∙ ap (λ b. if b then 0 else left) is)
      by_told false is (inl told) = let never : false ≡ true = sym is ∙ told in cc
      by_told false is (inr between) =
          subst (λ n. IsBetween n (due (y.view_of talk))) (sym (going.left_is ∙ ap (λ b. if b then 0 else left) is)) between
