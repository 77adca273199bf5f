-- A connection's event makes of the connection what its path says, unless its
-- link meets want of memory.
use Rattle.std.proofs.Common.{◌≡◌, ◌≢◌, ◌+◌, ◌⊎◌, ℕ, Bool, true, false, true≢false, List, [], ◌∷◌, ◌++◌, Option, None, Some, map, arith, refl, sym, ap, subst, ◌∙◌, inl, inr, eq-eqb, append_assoc}
use Rattle.sws_log.specs.declared.line.LogLine.{LogLine}
use Rattle.std.specs.Prelude.{◌==◌, ◌&&◌, if◌then◌else◌, length, option_map, is_some}
use Rattle.std.proofs.lemmas.Bool.{ne_eqb}
use Rattle.std.proofs.lemmas.Bool.Decides.{eqb_tells}
use Rattle.std.proofs.lemmas.List.{length-map}
use Rattle.std.proofs.lemmas.Option.{none-some, same_Some}
use Rattle.mely_event.specs.declared.colour.Colour.{Colour}
use Rattle.mely_event.specs.declared.event.Event.{Event}
use Rattle.sws_link.specs.declared.Link.{Ghosts as LinkWords}
use Rattle.sws_link.specs.declared.world.World.{Ghosts as WorldWords}
use Rattle.sws_link.specs.Scripts.{Script}
use Rattle.sws_steps.specs.declared.End.{End}
use Rattle.sws_steps.specs.declared.End.TheVariants.{Done, Idle, Fault, Memory}
use Rattle.sws_steps.specs.declared.talk.Talk.{Ghosts as TalkWords}
use Rattle.sws_steps.specs.Logs.{Step, last_line}
use Rattle.sws_steps.specs.Talks.{StepsBy, StepsServed}
use Rattle.sws_conn.specs.Outcome.{UnlessMemory}
use Rattle.sws_steps.specs.declared.Handler.{Handler}
use Rattle.sws_steps.specs.declared.Handler.TheVariants as handler
use Rattle.sws_conn.specs.Path.{answers_to_come}
use Rattle.sws_conn.specs.Talks.{TalkView, unopened_view, due, BeginsWith}
use Rattle.sws_handlers.specs.declared.load.Load.{Load}
use Rattle.sws_handlers.specs.declared.load.Load.TheVariants as load
use Rattle.sws_handlers.specs.declared.place.Seat.{Seat}
use Rattle.sws_handlers.specs.Tasks.{number_of}
use Rattle.sws_handlers.specs.Handling.{Put, is_due, next_puts, line_puts, Stepped, PutsNext, RunsSeat}
use Rattle.sws_handlers.specs.PathPlaces as path
use Rattle.sws_handlers.specs.PathStates.{steps_to_come, HasRun, HasTalk, HasLoad, ArePuts}
use Rattle.sws_handlers.proofs.Events.SeatKeptLemmas.{due_event}

met_memory : (end : Option End) → (end ≡ Some Memory) ⊎ (end ≢ Some Memory)
met_memory None = inr (λ is. cc)
met_memory (Some Done) = inr (λ is. cc)
met_memory (Some Idle) = inr (λ is. cc)
met_memory (Some Fault) = inr (λ is. cc)
met_memory (Some Memory) = inl refl

unless : (end : Option End) (Fact : Type 0) → end ≢ Some Memory → UnlessMemory end Fact → Fact
unless None Fact sound is = is
unless (Some Done) Fact sound is = is
unless (Some Idle) Fact sound is = is
unless (Some Fault) Fact sound is = is
unless (Some Memory) Fact sound is = absurd (sound refl)

same_eqb : (a b : ℕ) → (a == b) ≡ (b == a)
same_eqb a b = elim (eqb_tells a b) [
  | inl same ↦ same.0 ∙ sym (eq-eqb b a (sym same.1))
  | inr apart ↦ apart.0 ∙ sym (ne_eqb b a (λ e. apart.1 (sym e)))
]

left_false : (a b : Bool) → b ≡ true → (a && b) ≡ false → a ≡ false
left_false true b yes_is isnt = absurd (true≢false (sym yes_is ∙ isnt))
left_false false b yes_is isnt = refl

due_number : (i : ℕ) (step : Handler) (event : Event) → is_due i (Some step) event ≡ true → (number_of step == event.handler) ≡ true
due_number i step event is = eq-eqb (number_of step) event.handler (sym (ap (λ (e : Event). e.handler) (due_event i step event is)))

other_number : (i : ℕ) (step : Handler) (event : Event) → event.arg ≡ i → is_due i (Some step) event ≡ false → (number_of step == event.handler) ≡ false
other_number i step event own isnt = same_eqb (number_of step) event.handler ∙ left_false (event.handler == number_of step) (event.arg == i) (eq-eqb event.arg i own) isnt

-- a connection is opened once
opened_once : (i : ℕ) (d : Option Handler) → is_due i d (record { handler = 3; arg = i }) ≡ false → d ≢ Some handler.Open
opened_once i d isnt is = true≢false (sym (eq-eqb i i refl) ∙ (sym (ap (λ (h : Option Handler). is_due i h (record { handler = 3; arg = i })) is) ∙ isnt))

step_at : (i : ℕ) (step : Handler) → (let c : Colour = record { 0 = i + 2 } in c) ≡ (path.talk i step).0
step_at i step = let e : i + 2 ≡ 2 + i = omega arith in ap (λ (n : ℕ). let k : Colour = record { 0 = n } in k) e

same_link : (W : Type 0) {L : Type 0} (a b : L) → ◌≡◌ {A = Option (Load W L)} (Some (load.Link a)) (Some (load.Link b)) → a ≡ b
same_link W a b is = cc

-- ---- lists

-- the handlers of steps
abbrev pub handlers : List Step → List Handler
handlers steps = map (λ (step : Step). step.handler) steps

handlers-append : (xs ys : List Step) → handlers (xs ++ ys) ≡ handlers xs ++ handlers ys
handlers-append [] ys = refl
handlers-append (x ∷ xs) ys = ap (λ hs. x.handler ∷ hs) (handlers-append xs ys)

cons_parts : {A : Type 0} (x y : A) (xs ys : List A) → x ∷ xs ≡ y ∷ ys → (x ≡ y) × (xs ≡ ys)
cons_parts x y xs ys is = (cc, cc)

-- fronts of one list that are as long as each other are the same, and so is what is behind them
same_cut : {A : Type 0} (a b c d : List A) → length a ≡ length c → a ++ b ≡ c ++ d → (a ≡ c) × (b ≡ d)
same_cut [] b [] d many is = (refl, is)
same_cut [] b (z ∷ c) d many is = absurd (omega (arith, many))
same_cut (x ∷ a) b [] d many is = absurd (omega (arith, many))
same_cut (x ∷ a) b (z ∷ c) d many is =
    let parts = cons_parts x z (a ++ b) (c ++ d) is in
    let later = same_cut a b c d (omega (arith, many)) parts.1 in
    (λ i. parts.0 i ∷ later.0 i, later.1)

last-line : (ran : List Step) (step : Step) → last_line (ran ++ step ∷ []) ≡ step.line
last-line [] step = refl
last-line (s ∷ []) step = refl
last-line (s ∷ t ∷ ran) step = last-line (t ∷ ran) step

-- where the opening was run, it is the first of the steps
first_ran : (ran rest way : List Step) → way ≡ ran ++ rest → handlers ran ≡ handler.Open ∷ [] → (step : Step) × (later : List Step) × (way ≡ step ∷ later) × (step.handler ≡ handler.Open)
first_ran [] rest way is ran_is = let none : [] ≡ handler.Open ∷ [] = ran_is in cc
first_ran (step ∷ ran) rest way is ran_is = (step, ran ++ rest, is, (cons_parts step.handler handler.Open (handlers ran) [] ran_is).0)

module _ {W L T G H : Type 0} (x : WorldWords W L) (l : LinkWords L) (y : TalkWords T L G H) (hall : H) (paths : List (List Step))
    (steps_law : (first : L) (trail : List Handler) (talk : T) → y.has_run first trail talk → UnlessMemory (y.view_of talk).end (StepsServed (y.steps (y.hall_of talk)) (l.tells first) trail (y.told talk) (y.view_of talk))) where
  abbrev Loads : Load W L → path.Load → Type 0
  Loads carried p = HasLoad x l y hall paths carried p

  abbrev Puts : List (Put W L) → List path.Put → Type 0
  Puts puts qs = ArePuts Loads puts qs

  -- ---- what the steps that were run say of those to come

  served_here : (link : L) (trail : List Handler) (talk : T) → y.hall_of talk ≡ hall → y.has_run link trail talk → (y.view_of talk).end ≢ Some Memory → StepsServed (y.steps hall) (l.tells link) trail (y.told talk) (y.view_of talk)
  served_here link trail talk hall_is runs sound =
      let served = unless (y.view_of talk).end (StepsServed (y.steps (y.hall_of talk)) (l.tells link) trail (y.told talk) (y.view_of talk)) sound (steps_law link trail talk runs) in
      subst (λ (h : H). StepsServed (y.steps h) (l.tells link) trail (y.told talk) (y.view_of talk)) hall_is served

  -- a talk that has run these steps of the whole way told what the last of them says, and the next
  -- one is due
  abbrev Along : T → List Step → List Step → Type 0
  Along talk ran rest = (y.told talk ≡ last_line ran) × BeginsWith (due (y.view_of talk)) (handlers rest)

  along_by : (o : Option Script) (talk : T) (ran rest : List Step) → option_map (y.steps hall) o ≡ Some (ran ++ rest) → StepsBy (y.steps hall) o (handlers ran) (y.told talk) (y.view_of talk) → Along talk ran rest
  along_by None talk ran rest is by = absurd (none-some (ran ++ rest) is)
  along_by (Some script) talk ran rest is by =
      let all : y.steps hall script ≡ ran ++ rest = same_Some (y.steps hall script) (ran ++ rest) is in
      let many : length by.ran ≡ length ran = sym (length-map by.ran (λ (step : Step). step.handler)) ∙ ap (λ (hs : List Handler). length hs) by.trail_is ∙ length-map ran (λ (step : Step). step.handler) in
      let same = same_cut by.ran by.rest ran rest many (sym by.all_is ∙ all) in
      (by.told_is ∙ ap (λ (steps : List Step). last_line steps) same.0, subst (λ (steps : List Step). BeginsWith (due (y.view_of talk)) (handlers steps)) same.1 by.due_is)

  along : (link : L) (ran rest : List Step) (talk : T) → y.hall_of talk ≡ hall → y.has_run link (handlers ran) talk → steps_to_come (y.steps hall) (l.tells link) ≡ Some (ran ++ rest) → (y.view_of talk).end ≢ Some Memory → Along talk ran rest
  along link ran rest talk hall_is runs way sound = along_by (answers_to_come (l.tells link)) talk ran rest way (served_here link (handlers ran) talk hall_is runs sound)

  opening_by : (o : Option Script) (talk : T) (way : List Step) → option_map (y.steps hall) o ≡ Some way → StepsBy (y.steps hall) o (handler.Open ∷ []) (y.told talk) (y.view_of talk) → (step : Step) × (later : List Step) × (way ≡ step ∷ later) × (step.handler ≡ handler.Open)
  opening_by None talk way is by = absurd (none-some way is)
  opening_by (Some script) talk way is by = first_ran by.ran by.rest way (sym (same_Some (y.steps hall script) way is) ∙ by.all_is) by.trail_is

  -- ---- what is put

  -- what is put for a step is the event that brings the connection on to it
  next_as : (i : ℕ) (event : Handler) → Puts (next_puts i (Some event)) (path.with_nothing (path.next_event i event) ∷ [])
  next_as i handler.Open = ((step_at i handler.Open, refl, tt), tt)
  next_as i handler.Read = ((step_at i handler.Read, refl, tt), tt)
  next_as i handler.Parse = ((step_at i handler.Parse, refl, tt), tt)
  next_as i handler.Look = ((step_at i handler.Look, refl, tt), tt)
  next_as i handler.Write = ((step_at i handler.Write, refl, tt), tt)
  next_as i handler.Close = ((step_at i handler.Close, refl, tt), tt)
  next_as i handler.Resume = ((refl, refl, tt), tt)

  -- what is put after a step is what follows on the path
  puts_follow : (i : ℕ) (d : Option Handler) (left : List Step) → BeginsWith d (handlers left) → Puts (next_puts i d) (map path.with_nothing (path.follows i left))
  puts_follow i None [] is = tt
  puts_follow i None (step ∷ left) is = let none : step.handler ∷ handlers left ≡ [] = is in cc
  puts_follow i (Some event) [] is = let none : [] ≡ event ∷ is.0 = is.1 in cc
  puts_follow i (Some event) (step ∷ left) is =
      subst (λ (h : Handler). Puts (next_puts i (Some event)) (path.with_nothing (path.next_event i h) ∷ [])) (sym (cons_parts step.handler event (handlers left) is.0 is.1).0) (next_as i event)

  -- a line that was given is put where there is a log
  line_follows : (log : Bool) (total i : ℕ) (line : Option LogLine) → Puts (line_puts log total i line) (map path.with_line (path.logs log total i (is_some line)))
  line_follows true total i None = tt
  line_follows false total i None = tt
  line_follows true total i (Some line) = ((refl, refl, tt), tt)
  line_follows false total i (Some line) = tt

  puts_append : (ps more : List (Put W L)) (qs later : List path.Put) → Puts ps qs → Puts more later → Puts (ps ++ more) (qs ++ later)
  puts_append [] more [] later are and_more = and_more
  puts_append [] more (q ∷ qs) later are and_more = absurd are
  puts_append (p ∷ ps) more [] later are and_more = absurd are
  puts_append (p ∷ ps) more (q ∷ qs) later are and_more = (are.0, puts_append ps more qs later are.1 and_more)

  -- ---- a step

  -- what a connection's event leaves: want of memory, or what the path says
  abbrev pub TalkRan : T → List (Put W L) → path.Ran → Type 0
  TalkRan talk puts ran = ((y.view_of talk).end ≡ Some Memory) ⊎ ((rest : Option (List Step)) × (ran.place ≡ path.talking rest) × HasTalk x l y hall paths talk rest × Puts puts ran.puts)

  -- a step that goes on with the path
  goes_on : (log : Bool) (total i : ℕ) (before talk : T) (puts : List (Put W L)) (link : L) (ran : List Step) (step : Step) (later : List Step) → y.hall_of talk ≡ hall → y.has_run link (handlers ran ++ step.handler ∷ []) talk → steps_to_come (y.steps hall) (l.tells link) ≡ Some (ran ++ step ∷ later)
      → PutsNext y log total i before talk puts → is_due i (due (y.view_of talk)) (record { handler = 3; arg = i }) ≡ false → TalkRan talk puts (path.goes_along log total i step later)
  goes_on log total i before talk puts link ran step later hall_is runs told next once = elim (met_memory (y.view_of talk).end) [
    | inl memory ↦ inl memory
    | inr sound ↦
        let all_ran : y.has_run link (handlers (ran ++ step ∷ [])) talk = subst (λ (hs : List Handler). y.has_run link hs talk) (sym (handlers-append ran (step ∷ []))) runs in
        let way : steps_to_come (y.steps hall) (l.tells link) ≡ Some ((ran ++ step ∷ []) ++ later) = told ∙ ap (λ (ws : List Step). Some ws) (sym (append_assoc ran (step ∷ []) later)) in
        let is = along link (ran ++ step ∷ []) later talk hall_is all_ran way sound in
        let line_is : is_some next.line ≡ step.line = next.told ∙ is.0 ∙ last-line ran step in
        let line_put = subst (λ (b : Bool). Puts (line_puts log total i next.line) (map path.with_line (path.logs log total i b))) line_is (line_follows log total i next.line) in
        inr (
          Some later,
          refl,
          (hall_is, record { link = link; ran = ran ++ step ∷ []; runs = all_ran; way = way; opened = opened_once i (due (y.view_of talk)) once; sound = sound }),
          subst (λ (us : List (Put W L)). Puts us (map path.with_nothing (path.follows i later) ++ map path.with_line (path.logs log total i step.line))) (sym next.puts_are)
              (puts_append (next_puts i (due (y.view_of talk))) (line_puts log total i next.line) (map path.with_nothing (path.follows i later)) (map path.with_line (path.logs log total i step.line)) (puts_follow i (due (y.view_of talk)) later is.1) line_put),
        )
  ]

  -- ---- an opened connection

  module _ (log : Bool) (total i : ℕ) (seat after : Seat T) (event : Event) (carried : Option (Load W L)) (puts : List (Put W L)) (own : event.arg ≡ i) (hall_is : y.hall_of seat.talk ≡ hall) where
    -- an event that isn't due changes nothing
    stays : (rest : Option (List Step)) → HasTalk x l y hall paths seat.talk rest → RunsSeat y log total false i seat event carried after puts → TalkRan after.talk puts (path.stays (path.talking rest))
    stays rest has does = inr (rest, refl, subst (λ (t : T). HasTalk x l y hall paths t rest) (sym does.0) has, subst (λ (us : List (Put W L)). Puts us []) (sym does.2) tt)

    stepped : (step : Handler) → step ≢ handler.Open → Stepped y seat.talk (Some step) carried after.talk → (link : L) (ran : List Handler) → y.has_run link ran seat.talk → y.has_run link (ran ++ step ∷ []) after.talk
    stepped handler.Open never does link ran runs = absurd (never refl)
    stepped handler.Read never does link ran runs = does link ran runs
    stepped handler.Parse never does link ran runs = does link ran runs
    stepped handler.Look never does link ran runs = does link ran runs
    stepped handler.Write never does link ran runs = does link ran runs
    stepped handler.Close never does link ran runs = does link ran runs
    stepped handler.Resume never does link ran runs = does link ran runs

    -- the due one takes its step off the path
    due_runs : (step : Step) (later : List Step) → step.handler ≢ handler.Open → HasRun x l y hall paths seat.talk (step ∷ later) → Stepped y seat.talk (Some step.handler) carried after.talk → y.hall_of after.talk ≡ y.hall_of seat.talk
        → is_due i (due (y.view_of after.talk)) (record { handler = 3; arg = i }) ≡ false → PutsNext y log total i seat.talk after.talk puts → TalkRan after.talk puts (path.goes_along log total i step later)
    due_runs step later never has does same once next =
        goes_on log total i seat.talk after.talk puts has.link has.ran step later (same ∙ hall_is) (stepped step.handler never does has.link (handlers has.ran) has.runs) has.way next once

    -- by the rest of the path, which begins with what is due
    opened_by : (d : Option Handler) → due (y.view_of seat.talk) ≡ d → (rest : List Step) → BeginsWith d (handlers rest) → d ≢ Some handler.Open → HasRun x l y hall paths seat.talk rest → (b : Bool) → is_due i d event ≡ b → RunsSeat y log total b i seat event carried after puts
        → TalkRan after.talk puts (path.takes_off log total i event.handler (Some rest) rest)
    opened_by None at [] nothing never has true is does = cc
    opened_by None at [] nothing never has false is does = stays (Some []) (hall_is, has) does
    opened_by None at (step ∷ later) nothing never has b is does = let none : step.handler ∷ handlers later ≡ [] = nothing in cc
    opened_by (Some event_due) at [] begins never has b is does = let none : [] ≡ event_due ∷ begins.0 = begins.1 in cc
    opened_by (Some event_due) at (step ∷ later) begins never has true is does =
        let same : step.handler ≡ event_due = (cons_parts step.handler event_due (handlers later) begins.0 begins.1).0 in
        let number : (number_of step.handler == event.handler) ≡ true = ap (λ (h : Handler). number_of h == event.handler) same ∙ due_number i event_due event is in
        let did = subst (λ (d : Option Handler). Stepped y seat.talk d carried after.talk) (at ∙ ap (λ (h : Handler). Some h) (sym same)) does.0 in
        let ran = due_runs step later (λ e. never (ap (λ (h : Handler). Some h) (sym same ∙ e))) has did does.2 does.3 does.4 in
        subst (λ (b : Bool). TalkRan after.talk puts (if b then path.goes_along log total i step later else path.stays (path.talking (Some (step ∷ later))))) (sym number) ran
    opened_by (Some event_due) at (step ∷ later) begins never has false is does =
        let same : step.handler ≡ event_due = (cons_parts step.handler event_due (handlers later) begins.0 begins.1).0 in
        let number : (number_of step.handler == event.handler) ≡ false = ap (λ (h : Handler). number_of h == event.handler) same ∙ other_number i event_due event own is in
        subst (λ (b : Bool). TalkRan after.talk puts (if b then path.goes_along log total i step later else path.stays (path.talking (Some (step ∷ later))))) (sym number) (stays (Some (step ∷ later)) (hall_is, has) does)

    pub opened_runs : (rest : List Step) → HasRun x l y hall paths seat.talk rest → RunsSeat y log total (is_due i (due (y.view_of seat.talk)) event) i seat event carried after puts
        → TalkRan after.talk puts (path.takes_off log total i event.handler (Some rest) rest)
    opened_runs rest has does =
        opened_by (due (y.view_of seat.talk)) refl rest (along has.link has.ran rest seat.talk hall_is has.runs has.way has.sound).1 has.opened has (is_due i (due (y.view_of seat.talk)) event) refl does

    -- ---- one that isn't open

    -- an event that isn't the opening changes nothing
    pub waiting_runs : y.view_of seat.talk ≡ unopened_view → (event.handler ≡ 3 → ⊥) → RunsSeat y log total (is_due i (due (y.view_of seat.talk)) event) i seat event carried after puts → TalkRan after.talk puts (path.stays (path.talking None))
    waiting_runs initial other does =
        let isnt : is_due i (due (y.view_of seat.talk)) event ≡ false = ap (λ (v : TalkView). is_due i (due v) event) initial ∙ ap (λ b. b && (event.arg == i)) (ne_eqb event.handler 3 other) in
        stays None (hall_is, initial) (subst (λ (b : Bool). RunsSeat y log total b i seat event carried after puts) isnt does)

    -- the opening takes the first event off the path of the link
    pub opening_runs : y.view_of seat.talk ≡ unopened_view → event.handler ≡ 3 → (link : L) → carried ≡ Some (load.Link link) → (way : List Step) → steps_to_come (y.steps hall) (l.tells link) ≡ Some way
        → RunsSeat y log total (is_due i (due (y.view_of seat.talk)) event) i seat event carried after puts → TalkRan after.talk puts (path.takes_off log total i event.handler None way)
    opening_runs initial three link carries way told does =
        let due_is : due (y.view_of seat.talk) ≡ Some handler.Open = ap (λ (v : TalkView). due v) initial in
        let is : is_due i (due (y.view_of seat.talk)) event ≡ true = ap (λ (d : Option Handler). is_due i d event) due_is ∙ (ap (λ b. b && (event.arg == i)) (eq-eqb event.handler 3 three) ∙ eq-eqb event.arg i own) in
        let did = subst (λ (b : Bool). RunsSeat y log total b i seat event carried after puts) is does in
        let step = subst (λ (d : Option Handler). Stepped y seat.talk d carried after.talk) due_is did.0 in
        let same : step.0 ≡ link = same_link W step.0 link (sym step.1 ∙ carries) in
        let runs = subst (λ (k : L). y.has_run k (handler.Open ∷ []) after.talk) same step.2 in
        let sound : (y.view_of after.talk).end ≢ Some Memory = λ memory. none-some Memory (sym (ap (λ (v : TalkView). v.end) step.3) ∙ memory) in
        let here = did.2 ∙ hall_is in
        let opens = opening_by (answers_to_come (l.tells link)) after.talk way told (served_here link (handler.Open ∷ []) after.talk here runs sound) in
        let first : y.has_run link (opens.0.handler ∷ []) after.talk = subst (λ (h : Handler). y.has_run link (h ∷ []) after.talk) (sym opens.3) runs in
        let ran = goes_on log total i seat.talk after.talk puts link [] opens.0 opens.1 here first (told ∙ ap (λ (ws : List Step). Some ws) opens.2) did.4 did.3 in
        let number : (number_of opens.0.handler == event.handler) ≡ true = ap (λ (h : Handler). number_of h == event.handler) opens.3 ∙ eq-eqb 3 event.handler (sym three) in
        subst (λ (ws : List Step). TalkRan after.talk puts (path.takes_off log total i event.handler None ws)) (sym opens.2)
        (subst (λ (b : Bool). TalkRan after.talk puts (if b then path.goes_along log total i opens.0 opens.1 else path.stays (path.talking None))) (sym number) ran)
