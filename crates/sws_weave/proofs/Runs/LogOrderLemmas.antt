-- The lines of each connection are a stream that the server's app serves, so they stay in order.
use Rattle.std.proofs.Common.{◌≡◌, ◌≢◌, ℕ, ◌+◌, ◌≤◌, ◌<◌, Bool, true, false, if◌then◌else◌, Option, None, Some, List, [], ◌∷◌, ◌++◌, length, map, refl, sym, ◌∙◌, ap, subst, arith, inl, inr, eq-eqb}
use Rattle.std.proofs.lemmas.Bool.{ne_eqb, eqb-true}
use Rattle.std.proofs.lemmas.Bool.Decides.{eqb_tells}
use Rattle.std.proofs.lemmas.List.Elements.{filter_map-append}
use Rattle.std.specs.Prelude.{◌==◌, not, IfSome, is_some as is_there}
use Rattle.std.specs.List.{AllByRecursion, cons_option}
use Rattle.mely_event.specs.declared.colour.Colour.{Colour}
use Rattle.mely_event.specs.declared.event.Event.{Event}
use Rattle.mely_event.specs.declared.trail.Trail.{Ghosts as TrailWords}
use Rattle.mely_weave.proofs.Wholes.GatherLemmas.{get_there}
use Rattle.mely_worker.specs.declared.app.App.{Ghosts as AppWords}
use Rattle.mely_weave.specs.Weave.{WeaveState}
use Rattle.mely_order.specs.Rising.{Rises}
use Rattle.mely_order.specs.Stream.{Stream, numbers_of, numbers_put, HandlerServes, ServesStream}
use Rattle.mely_order.specs.InOrder.{BeginsInOrder}
use Rattle.sws_log.specs.declared.line.LogLine.{LogLine}
use Rattle.sws_link.specs.declared.Link.{Ghosts as LinkWords}
use Rattle.sws_link.specs.declared.world.World.{Ghosts as WorldWords}
use Rattle.sws_link.specs.declared.Accepted.{Accepted}
use Rattle.sws_link.specs.declared.Accepted.TheVariants as accepted
use Rattle.sws_steps.specs.declared.talk.Talk.{Ghosts as TalkWords}
use Rattle.sws_steps.specs.declared.Handler.{Handler}
use Rattle.sws_steps.specs.declared.Handler.TheVariants as handler
use Rattle.sws_conn.specs.Talks.{TalkView, due}
use Rattle.sws_handlers.specs.declared.load.WorldLoad.{WorldLoad}
use Rattle.sws_handlers.specs.declared.load.Load.{Load}
use Rattle.sws_handlers.specs.declared.load.Load.TheVariants as load
use Rattle.sws_handlers.specs.declared.place.Desk.{Desk}
use Rattle.sws_handlers.specs.declared.place.Frame.{Frame}
use Rattle.sws_handlers.specs.declared.place.Seat.{Seat}
use Rattle.sws_handlers.specs.declared.place.Role.{Role}
use Rattle.sws_handlers.specs.declared.place.Role.TheVariants.{Polling, Accepting, Talking, Logging}
use Rattle.sws_handlers.specs.declared.task.Task.{Task}
use Rattle.sws_handlers.specs.declared.task.Task.TheVariants as task
use Rattle.sws_handlers.specs.Tasks.{task_of}
use Rattle.sws_handlers.specs.Counting.{bit, colours_over}
use Rattle.sws_handlers.specs.Initial.{IsInitialRole, AreInitialPlacesOver}
use Rattle.sws_handlers.specs.KeptLines.{KeptLinesState}
use Rattle.sws_handlers.specs.Place.{PlaceState}
use Rattle.sws_handlers.specs.Loads.{Fit}
use Rattle.sws_handlers.specs.LogTurns.{turn_in, turns_of}
use Rattle.sws_weave.specs.LogStream.{turn_carried, log_stream, LogsInOrder}
use Rattle.sws_handlers.specs.Handling.{Put, line_in, next_puts, line_puts, step_put, onward, woken_by, accept_puts, resumed_one, is_due, conn_of, logged, RunsDesk, RunsAccepting, RunsSeat, RunsRole, Runs}
use Rattle.sws_weave.specs.RunStands.{at_seat, misplaced_at, misplaced_count}
use Rattle.sws_weave.proofs.Balances.ConcludesLemmas.{talking_within}
use Rattle.sws_handlers.proofs.Events.FitLemmas.{desk_fit, accept_fit}
use Rattle.sws_handlers.proofs.Events.WaitingListsLemmas.{each_append}
use Rattle.sws_weave.proofs.Runs.StartLemmas.{initial_misplaced}

bit_is_number : (i n : ℕ) → bit (not (i == n)) ≡ 0 → i ≡ n
bit_is_number i n none = elim (eqb_tells i n) [ inl same ↦ same.1 | inr apart ↦ let one = ap (λ b. bit (not b)) apart.0 in absurd (omega (arith, none, one)) ]

-- ---- puts that aren't lines

abbrev NoTurn : {W L : Type 0} → ℕ → Put W L → Type 0
NoTurn i put = turn_carried i put.2 ≡ None

resumes_quiet : (W L : Type 0) (i : ℕ) (conns : List ℕ) → AllByRecursion (NoTurn i) (map (λ k. step_put {W = W} {L = L} k handler.Resume) conns)
resumes_quiet W L i [] = tt
resumes_quiet W L i (k ∷ conns) = (refl, resumes_quiet W L i conns)

onward_quiet : (W L : Type 0) (i : ℕ) (last : Bool) (waiting : List ℕ) (held : WorldLoad W) → AllByRecursion (NoTurn i) (onward {W = W} {L = L} last waiting held)
onward_quiet W L i false waiting held = (refl, tt)
onward_quiet W L i true (w ∷ ws) held = (refl, tt)
onward_quiet W L i true [] held = tt

woken_quiet : (W L : Type 0) (i : ℕ) (resting : Option (WorldLoad W)) → AllByRecursion (NoTurn i) (woken_by {W = W} {L = L} resting)
woken_quiet W L i None = tt
woken_quiet W L i (Some held) = (refl, tt)

accept_quiet : {W L : Type 0} (i total : ℕ) (held : WorldLoad W) (now : W) (answer : Accepted L) → AllByRecursion (NoTurn i) (accept_puts total held now answer)
accept_quiet i total held now (accepted.Link link) = (refl, (refl, tt))
accept_quiet i total held now accepted.NotYet = (refl, tt)
accept_quiet i total held now accepted.Failed = (refl, tt)

next_quiet : (W L : Type 0) (i j : ℕ) (d : Option Handler) → AllByRecursion (NoTurn i) (next_puts {W = W} {L = L} j d)
next_quiet W L i j None = tt
next_quiet W L i j (Some handler.Open) = (refl, tt)
next_quiet W L i j (Some handler.Read) = (refl, tt)
next_quiet W L i j (Some handler.Parse) = (refl, tt)
next_quiet W L i j (Some handler.Look) = (refl, tt)
next_quiet W L i j (Some handler.Write) = (refl, tt)
next_quiet W L i j (Some handler.Close) = (refl, tt)
next_quiet W L i j (Some handler.Resume) = (refl, tt)

other_quiet : (W L : Type 0) (log : Bool) (total i j : ℕ) (line : Option LogLine) → i ≢ j → IfSome line (λ line. line.conn ≡ j) → AllByRecursion (NoTurn i) (line_puts {W = W} {L = L} log total j line)
other_quiet W L log total i j None apart own = tt
other_quiet W L false total i j (Some line) apart own = tt
other_quiet W L true total i j (Some line) apart own = (ap (λ (b : Bool). if b then Some line.turn else None) (ne_eqb line.conn i (λ same. apart (sym same ∙ own))), tt)

own_conn : (n j : ℕ) (line : Option LogLine) → IfSome line (λ line. (line.conn ≡ j) × (line.turn ≡ n)) → IfSome line (λ line. line.conn ≡ j)
own_conn n j None own = tt
own_conn n j (Some line) own = own.0

-- ---- a handler serves the stream of connection i

module _ {W L T G H : Type 0} (x : WorldWords W L) (l : LinkWords L) (y : TalkWords T L G H) (first : W) (total i : ℕ) (low : i < total) (of_first : (x.tells first).total ≡ total) where
  abbrev stream : Stream (PlaceState H W T) (Load W L)
  stream = log_stream y total i

  number_none : (b : Bool) (put : Put W L) → NoTurn i put → (if b then turn_carried i put.2 else None) ≡ None
  number_none true put none = none
  number_none false put none = refl

  quiet : (puts : List (Put W L)) → AllByRecursion (NoTurn i) puts → numbers_put stream puts ≡ []
  quiet [] none = refl
  quiet (put ∷ puts) none = ap (λ (o : Option ℕ). cons_option o (numbers_put stream puts)) (number_none (put.0.0 == total + 2) put none.0) ∙ quiet puts none.1

  desk_quiet : (c : Colour) (event : Event) (carried : Option (Load W L)) (desk after : Desk W) (puts : List (Put W L)) → c.0 ≡ 0 → Fit x l first c event carried → RunsDesk x desk (task_of event.handler) event.arg carried after puts → AllByRecursion (NoTurn i) puts
  desk_quiet c event carried desk after puts nought fit does = elim (desk_fit x l first c event.arg (task_of event.handler) carried nought fit) [
    | inl poll ↦
        let does1 = subst (λ (t : Option Task). RunsDesk x desk t event.arg carried after puts) poll.is does in
        let does2 = subst (λ (o : Option (Load W L)). RunsDesk x desk (Some task.Poll) event.arg o after puts) poll.carries does1 in
        subst (λ (ps : List (Put W L)). AllByRecursion (NoTurn i) ps) (sym does2.puts_are)
        (each_append (NoTurn i) (map (λ k. step_put k handler.Resume) (resumed_one does2.asked).resumed) (onward does2.asked.last (resumed_one does2.asked).waiting (record { world = does2.now; accepted = poll.held.accepted; failed = does2.asked.failed }))
        (resumes_quiet W L i (resumed_one does2.asked).resumed) (onward_quiet W L i does2.asked.last (resumed_one does2.asked).waiting (record { world = does2.now; accepted = poll.held.accepted; failed = does2.asked.failed })))
    | inr wait ↦
        let does1 = subst (λ (t : Option Task). RunsDesk x desk t event.arg carried after puts) wait.is does in
        let does2 = subst (λ (o : Option (Load W L)). RunsDesk x desk (Some task.Wait) event.arg o after puts) wait.carries does1 in
        subst (λ (ps : List (Put W L)). AllByRecursion (NoTurn i) ps) (sym does2.puts_are) (woken_quiet W L i desk.resting)
  ]

  accepting_quiet : (n : ℕ) (c : Colour) (event : Event) (carried : Option (Load W L)) (puts : List (Put W L)) → c.0 ≡ 1 → Fit x l first c event carried → RunsAccepting x l n (task_of event.handler) carried puts → AllByRecursion (NoTurn i) puts
  accepting_quiet n c event carried puts one fit does =
      let accept = accept_fit x l first c event.arg (task_of event.handler) carried one fit in
      let does1 = subst (λ (t : Option Task). RunsAccepting x l n t carried puts) accept.is does in
      let does2 = subst (λ (o : Option (Load W L)). RunsAccepting x l n (Some task.Accept) o puts) accept.carries does1 in
      subst (λ (ps : List (Put W L)). AllByRecursion (NoTurn i) ps) (sym does2.puts_are) (accept_quiet i n accept.held does2.now does2.answer)

  -- a connection with another number puts none of its lines
  seat_quiet : (j : ℕ) → i ≢ j → (b : Bool) (seat after : Seat T) (event : Event) (carried : Option (Load W L)) (puts : List (Put W L)) → RunsSeat y true total b j seat event carried after puts → AllByRecursion (NoTurn i) puts
  seat_quiet j apart true seat after event carried puts does =
      subst (λ (ps : List (Put W L)). AllByRecursion (NoTurn i) ps) (sym does.4.puts_are)
      (each_append (NoTurn i) (next_puts j (due (y.view_of after.talk))) (line_puts true total j does.4.line) (next_quiet W L i j (due (y.view_of after.talk))) (other_quiet W L true total i j does.4.line apart (own_conn (y.view_of after.talk).lines j does.4.line does.4.numbered)))
  seat_quiet j apart false seat after event carried puts does = subst (λ (ps : List (Put W L)). AllByRecursion (NoTurn i) ps) (sym does.2) tt

  -- its own sends the line that it gives
  pub record Sends (before after : ℕ) (puts : List (Put W L)) : Type 0 where
    pub rises : Rises before (numbers_put stream puts) after
    pub counts : after ≡ before + length (numbers_put stream puts)

  sends_next : (line : Option LogLine) (before after : ℕ) (d : Option Handler) → after ≡ before + bit (is_there line) → IfSome line (λ line. (line.conn ≡ i) × (line.turn ≡ after)) → Sends before after (next_puts i d ++ line_puts true total i line)
  sends_next None before after d counted numbered =
      let none = quiet (next_puts i d ++ []) (each_append (NoTurn i) (next_puts i d) [] (next_quiet W L i i d) tt) in
      let many = ap length none in
      record { rises = subst (λ (ns : List ℕ). Rises before ns after) (sym none) (omega (arith, counted)); counts = omega (arith, counted, many) }
  sends_next (Some line) before after d counted numbered =
      let own : (line.conn == i) ≡ true = eq-eqb line.conn i numbered.0 in
      let here : ((total + 2) == total + 2) ≡ true = eq-eqb (total + 2) (total + 2) refl in
      let last : numbers_put stream (line_puts true total i (Some line)) ≡ line.turn ∷ [] = ap (λ (b : Bool). cons_option (if b then turn_in i line else None) []) here ∙ ap (λ (b : Bool). cons_option (if b then Some line.turn else None) []) own in
      let one : numbers_put stream (next_puts i d ++ line_puts true total i (Some line)) ≡ line.turn ∷ [] =
      filter_map-append (λ (put : Put W L). if put.0.0 == total + 2 then turn_carried i put.2 else None) (next_puts i d) (line_puts true total i (Some line)) ∙ ap (λ (ns : List ℕ). ns ++ numbers_put stream (line_puts true total i (Some line))) (quiet (next_puts i d) (next_quiet W L i i d)) ∙ last in
      let many = ap length one in
      let turn = numbered.1 in
      record { rises = subst (λ (ns : List ℕ). Rises before ns after) (sym one) (omega (arith, counted, turn), omega (arith, turn)); counts = omega (arith, counted, many) }

  seat_sends : (b : Bool) (seat after : Seat T) (event : Event) (carried : Option (Load W L)) (puts : List (Put W L)) → RunsSeat y true total b i seat event carried after puts → Sends (y.view_of seat.talk).lines (y.view_of after.talk).lines puts
  seat_sends true seat after event carried puts does =
      subst (λ (ps : List (Put W L)). Sends (y.view_of seat.talk).lines (y.view_of after.talk).lines ps) (sym does.4.puts_are) (sends_next does.4.line (y.view_of seat.talk).lines (y.view_of after.talk).lines (due (y.view_of after.talk)) does.4.lines does.4.numbered)
  seat_sends false seat after event carried puts does =
      let same = ap (λ (t : T). (y.view_of t).lines) does.0 in
      subst (λ (ps : List (Put W L)). Sends (y.view_of seat.talk).lines (y.view_of after.talk).lines ps) (sym does.2) (record { rises = omega (arith, same); counts = omega (arith, same) })

  -- what a load adds to the turns
  carried_turns : (event : Event) (carried : Option (Load W L)) → turns_of i (line_in carried) ≡ numbers_of stream ((event, carried) ∷ [])
  carried_turns event None = refl
  carried_turns event (Some (load.World held)) = refl
  carried_turns event (Some (load.Link link)) = refl
  carried_turns event (Some (load.Line line)) = refl

  module _ (s becomes : PlaceState H W T) (event : Event) (carried : Option (Load W L)) (puts : List (Put W L)) (sound : (misplaced_count total s == 0) ≡ true) (fit : Fit x l first s.colour event carried) (runs : Runs x l y true total s event carried becomes puts) where
    placed : (role : Role W T) → s.role ≡ role → misplaced_at total s.colour.0 role ≡ 0
    placed role was = ap (λ (r : Role W T). misplaced_at total s.colour.0 r) (sym was) ∙ eqb-true (misplaced_count total s) 0 sound

    still_sound : (after : Role W T) → becomes.role ≡ after → misplaced_at total s.colour.0 after ≡ 0 → (misplaced_count total becomes == 0) ≡ true
    still_sound after is none = eq-eqb (misplaced_count total becomes) 0 (ap (λ (c : Colour). misplaced_at total c.0 becomes.role) runs.colour ∙ ap (λ (r : Role W T). misplaced_at total s.colour.0 r) is ∙ none)

    desk_serves : (desk after : Desk W) → s.role ≡ Polling desk → becomes.role ≡ Polling after → RunsDesk x desk (task_of event.handler) event.arg carried after puts → HandlerServes stream s.colour s (event, carried) becomes puts
    desk_serves desk after was is does =
        let own : s.colour.0 ≡ 0 = bit_is_number s.colour.0 0 (placed (Polling desk) was) in
        record {
          sound = still_sound (Polling after) is (placed (Polling desk) was);
          receives = λ at. let e = ap (λ (c : Colour). c.0) at in absurd (omega (arith, own, e));
          sends = λ at. let e = ap (λ (c : Colour). c.0) at in absurd (omega (arith, own, e));
          counts = λ gapless at. let e = ap (λ (c : Colour). c.0) at in absurd (omega (arith, own, e));
          silent = λ apart. quiet puts (desk_quiet s.colour event carried desk after puts own fit does);
        }

    accepting_serves : s.role ≡ Accepting → becomes.role ≡ Accepting → RunsAccepting x l total (task_of event.handler) carried puts → HandlerServes stream s.colour s (event, carried) becomes puts
    accepting_serves was is does =
        let own : s.colour.0 ≡ 1 = bit_is_number s.colour.0 1 (placed Accepting was) in
        record {
          sound = still_sound Accepting is (placed Accepting was);
          receives = λ at. let e = ap (λ (c : Colour). c.0) at in absurd (omega (arith, own, e));
          sends = λ at. let e = ap (λ (c : Colour). c.0) at in absurd (omega (arith, own, e));
          counts = λ gapless at. let e = ap (λ (c : Colour). c.0) at in absurd (omega (arith, own, e));
          silent = λ apart. quiet puts (accepting_quiet total s.colour event carried puts own fit does);
        }

    talking_serves : (seat after : Seat T) → s.role ≡ Talking seat → becomes.role ≡ Talking after → RunsSeat y true total (is_due (conn_of s.colour) (due (y.view_of seat.talk)) event) (conn_of s.colour) seat event carried after puts → HandlerServes stream s.colour s (event, carried) becomes puts
    talking_serves seat after was is does =
        let within = talking_within s.colour.0 (total + 2) (placed (Talking seat) was) in
        let more : 2 ≤ s.colour.0 = within.0 in
        let under : s.colour.0 < total + 2 = within.1 in
        let was_lines : at_seat (λ (k : Seat T). (y.view_of k.talk).lines) s.role ≡ (y.view_of seat.talk).lines = ap (λ (r : Role W T). at_seat (λ (k : Seat T). (y.view_of k.talk).lines) r) was in
        let is_lines : at_seat (λ (k : Seat T). (y.view_of k.talk).lines) becomes.role ≡ (y.view_of after.talk).lines = ap (λ (r : Role W T). at_seat (λ (k : Seat T). (y.view_of k.talk).lines) r) is in
        let sent : s.colour ≡ record { 0 = i + 2 } → Sends (y.view_of seat.talk).lines (y.view_of after.talk).lines puts = λ at.
        let e = ap (λ (c : Colour). c.0) at in
        let j : conn_of s.colour ≡ i = omega (arith, e) in
        seat_sends (is_due (conn_of s.colour) (due (y.view_of seat.talk)) event) seat after event carried puts (subst (λ (k : ℕ). RunsSeat y true total (is_due (conn_of s.colour) (due (y.view_of seat.talk)) event) k seat event carried after puts) j does)
        in
        record {
          sound = still_sound (Talking after) is (placed (Talking seat) was);
          receives = λ at. let e = ap (λ (c : Colour). c.0) at in absurd (omega (arith, under, e));
          sends = λ at. subst (λ (n : ℕ). Rises n (numbers_put stream puts) (at_seat (λ (k : Seat T). (y.view_of k.talk).lines) becomes.role)) (sym was_lines) (subst (λ (n : ℕ). Rises (y.view_of seat.talk).lines (numbers_put stream puts) n) (sym is_lines) (sent at).rises);
          counts = λ gapless at. let c = (sent at).counts in omega (arith, c, was_lines, is_lines);
          silent = λ apart. quiet puts (seat_quiet (conn_of s.colour) (λ same. apart (omega (arith, same, more))) (is_due (conn_of s.colour) (due (y.view_of seat.talk)) event) seat after event carried puts does);
        }

    logging_serves : s.role ≡ Logging → becomes.role ≡ Logging → puts ≡ [] → HandlerServes stream s.colour s (event, carried) becomes puts
    logging_serves was is does =
        let own : s.colour.0 ≡ total + 2 = bit_is_number s.colour.0 (total + 2) (placed Logging was) in
        let joined : becomes.lines.came ≡ s.lines.came ++ line_in carried = runs.lines ∙ ap (λ (r : Role W T). s.lines.came ++ logged_in r) was in
        record {
          sound = still_sound Logging is (placed Logging was);
          receives = λ at. ap (λ (ls : List LogLine). turns_of i ls) joined ∙ filter_map-append (turn_in i) s.lines.came (line_in carried) ∙ ap (λ (ns : List ℕ). turns_of i s.lines.came ++ ns) (carried_turns event carried);
          sends = λ at. let e = ap (λ (c : Colour). c.0) at in absurd (omega (arith, own, e, low));
          counts = λ gapless at. let e = ap (λ (c : Colour). c.0) at in absurd (omega (arith, own, e, low));
          silent = λ apart. ap (λ (ps : List (Put W L)). numbers_put stream ps) does;
        }
      where
        logged_in : Role W T → List LogLine
        logged_in r = logged r carried

    role_serves : (role after : Role W T) → s.role ≡ role → becomes.role ≡ after → RunsRole x l y true s.colour role event carried after puts total → HandlerServes stream s.colour s (event, carried) becomes puts
    role_serves (Polling desk) (Polling after) was is does = desk_serves desk after was is does
    role_serves Accepting Accepting was is does = accepting_serves was is does
    role_serves (Talking seat) (Talking after) was is does = talking_serves seat after was is does
    role_serves Logging Logging was is does = logging_serves was is does
    role_serves (Polling desk) Accepting was is does = absurd does
    role_serves (Polling desk) (Talking after) was is does = absurd does
    role_serves (Polling desk) Logging was is does = absurd does
    role_serves Accepting (Polling after) was is does = absurd does
    role_serves Accepting (Talking after) was is does = absurd does
    role_serves Accepting Logging was is does = absurd does
    role_serves (Talking seat) (Polling after) was is does = absurd does
    role_serves (Talking seat) Accepting was is does = absurd does
    role_serves (Talking seat) Logging was is does = absurd does
    role_serves Logging (Polling after) was is does = absurd does
    role_serves Logging Accepting was is does = absurd does
    role_serves Logging (Talking after) was is does = absurd does

    pub handler_serves : HandlerServes stream s.colour s (event, carried) becomes puts
    handler_serves = role_serves s.role becomes.role refl refl runs.does

-- the app serves the stream
pub serves_lines : {W L T G H R : Type 0} (x : WorldWords W L) (l : LinkWords L) (y : TalkWords T L G H) (t : TrailWords (PlaceState H W T) (Frame H W)) (fits : Frame H W → Colour → Event → Option (Load W L) → Type 0) (z : AppWords R (Load W L) (PlaceState H W T) (Frame H W)) (app : R) (total : ℕ) (log : Bool) (i : ℕ) (given : PlaceState H W T)
    → log ≡ true → i < total → (x.tells given.first).total ≡ total
    → ((s : PlaceState H W T) → t.frame_of s ≡ record { hall = s.hall; first = s.first })
    → ((s : PlaceState H W T) → t.colour_of s ≡ s.colour)
    → ((frame : Frame H W) (k : Colour) (event : Event) (carried : Option (Load W L)) → fits frame k event carried → Fit x l frame.first k event carried)
    → ((s : PlaceState H W T) (event : Event) (carried : Option (Load W L)) (becomes : PlaceState H W T) (puts : List (Put W L)) → z.runs app s event carried becomes puts → Runs x l y log total s event carried becomes puts)
    → ServesStream t fits z app (t.frame_of given) (log_stream y total i)
serves_lines {W} {L} {T} {G} {H} x l y t fits z app total log i given on low of_first frame_is colour_is fits_is runs_is = record {
  each = λ s event carried becomes puts framed sound fit ran.
      let given_first : (t.frame_of given).first ≡ given.first = ap (λ (f : Frame H W). f.first) (frame_is given) in
      let fit0 : Fit x l (t.frame_of given).first (t.colour_of s) event carried = fits_is (t.frame_of given) (t.colour_of s) event carried fit in
      let fit1 = subst (λ (w : W). Fit x l w (t.colour_of s) event carried) given_first fit0 in
      let fit2 = subst (λ (c : Colour). Fit x l given.first c event carried) (colour_is s) fit1 in
      let runs = subst (λ (b : Bool). Runs x l y b total s event carried becomes puts) on (runs_is s event carried becomes puts ran) in
      subst (λ (c : Colour). HandlerServes (log_stream y total i) c s (event, carried) becomes puts) (sym (colour_is s)) (handler_serves x l y given.first total i low of_first s becomes event carried puts sound fit2 runs);
}

-- ---- at first

-- the initial states begin the stream
pub begins_in_order : {W L T G H : Type 0} (y : TalkWords T L G H) (world : W) (hall : H) (total : ℕ) (log : Bool) (states : List (PlaceState H W T)) (i : ℕ) → log ≡ true → i < total → AreInitialPlacesOver y world hall total (colours_over total log) states → BeginsInOrder (log_stream {W = W} y total i) states
begins_in_order {W} {L} {T} {G} {H} y world hall total log states i on low are =
    let many = are.many ∙ ap (λ (b : Bool). colours_over total b) on in
    let last = get_there states (total + 2) (omega (arith, many)) in
    let own = get_there states (i + 2) (omega (arith, many, low)) in
    let received : turns_of i last.0.lines.came ≡ [] = ap (λ (ls : KeptLinesState). turns_of i ls.came) (are.each (total + 2) last.0 last.1).unlogged in
    let sent : at_seat (λ (k : Seat T). (y.view_of k.talk).lines) own.0.role ≡ 0 = none_sent (i + 2) own.0.role (are.each (i + 2) own.0 own.1).initial.role in
    let none = ap length received in
    record {
      receiver = last.0;
      receiver_is = last.1;
      sender = own.0;
      sender_is = own.1;
      rises = subst (λ (ns : List ℕ). Rises 0 ns (at_seat (λ (k : Seat T). (y.view_of k.talk).lines) own.0.role)) (sym received) (omega arith);
      counted = λ gapless. omega (arith, none, sent);
      sound = λ k s at. (let is = (are.each k s at).initial in eq-eqb (misplaced_count total s) 0 (initial_misplaced y world total s.colour.0 k s.role is.colour is.role));
    }
  where
    none_sent : (k : ℕ) (role : Role W T) → IsInitialRole y world total k role → at_seat (λ (s : Seat T). (y.view_of s.talk).lines) role ≡ 0
    none_sent k (Polling desk) is = refl
    none_sent k Accepting is = refl
    none_sent k (Talking seat) is = ap (λ (v : TalkView). v.lines) is.1
    none_sent k Logging is = refl

-- the first event is no line
pub first_is_no_line : {W L T G H : Type 0} (y : TalkWords T L G H) (total i : ℕ) (event : Event) (held : WorldLoad W) → numbers_put (log_stream {W = W} {L = L} {H = H} y total i) ((record { 0 = 0 }, event, Some (load.World held)) ∷ []) ≡ []
first_is_no_line y total i event held = ap (λ (b : Bool). cons_option (if b then None else None) []) (ne_eqb 0 (total + 2) (λ same. omega (arith, same)))

-- the same by equal numbers
pub ordered_as : {W L T G H : Type 0} (y : TalkWords T L G H) (n m : ℕ) (a b : Bool) (weave : WeaveState (PlaceState H W T) (Load W L)) → n ≡ m → a ≡ b → LogsInOrder y n a weave → LogsInOrder y m b weave
ordered_as y n m a b weave same also is = subst (λ (k : ℕ). LogsInOrder y k b weave) same (subst (λ (t : Bool). LogsInOrder y n t weave) also is)
