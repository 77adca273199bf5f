-- A run stands after each event that is run.
use Rattle.std.proofs.Common.{◌≡◌, ℕ, ◌+◌, ◌≤◌, Bool, true, false, true≢false, Option, Some, None, List, ◌++◌, ◌<◌, refl, sym, ◌∙◌, ap, subst, arith, inl, inr, eq-eqb}
use Rattle.std.proofs.lemmas.Bool.{ne_eqb}
use Rattle.std.proofs.lemmas.Bool.Decides.{eqb_tells, nat_tests}
use Rattle.std.specs.Prelude.{sum_by, not, nat_lt, ◌==◌, ◌&&◌}
use Rattle.mely_event.specs.declared.event.Event.{Event}
use Rattle.mely_tally.specs.Tallies.{carried_by}
use Rattle.sws_link.specs.declared.Link.{Ghosts as LinkWords}
use Rattle.sws_link.specs.declared.world.World.{Ghosts as WorldWords}
use Rattle.sws_steps.specs.declared.talk.Talk.{Ghosts as TalkWords}
use Rattle.sws_steps.specs.declared.Handler.{Handler}
use Rattle.sws_conn.specs.Talks.{due}
use Rattle.sws_handlers.specs.declared.load.Load.{Load}
use Rattle.sws_handlers.specs.declared.load.WorldLoad.{WorldLoad}
use Rattle.sws_handlers.specs.declared.place.Desk.{Desk}
use Rattle.sws_handlers.specs.declared.place.Seat.{Seat}
use Rattle.sws_handlers.specs.declared.place.Role.{Role}
use Rattle.sws_handlers.specs.declared.place.Role.TheVariants.{Polling, Accepting, Talking, Logging}
use Rattle.sws_handlers.specs.declared.task.Task.{Task}
use Rattle.sws_steps.specs.declared.Handler.TheVariants as handler
use Rattle.sws_handlers.specs.declared.task.Task.TheVariants as task
use Rattle.sws_handlers.specs.Tasks.{task_of, number_of_task, number_of}
use Rattle.sws_handlers.specs.Place.{PlaceState}
use Rattle.sws_handlers.specs.Loads.{Fit, at_first, world_of}
use Rattle.sws_handlers.specs.Handling.{Put, next_puts, line_puts, is_due, conn_of, RunsDesk, RunsAccepting, RunsSeat, RunsRole, Runs}
use Rattle.sws_weave.specs.RunStands.{Way, if_held, is_any, is_beyond, is_late, is_unended, at_desk, at_seat, misplaced_at, first_number, due_number, worlds, beyond, early, unended_count, asks_for, misplaced_count, desks, seats, rests, rests_beyond, unended_rests, is_last, waits_for, is_at, is_opened, RunStands}
use Rattle.sws_weave.proofs.Balances.BalanceLemmas.{Balance, Swaps, sum_below, others, before_is, desk_alone, seat_alone, stands_after, balance_more}
use Rattle.sws_weave.proofs.Balances.ConcludesLemmas.{talking_within}
use Rattle.sws_weave.proofs.Balances.LogBalanceLemmas.{log_balance}
use Rattle.sws_weave.proofs.Balances.ConnBalanceLemmas.{conn_balance}
use Rattle.sws_weave.proofs.Balances.DeskBalanceLemmas.{wait_balance}
use Rattle.sws_weave.proofs.Balances.PollBalanceLemmas.{poll_balance}
use Rattle.sws_weave.proofs.Balances.AcceptBalanceLemmas.{accept_balance}
use Rattle.sws_handlers.proofs.Events.FitLemmas.{number_is, ConnFit, conn_fit, DeskPoll, DeskWait, desk_fit, accept_fit, log_fit, below_line}
use Rattle.sws_handlers.specs.Counting.{bit, times}

bit_one : (b : Bool) → 1 ≤ bit b → b ≡ true
bit_one true some = refl
bit_one false some = absurd (omega (arith, some))

bit_zero : (b : Bool) → bit b ≡ 0 → b ≡ false
bit_zero true none = absurd (omega (arith, none))
bit_zero false none = refl

below_bit : (b : Bool) → bit b ≤ 1
below_bit true = omega arith
below_bit false = omega arith

below_both : (a b : Bool) → bit (a && b) ≤ bit a
below_both true b = below_bit b
below_both false b = omega arith

not_below : (a b : ℕ) → nat_lt a b ≡ false → b ≤ a
not_below a b is = grind (arith, nat_tests)

below_any : {W : Type 0} (test : WorldLoad W → Bool) (held : Option (WorldLoad W)) → if_held test held ≤ if_held is_any held
below_any test None = omega arith
below_any test (Some held) = below_bit (test held)

due_is : (i : ℕ) (d : Option Handler) (event : Event) → event.arg ≡ i → event.handler ≡ first_number d → 1 ≤ first_number d → is_due i d event ≡ true
due_is i None event arg number some = absurd (omega (arith, some))
due_is i (Some step) event arg number some = ap (λ b. b && (event.arg == i)) (eq-eqb event.handler (number_of step) number) ∙ eq-eqb event.arg i arg

not_opening : (i : ℕ) (d : Option Handler) → is_due i d (record { handler = 3; arg = i }) ≡ false → (first_number d == 3) ≡ false
not_opening i None is = refl
not_opening i (Some step) is = elim (eqb_tells (number_of step) 3) [
  | inl same ↦ absurd (true≢false (sym (ap (λ b. b && (i == i)) (eq-eqb 3 (number_of step) (sym same.1)) ∙ eq-eqb i i refl) ∙ is))
  | inr apart ↦ apart.0
]

desks_where : {W T : Type 0} (f : Desk W → ℕ) (role : Role W T) → at_desk (λ d. 1) role ≡ 0 → at_desk f role ≡ 0
desks_where f (Polling desk) none = absurd (omega (arith, none))
desks_where f Accepting none = refl
desks_where f (Talking seat) none = refl
desks_where f Logging none = refl

rests_below : {W T : Type 0} (f g : Desk W → ℕ) → ((d : Desk W) → f d ≤ g d) → (role : Role W T) → at_desk f role ≤ at_desk g role
rests_below f g less (Polling desk) = less desk
rests_below f g less Accepting = omega arith
rests_below f g less (Talking seat) = omega arith
rests_below f g less Logging = omega arith

seats_below : {W T : Type 0} (own : Bool) (f : Seat T → Bool) (role : Role W T) → at_seat (λ k. bit (own && f k)) role ≤ at_seat (λ k. bit own) role
seats_below own f (Polling desk) = omega arith
seats_below own f Accepting = omega arith
seats_below own f (Talking seat) = below_both own (f seat)
seats_below own f Logging = omega arith

-- the cases of a connection's task
by_task : (t : Task) (Is : ℕ → Type 0) → number_of_task t ≤ 9 → Is (number_of_task t) → {Goal : Type 0} → (Is 3 → Goal) → ((n : ℕ) → Is n → 4 ≤ n → n ≤ 8 → Goal) → (Is 9 → Goal) → 3 ≤ number_of_task t → Goal
by_task task.Poll Is low is opens steps resumes some = absurd (omega (arith, some))
by_task task.Wait Is low is opens steps resumes some = absurd (omega (arith, some))
by_task task.Accept Is low is opens steps resumes some = absurd (omega (arith, some))
by_task (task.Step handler.Open) Is low is opens steps resumes some = opens is
by_task (task.Step handler.Read) Is low is opens steps resumes some = steps 4 is (omega arith) (omega arith)
by_task (task.Step handler.Parse) Is low is opens steps resumes some = steps 5 is (omega arith) (omega arith)
by_task (task.Step handler.Look) Is low is opens steps resumes some = steps 6 is (omega arith) (omega arith)
by_task (task.Step handler.Write) Is low is opens steps resumes some = steps 7 is (omega arith) (omega arith)
by_task (task.Step handler.Close) Is low is opens steps resumes some = steps 8 is (omega arith) (omega arith)
by_task (task.Step handler.Resume) Is low is opens steps resumes some = resumes is
by_task task.Log Is low is opens steps resumes some = absurd (omega (arith, low))

seats_where : {W T : Type 0} (own : Bool) (f : Seat T → Bool) (role : Role W T) → at_seat (λ k. bit own) role ≡ 0 → at_seat (λ k. bit (own && f k)) role ≡ 0
seats_where own f (Polling desk) none = refl
seats_where own f Accepting none = refl
seats_where own f (Talking seat) none = ap (λ b. bit (b && f seat)) (bit_zero own none)
seats_where own f Logging none = refl

module _ {W L T G H : Type 0} (x : WorldWords W L) (l : LinkWords L) (y : TalkWords T L G H) (first : W) where
  abbrev total : ℕ
  total = (at_first x l first).total

  module _ (states after : List (PlaceState H W T)) (ways later : List (Way W L)) (s becomes : PlaceState H W T) (e : Way W L) (puts : List (Put W L))
      (swaps : Swaps y total states after ways later s becomes e (carried_by puts)) (stands : RunStands y total states ways) (fit : Fit x l first s.colour e.0 e.1) (log : Bool) (runs : Runs x l y log total s e.0 e.1 becomes puts) where
    before : (f : PlaceState H W T → ℕ) → sum_by f states ≡ f s + others swaps.front swaps.back f
    before f = before_is y total states after ways later s becomes e (carried_by puts) swaps f

    -- ---- a connection

    module _ (seat : Seat T) (was : s.role ≡ Talking seat) where
      high : (2 ≤ s.colour.0) × (s.colour.0 < total + 2)
      high =
          let z = stands.placed in
          let m = before (misplaced_count total) in
          let r = ap (λ (role : Role W T). misplaced_at total s.colour.0 role) was in
          talking_within s.colour.0 (total + 2) (omega (arith, z, m, r))

      fits : ConnFit x l first s.colour e.0.arg (task_of e.0.handler) e.1
      fits = conn_fit x l first s.colour e.0.arg (task_of e.0.handler) e.1 (high.0, below_line x l first s.colour e.0.arg (task_of e.0.handler) e.1 high.1 fit) fit

      abbrev i : ℕ
      i = e.0.arg

      number : e.0.handler ≡ number_of_task fits.t
      number = number_is e.0.handler fits.t fits.is

      handler_some : 3 ≤ e.0.handler
      handler_some = let z = fits.some in omega (arith, z, number)

      own : (s.colour.0 == i + 2) ≡ true
      own = eq-eqb s.colour.0 (i + 2) fits.step.colour

      my_seat : seats i s ≡ 1
      my_seat = ap (at_seat (λ k. bit (s.colour.0 == i + 2))) was ∙ ap bit own

      asked_once : (n : ℕ) → e.0.handler ≡ n → asks_for n i e ≡ 1
      asked_once n is = ap (λ b. bit (b && (e.0.arg == i))) (eq-eqb e.0.handler n is) ∙ ap bit (eq-eqb e.0.arg i refl)

      at_mine : (n : ℕ) → is_at y i n s ≡ bit (due_number y seat == n)
      at_mine n = ap (at_seat (λ k. bit ((s.colour.0 == i + 2) && (due_number y k == n)))) was ∙ ap (λ b. bit (b && (due_number y seat == n))) own

      at_alone : (n : ℕ) → others swaps.front swaps.back (is_at y i n) ≡ 0
      at_alone n = seat_alone y total states after ways later s becomes e (carried_by puts) swaps stands i fits.step.conn my_seat (is_at y i n) (λ p none. seats_where (p.colour.0 == i + 2) (λ k. due_number y k == n) p.role none)

      opened_alone : others swaps.front swaps.back (is_opened y i) ≡ 0
      opened_alone = seat_alone y total states after ways later s becomes e (carried_by puts) swaps stands i fits.step.conn my_seat (is_opened y i) (λ p none. seats_where (p.colour.0 == i + 2) (λ k. not (due_number y k == 3)) p.role none)

      same_number : (n : ℕ) → 1 ≤ is_at y i n s → due_number y seat ≡ n
      same_number n some =
          let is : (due_number y seat == n) ≡ true = bit_one (due_number y seat == n) (omega (arith, some, at_mine n)) in
          elim (eqb_tells (due_number y seat) n) [ inl same ↦ same.1 | inr apart ↦ absurd (true≢false (sym is ∙ apart.0)) ]

      by_step : (n : ℕ) → e.0.handler ≡ n → 4 ≤ n → n ≤ 8 → e.0.handler ≡ due_number y seat
      by_step n is more less =
          let law = stands.steps i n fits.step.conn more less in
          let held = swaps.held (asks_for n i) in
          is ∙ sym (same_number n (omega (arith, law, held, asked_once n is, before (is_at y i n), at_alone n)))

      by_resume : e.0.handler ≡ 9 → e.0.handler ≡ due_number y seat
      by_resume is =
          let law = stands.waits i fits.step.conn in
          let held = swaps.held (asks_for 9 i) in
          is ∙ sym (same_number 9 (omega (arith, law, held, asked_once 9 is, before (is_at y i 9), at_alone 9)))

      by_open : e.0.handler ≡ 3 → e.0.handler ≡ due_number y seat
      by_open is =
          let law = stands.opens i fits.step.conn in
          let one = stands.one_world in
          let held = swaps.held (asks_for 3 i) in
          let few = sum_below (beyond {W = W} {L = L} i) worlds (λ w. below_any (is_beyond i) (world_of w.1)) ways in
          let few_rest = sum_below (rests_beyond {H = H} {W = W} {T = T} i) rests (λ p. rests_below (λ d. if_held (is_beyond i) d.resting) (λ d. if_held is_any d.resting) (λ d. below_any (is_beyond i) d.resting) p.role) states in
          let mine : is_opened y i s ≡ bit (not (due_number y seat == 3)) = ap (at_seat (λ k. bit ((s.colour.0 == i + 2) && not (due_number y k == 3)))) was ∙ ap (λ b. bit (b && not (due_number y seat == 3))) own in
          let none : bit (not (due_number y seat == 3)) ≡ 0 = omega (arith, law, one, held, few, few_rest, asked_once 3 is, before (is_opened y i), mine) in
          elim (eqb_tells (due_number y seat) 3) [ inl same ↦ is ∙ sym same.1 | inr apart ↦ let some = ap (λ b. bit (not b)) apart.0 in absurd (omega (arith, none, some)) ]

      due_now : e.0.handler ≡ due_number y seat
      due_now = by_task fits.t (λ n. e.0.handler ≡ n) fits.few number by_open by_step by_resume fits.some

      number_now : 3 ≤ due_number y seat
      number_now = omega (arith, handler_some, due_now)

      conn_is : conn_of s.colour ≡ i
      conn_is = let c = fits.step.colour in omega (arith, c)

      is_due_now : is_due (conn_of s.colour) (due (y.view_of seat.talk)) e.0 ≡ true
      is_due_now = due_is (conn_of s.colour) (due (y.view_of seat.talk)) e.0 (sym conn_is) due_now (omega (arith, number_now))

      conn_keeps : (role : Role W T) → becomes.role ≡ role → RunsRole x l y log s.colour (Talking seat) e.0 e.1 role puts total → RunStands y total after later
      conn_keeps (Polling desk) is does = absurd does
      conn_keeps Accepting is does = absurd does
      conn_keeps Logging is does = absurd does
      conn_keeps (Talking next) is does =
          let d : RunsSeat y log total true (conn_of s.colour) seat e.0 e.1 next puts = subst (λ b. RunsSeat y log total b (conn_of s.colour) seat e.0 e.1 next puts) is_due_now does in
          let puts_are : puts ≡ next_puts i (due (y.view_of next.talk)) ++ line_puts log total i d.4.line = d.4.puts_are ∙ ap (λ k. next_puts k (due (y.view_of next.talk)) ++ line_puts log total k d.4.line) conn_is in
          let balance : Balance y total s becomes e (carried_by (next_puts i (due (y.view_of next.talk)))) = conn_balance y total s becomes seat next e i was is runs.colour fits.step.colour due_now refl fits.no_world number_now (not_opening (conn_of s.colour) (due (y.view_of next.talk)) d.3) d.1 in
          stands_after y total states after ways later s becomes e (carried_by puts) swaps stands (subst (λ (ps : List (Put W L)). Balance y total s becomes e (carried_by ps)) (sym puts_are) (balance_more y total s becomes e (next_puts i (due (y.view_of next.talk))) log i d.4.line balance))

    -- ---- colour 0

    module _ (desk : Desk W) (was : s.role ≡ Polling desk) where
      low : s.colour.0 ≡ 0
      low =
          let z = stands.placed in
          let m = before (misplaced_count total) in
          let r = ap (λ (role : Role W T). misplaced_at total s.colour.0 role) was in
          elim (eqb_tells s.colour.0 0) [ inl same ↦ same.1 | inr apart ↦ let q = ap (λ b. bit (not b)) apart.0 in absurd (omega (arith, z, m, r, q)) ]

      my_desk : desks s ≡ 1
      my_desk = ap (at_desk (λ d. 1)) was

      desk_mine : (f : Desk W → ℕ) → at_desk f s.role ≡ f desk
      desk_mine f = ap (at_desk f) was

      alone : (f : Desk W → ℕ) → others swaps.front swaps.back (λ p. at_desk f p.role) ≡ 0
      alone f = desk_alone y total states after ways later s becomes e (carried_by puts) swaps stands my_desk (λ p. at_desk f p.role) (λ p none. desks_where f p.role none)

      poll_keeps : DeskPoll x l first s.colour e.0.arg (task_of e.0.handler) e.1 → (next : Desk W) → becomes.role ≡ Polling next → RunsDesk x desk (task_of e.0.handler) e.0.arg e.1 next puts → RunStands y total after later
      poll_keeps poll next is does =
          let held = poll.held in
          let number : e.0.handler ≡ 0 = number_is e.0.handler task.Poll poll.is in
          let carries : world_of e.1 ≡ Some held = ap world_of poll.carries in
          let does1 = subst (λ (t : Option Task). RunsDesk x desk t e.0.arg e.1 next puts) poll.is does in
          let does2 = subst (λ (c : Option (Load W L)). RunsDesk x desk (Some task.Poll) e.0.arg c next puts) poll.carries does1 in
          let one = stands.one_world in
          let world = swaps.held worlds in
          let here : worlds e ≡ 1 = ap (if_held is_any) carries in
          let none_rests : if_held is_any desk.resting ≡ 0 = omega (arith, one, world, here, before rests, desk_mine (λ d. if_held is_any d.resting)) in
          let late = stands.late in
          let ended = stands.ended in
          let few = swaps.held early in
          let unended_here = swaps.held (unended_count total) in
          let arg0 : e.0.arg ≡ 0 → desk.last ≡ false = λ zero_arg.
          let is_early : early e ≡ 1 = ap (if_held (λ h. not (is_late e.0))) carries ∙ ap (λ b. bit (not ((e.0.handler == 0) && b))) (ne_eqb e.0.arg 1 (λ same. omega (arith, same, zero_arg))) ∙ ap (λ h. bit (not ((h == 0) && false))) number in
          bit_zero desk.last (omega (arith, late, few, is_early, before is_last, desk_mine (λ d. bit d.last)))
          in
          let arg1 : e.0.arg ≡ 1 → is_unended total held ≡ false = λ one_more.
          let is : unended_count total e ≡ bit (is_unended total held) = ap (if_held (λ h. is_late e.0 && is_unended total h)) carries ∙ ap (λ b. bit (((e.0.handler == 0) && b) && is_unended total held)) (eq-eqb e.0.arg 1 one_more) ∙ ap (λ h. bit (((h == 0) && true) && is_unended total held)) number in
          bit_zero (is_unended total held) (omega (arith, ended, unended_here, is))
          in
          stands_after y total states after ways later s becomes e (carried_by puts) swaps stands (poll_balance y x l total s becomes desk next e held puts was is runs.colour number carries none_rests poll.fit.known arg0 arg1 does2)

      wait_keeps : DeskWait x l first s.colour e.0.arg (task_of e.0.handler) e.1 → (next : Desk W) → becomes.role ≡ Polling next → RunsDesk x desk (task_of e.0.handler) e.0.arg e.1 next puts → RunStands y total after later
      wait_keeps wait next is does =
          let number : e.0.handler ≡ 1 = number_is e.0.handler task.Wait wait.is in
          let does1 = subst (λ (t : Option Task). RunsDesk x desk t e.0.arg e.1 next puts) wait.is does in
          let does2 = subst (λ (c : Option (Load W L)). RunsDesk x desk (Some task.Wait) e.0.arg c next puts) wait.carries does1 in
          let conn = wait.fit.conn in
          let law = stands.waits e.0.arg conn in
          let held = swaps.held (asks_for 1 e.0.arg) in
          let once : asks_for 1 e.0.arg e ≡ 1 = ap (λ b. bit (b && (e.0.arg == e.0.arg))) (eq-eqb e.0.handler 1 number) ∙ ap bit (eq-eqb e.0.arg e.0.arg refl) in
          let few = sum_below (is_at y e.0.arg 9) (seats e.0.arg) (λ p. seats_below (p.colour.0 == e.0.arg + 2) (λ k. due_number y k == 9) p.role) states in
          let one = stands.one_seat e.0.arg conn in
          let not_there : times e.0.arg desk.waiting.items ≡ 0 = omega (arith, law, held, once, few, one, before (waits_for e.0.arg), desk_mine (λ d. times e.0.arg d.waiting.items)) in
          let ended = stands.ended in
          let not_early : if_held (is_unended total) desk.resting ≡ 0 = omega (arith, ended, before (unended_rests total), desk_mine (λ d. if_held (is_unended total) d.resting)) in
          stands_after y total states after ways later s becomes e (carried_by puts) swaps stands (wait_balance y x l total s becomes desk next e e.0.arg puts was is runs.colour number refl (ap world_of wait.carries) not_there not_early does2)

      desk_keeps : (role : Role W T) → becomes.role ≡ role → RunsRole x l y log s.colour (Polling desk) e.0 e.1 role puts total → RunStands y total after later
      desk_keeps Accepting is does = absurd does
      desk_keeps (Talking seat) is does = absurd does
      desk_keeps Logging is does = absurd does
      desk_keeps (Polling next) is does = elim (desk_fit x l first s.colour e.0.arg (task_of e.0.handler) e.1 low fit) [ inl poll ↦ poll_keeps poll next is does | inr wait ↦ wait_keeps wait next is does ]

    -- ---- colour 1

    accept_keeps : s.role ≡ Accepting → (role : Role W T) → becomes.role ≡ role → RunsRole x l y log s.colour Accepting e.0 e.1 role puts total → RunStands y total after later
    accept_keeps was (Polling desk) is does = absurd does
    accept_keeps was (Talking seat) is does = absurd does
    accept_keeps was Logging is does = absurd does
    accept_keeps was Accepting is does =
        let z = stands.placed in
        let m = before (misplaced_count total) in
        let r = ap (λ (role : Role W T). misplaced_at total s.colour.0 role) was in
        let one : s.colour.0 ≡ 1 = elim (eqb_tells s.colour.0 1) [ inl same ↦ same.1 | inr apart ↦ let q = ap (λ b. bit (not b)) apart.0 in absurd (omega (arith, z, m, r, q)) ] in
        let accept = accept_fit x l first s.colour e.0.arg (task_of e.0.handler) e.1 one fit in
        let does1 = subst (λ (t : Option Task). RunsAccepting x l total t e.1 puts) accept.is does in
        let does2 = subst (λ (c : Option (Load W L)). RunsAccepting x l total (Some task.Accept) c puts) accept.carries does1 in
        stands_after y total states after ways later s becomes e (carried_by puts) swaps stands (accept_balance y x l total s becomes e accept.held puts was is runs.colour (number_is e.0.handler task.Accept accept.is) (ap world_of accept.carries) does2)

    -- ---- the log

    log_keeps : s.role ≡ Logging → (role : Role W T) → becomes.role ≡ role → RunsRole x l y log s.colour Logging e.0 e.1 role puts total → RunStands y total after later
    log_keeps was (Polling desk) is does = absurd does
    log_keeps was Accepting is does = absurd does
    log_keeps was (Talking seat) is does = absurd does
    log_keeps was Logging is does =
        let z = stands.placed in
        let m = before (misplaced_count total) in
        let r = ap (λ (role : Role W T). misplaced_at total s.colour.0 role) was in
        let own : s.colour.0 ≡ total + 2 = elim (eqb_tells s.colour.0 (total + 2)) [ inl same ↦ same.1 | inr apart ↦ let q = ap (λ b. bit (not b)) apart.0 in absurd (omega (arith, z, m, r, q)) ] in
        let log_is = log_fit x l first s.colour e.0.arg (task_of e.0.handler) e.1 own fit in
        stands_after y total states after ways later s becomes e (carried_by puts) swaps stands (subst (λ (ps : List (Put W L)). Balance y total s becomes e (carried_by ps)) (sym does) (log_balance y total s becomes e was is runs.colour (number_is e.0.handler task.Log log_is.is) (ap world_of log_is.carries)))

    role_keeps : (role : Role W T) → s.role ≡ role → RunsRole x l y log s.colour role e.0 e.1 becomes.role puts total → RunStands y total after later
    role_keeps (Polling desk) was does = desk_keeps desk was becomes.role refl does
    role_keeps Accepting was does = accept_keeps was becomes.role refl does
    role_keeps (Talking seat) was does = conn_keeps seat was becomes.role refl does
    role_keeps Logging was does = log_keeps was becomes.role refl does

    -- a run that stands, stands after an event that fits was run
    pub run_keeps : RunStands y total after later
    run_keeps = role_keeps s.role refl runs.does
