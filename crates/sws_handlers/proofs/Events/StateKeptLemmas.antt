-- What every event that fits keeps of the state of its colour, and that what it puts fits.
use Rattle.std.proofs.Common.{◌≡◌, ℕ, ◌+◌, ◌≤◌, ◌<◌, Bool, Option, Some, None, List, [], ◌∷◌, ◌++◌, length, map, refl, sym, ◌∙◌, ap, subst, arith, inl, inr}
use Rattle.std.specs.List.{AllByRecursion}
use Rattle.mely_event.specs.declared.colour.Colour.{Colour}
use Rattle.mely_event.specs.declared.event.Event.{Event}
use Rattle.mely_worker.specs.Access.{FitsIn}
use Rattle.sws_link.specs.declared.Link.{Ghosts as LinkWords}
use Rattle.sws_link.specs.declared.world.World.{Ghosts as WorldWords}
use Rattle.sws_steps.specs.declared.talk.Talk.{Ghosts as TalkWords}
use Rattle.sws_steps.specs.declared.Handler.TheVariants as handler
use Rattle.sws_conn.specs.Talks.{reported_next, due}
use Rattle.sws_handlers.specs.declared.load.Load.{Load}
use Rattle.sws_handlers.specs.declared.load.Load.TheVariants as load
use Rattle.sws_handlers.specs.declared.place.Desk.{Desk}
use Rattle.sws_handlers.specs.declared.place.Seat.{Seat}
use Rattle.sws_handlers.specs.declared.place.Role.{Role}
use Rattle.sws_handlers.specs.declared.place.Role.TheVariants.{Polling, Accepting, Talking, Logging}
use Rattle.sws_handlers.specs.declared.task.Task.{Task}
use Rattle.sws_handlers.specs.declared.task.Task.TheVariants as task
use Rattle.sws_handlers.specs.Place.{PlaceState}
use Rattle.sws_handlers.specs.Tasks.{task_of}
use Rattle.sws_handlers.specs.Loads.{LinkStands, TaskFits, Fit, FitsTold, IsLineIn, TellsLine}
use Rattle.std.proofs.lemmas.List.{map-append}
use Rattle.sws_log.specs.declared.line.LogLine.{LogLine}
use Rattle.sws_handlers.specs.Counting.{colours_over}
use Rattle.sws_handlers.proofs.Events.WaitingListsLemmas.{each_append}
use Rattle.sws_handlers.specs.Handling.{Put, line_in, is_due, conn_of, RunsDesk, RunsAccepting, RunsSeat}
use Rattle.sws_handlers.specs.Invariant.{DeskStands, SeatStands, LogStands, RoleStands}
use Rattle.sws_handlers.specs.Seating.{HasRunSome, PutsTold}
use Rattle.sws_handlers.proofs.Events.FitLemmas.{conn_fit, desk_fit, accept_fit, log_fit, below_line}
use Rattle.sws_handlers.proofs.Events.DeskLemmas.{poll_kept, poll_puts_fit, poll_puts_few, wait_kept, wait_puts_fit}
use Rattle.sws_handlers.proofs.Events.AcceptLemmas.{accept_puts_fit}
use Rattle.sws_handlers.proofs.Events.SeatKeptLemmas.{seat_kept, seat_puts_fit, wide_puts}

-- what is put fits where there may be a log
abbrev pub ToldFit : {W L T G H : Type 0} → WorldWords W L → LinkWords L → TalkWords T L G H → H → W → Bool → List (Put W L) → Type 0
ToldFit x l y hall first log puts = AllByRecursion (FitsIn (colours_over (x.tells first).total log) 11 (FitsTold x l y hall first)) puts × (length puts ≤ 2)

module _ {W L : Type 0} (x : WorldWords W L) (l : LinkWords L) (first : W) where
  abbrev total : ℕ
  total = (x.tells first).total

  abbrev pub PutsFit : List (Put W L) → Type 0
  PutsFit puts = AllByRecursion (FitsIn (total + 2) 10 (Fit x l first)) puts × (length puts ≤ 2)

  -- ---- colour 0

  pub desk_after : (c : Colour) (event : Event) (carried : Option (Load W L)) (desk after : Desk W) (puts : List (Put W L)) → c.0 ≡ 0 → DeskStands x l first desk → Fit x l first c event carried
      → RunsDesk x desk (task_of event.handler) event.arg carried after puts → after.waiting.total ≡ desk.waiting.total → DeskStands x l first after × PutsFit puts
  desk_after c event carried desk after puts low stands fit does room = elim (desk_fit x l first c event.arg (task_of event.handler) carried low fit) [
    | inl poll ↦
        let does1 = subst (λ (t : Option Task). RunsDesk x desk t event.arg carried after puts) poll.is does in
        let does2 = subst (λ (o : Option (Load W L)). RunsDesk x desk (Some task.Poll) event.arg o after puts) poll.carries does1 in
        (poll_kept x l first desk after event.arg poll.held puts c stands poll.fit does2 room, (poll_puts_fit x l first desk after event.arg poll.held puts c stands poll.fit does2 room, poll_puts_few x l first desk after event.arg poll.held puts c stands poll.fit does2 room))
    | inr wait ↦
        let does1 = subst (λ (t : Option Task). RunsDesk x desk t event.arg carried after puts) wait.is does in
        let does2 = subst (λ (o : Option (Load W L)). RunsDesk x desk (Some task.Wait) event.arg o after puts) wait.carries does1 in
        (wait_kept x l first desk after event.arg puts stands wait.fit.conn does2 room, wait_puts_fit x l first desk after event.arg puts stands wait.fit.conn does2 room)
  ]

  pub desk_known : (c : Colour) (event : Event) (carried : Option (Load W L)) (desk : Desk W) → c.0 ≡ 0 → DeskStands x l first desk → Fit x l first c event carried → task_of event.handler ≡ Some task.Wait → event.arg < desk.waiting.total
  desk_known c event carried desk low stands fit waits = elim (desk_fit x l first c event.arg (task_of event.handler) carried low fit) [
    | inl poll ↦ (let same : Some task.Poll ≡ Some task.Wait = sym poll.is ∙ waits in cc)
    | inr wait ↦ (let r = stands.room in let low_arg = wait.fit.conn in omega (arith, r, low_arg))
  ]

  pub desk_few : (desk : Desk W) → total ≤ 1024 → DeskStands x l first desk → desk.waiting.total ≤ 1024
  desk_few desk few stands = let r = stands.room in omega (arith, r, few)

  -- ---- colour 1

  accept_after : (c : Colour) (event : Event) (carried : Option (Load W L)) (puts : List (Put W L)) → c.0 ≡ 1 → Fit x l first c event carried → RunsAccepting x l total (task_of event.handler) carried puts → PutsFit puts
  accept_after c event carried puts one fit does =
      let accept = accept_fit x l first c event.arg (task_of event.handler) carried one fit in
      let does1 = subst (λ (t : Option Task). RunsAccepting x l total t carried puts) accept.is does in
      let does2 = subst (λ (o : Option (Load W L)). RunsAccepting x l total (Some task.Accept) o puts) accept.carries does1 in
      accept_puts_fit x l first accept.held event.arg c accept.fit puts does2

  -- ---- a connection

  open_link_fits : (c : Colour) (arg : ℕ) (which : Option Task) (link : L) → TaskFits x l first c arg which (Some (load.Link link)) → LinkStands x l first arg link
  open_link_fits c arg None link fit = absurd fit
  open_link_fits c arg (Some (task.Step handler.Open)) link fit = fit.initial
  open_link_fits c arg (Some task.Poll) link fit = absurd fit
  open_link_fits c arg (Some task.Wait) link fit = absurd fit
  open_link_fits c arg (Some task.Accept) link fit = absurd fit
  open_link_fits c arg (Some (task.Step handler.Read)) link fit = absurd fit
  open_link_fits c arg (Some (task.Step handler.Parse)) link fit = absurd fit
  open_link_fits c arg (Some (task.Step handler.Look)) link fit = absurd fit
  open_link_fits c arg (Some (task.Step handler.Write)) link fit = absurd fit
  open_link_fits c arg (Some (task.Step handler.Close)) link fit = absurd fit
  open_link_fits c arg (Some (task.Step handler.Resume)) link fit = absurd fit
  open_link_fits c arg (Some task.Log) link fit = absurd fit

  module _ {T G H : Type 0} (y : TalkWords T L G H) (hall : H) where
    pub seat_after : (c : Colour) (event : Event) (carried : Option (Load W L)) (trail : List Event) (seat after : Seat T) (puts : List (Put W L)) (log : Bool) → (2 ≤ c.0) × (c.0 < total + 2) → SeatStands x l y hall first (conn_of c) trail seat → Fit x l first c event carried
        → RunsSeat y log total (is_due (conn_of c) (due (y.view_of seat.talk)) event) (conn_of c) seat event carried after puts → after.next ≡ reported_next (y.view_of after.talk) → after.answered ≡ (y.view_of after.talk).lines → PutsTold l y (conn_of c) after.talk puts → (HasRunSome y seat.talk → due (y.view_of seat.talk) ≡ Some handler.Open → ⊥)
        → SeatStands x l y hall first (conn_of c) (trail ++ event ∷ []) after × ToldFit x l y hall first log puts
    seat_after c event carried trail seat after puts log high stands fit does next answered told never =
        let own = conn_fit x l first c event.arg (task_of event.handler) carried (high.0, below_line x l first c event.arg (task_of event.handler) carried high.1 fit) fit in
        let colour = own.step.colour in
        let conn : conn_of c ≡ event.arg = omega (arith, colour) in
        let low = own.step.conn in
        let low_conn : conn_of c < total = omega (arith, conn, low) in
        let links : (link : L) → carried ≡ Some (load.Link link) → LinkStands x l first (conn_of c) link = λ link is. subst (λ (k : ℕ). LinkStands x l first k link) (sym conn) (open_link_fits c event.arg (task_of event.handler) link (subst (λ (o : Option (Load W L)). TaskFits x l first c event.arg (task_of event.handler) o) is fit)) in
        let kept = seat_kept x l y hall first (conn_of c) seat after trail event carried puts stands next answered log links never (is_due (conn_of c) (due (y.view_of seat.talk)) event) refl does in (
          kept,
          seat_puts_fit x l y hall first (conn_of c) low_conn log (is_due (conn_of c) (due (y.view_of seat.talk)) event) seat after event carried puts does kept.ran kept.runs kept.hall_is told,
        )

-- what is kept of a state, by its role
module _ {W L T G H : Type 0} (x : WorldWords W L) (l : LinkWords L) (y : TalkWords T L G H) (hall : H) (first : W) (c : Colour) (trail : List Event) (lines : List LogLine) (role : Role W T) where
  pub desk_of : (desk : Desk W) → role ≡ Polling desk → RoleStands x l y hall first c trail lines role → (c.0 ≡ 0) × DeskStands x l first desk
  desk_of desk is stands = subst (λ (r : Role W T). RoleStands x l y hall first c trail lines r) is stands

  pub accept_of : role ≡ Accepting → RoleStands x l y hall first c trail lines role → c.0 ≡ 1
  accept_of is stands = subst (λ (r : Role W T). RoleStands x l y hall first c trail lines r) is stands

  pub accept_back : role ≡ Accepting → c.0 ≡ 1 → RoleStands x l y hall first c trail lines role
  accept_back is one = subst (λ (r : Role W T). RoleStands x l y hall first c trail lines r) (sym is) one

  pub seat_of : (seat : Seat T) → role ≡ Talking seat → RoleStands x l y hall first c trail lines role → ((2 ≤ c.0) × (c.0 < (x.tells first).total + 2)) × SeatStands x l y hall first (conn_of c) trail seat
  seat_of seat is stands = subst (λ (r : Role W T). RoleStands x l y hall first c trail lines r) is stands

  pub log_of : role ≡ Logging → RoleStands x l y hall first c trail lines role → (c.0 ≡ (x.tells first).total + 2) × LogStands x l y hall first trail lines
  log_of is stands = subst (λ (r : Role W T). RoleStands x l y hall first c trail lines r) is stands

-- the line that comes joins the lines of the log
pub log_after : {W L T G H : Type 0} (x : WorldWords W L) (l : LinkWords L) (y : TalkWords T L G H) (hall : H) (first : W) (c : Colour) (trail now : List Event) (lines next : List LogLine) (role : Role W T) (event : Event) (carried : Option (Load W L)) → role ≡ Logging → c.0 ≡ (x.tells first).total + 2 → LogStands x l y hall first trail lines
    → FitsTold x l y hall first c event carried → now ≡ trail ++ event ∷ [] → next ≡ lines ++ line_in carried → RoleStands x l y hall first c now next role
log_after {W} {L} {T} {G} {H} x l y hall first c trail now lines next role event carried is own stands fit now_is next_is =
    let log = log_fit x l first c event.arg (task_of event.handler) carried own fit.0 in
    let one : line_in carried ≡ log.line ∷ [] = ap line_in log.carries in
    let told : IsLineIn (y.log hall) (x.tells first).coming log.line = subst (λ (o : Option (Load W L)). TellsLine (y.log hall) (x.tells first).coming o) log.carries fit.1 in
    let conn = log.fit.conn in
    let same = log.fit.own in
    let all = next_is ∙ ap (λ (ls : List LogLine). lines ++ ls) one in
    let kept : LogStands x l y hall first (trail ++ event ∷ []) (lines ++ log.line ∷ []) = record {
      named = map-append (λ (line : LogLine). line.conn) lines (log.line ∷ []) ∙ ap (λ (ns : List ℕ). ns ++ log.line.conn ∷ []) stands.named ∙ ap (λ (n : ℕ). map (λ (e : Event). e.arg) trail ++ n ∷ []) same ∙ sym (map-append (λ (e : Event). e.arg) trail (event ∷ []));
      told = each_append (λ (line : LogLine). (line.conn < (x.tells first).total) × IsLineIn (y.log hall) (x.tells first).coming line) lines (log.line ∷ []) stands.told ((omega (arith, conn, same), told), tt);
    } in
    subst (λ (r : Role W T). RoleStands x l y hall first c now next r) (sym is) (own, subst (λ (ls : List LogLine). LogStands x l y hall first now ls) (sym all) (subst (λ (es : List Event). LogStands x l y hall first es (lines ++ log.line ∷ [])) (sym now_is) kept))

-- what a run is given, of a state that is seen so
pub first_few : {H W T L : Type 0} (x : WorldWords W L) (p q : PlaceState H W T) (total : ℕ) → p ≡ q → ((x.tells q.first).total ≡ total) × (total ≤ 1024) → (x.tells p.first).total ≤ 1024
first_few {H} {W} {T} x p q total same serves = let e = ap (λ (v : PlaceState H W T). (x.tells v.first).total) same in let a = serves.0 in let b = serves.1 in omega (arith, e, a, b)

pub fit_of : {W L T G H : Type 0} (x : WorldWords W L) (l : LinkWords L) (y : TalkWords T L G H) (p q : PlaceState H W T) (event : Event) (carried : Option (Load W L)) → p ≡ q → FitsTold x l y q.hall q.first q.colour event carried → FitsTold x l y p.hall p.first p.colour event carried
fit_of {W} {L} {T} {G} {H} x l y p q event carried same fit = subst (λ (v : PlaceState H W T). FitsTold x l y v.hall v.first v.colour event carried) (sym same) fit

-- the same for what is put
pub told_puts_of : {W L T G H : Type 0} (x : WorldWords W L) (l : LinkWords L) (y : TalkWords T L G H) (p q : PlaceState H W T) (total : ℕ) (log : Bool) (outs puts : List (Put W L)) → p ≡ q → ((x.tells q.first).total ≡ total) × (total ≤ 1024) → outs ≡ puts → ToldFit x l y p.hall p.first log puts
    → AllByRecursion (FitsIn (colours_over total log) 11 (FitsTold x l y q.hall q.first)) outs × (length outs ≤ 2)
told_puts_of {W} {L} {T} {G} {H} x l y p q total log outs puts same serves is fits =
    let at_q = subst (λ (v : PlaceState H W T). ToldFit x l y v.hall v.first log puts) same fits in
    let at_total = subst (λ (n : ℕ). AllByRecursion (FitsIn (colours_over n log) 11 (FitsTold x l y q.hall q.first)) puts × (length puts ≤ 2)) serves.0 at_q in
    subst (λ (ps : List (Put W L)). AllByRecursion (FitsIn (colours_over total log) 11 (FitsTold x l y q.hall q.first)) ps × (length ps ≤ 2)) (sym is) at_total

pub puts_of : {W L T G H : Type 0} (x : WorldWords W L) (l : LinkWords L) (y : TalkWords T L G H) (p q : PlaceState H W T) (total : ℕ) (log : Bool) (outs puts : List (Put W L)) → p ≡ q → ((x.tells q.first).total ≡ total) × (total ≤ 1024) → outs ≡ puts → PutsFit x l p.first puts
    → AllByRecursion (FitsIn (colours_over total log) 11 (FitsTold x l y q.hall q.first)) outs × (length outs ≤ 2)
puts_of x l y p q total log outs puts same serves is fits = told_puts_of x l y p q total log outs puts same serves is (wide_puts x l y p.hall p.first puts fits.0 log, fits.1)

pub first_total : {H W T L : Type 0} (x : WorldWords W L) (p q : PlaceState H W T) (n : ℕ) → p ≡ q → ((x.tells q.first).total ≡ n) × (n ≤ 1024) → (x.tells p.first).total ≡ n
first_total {H} {W} {T} x p q n same serves = ap (λ (v : PlaceState H W T). (x.tells v.first).total) same ∙ serves.0

pub accept_after_of : {W L : Type 0} (x : WorldWords W L) (l : LinkWords L) (first : W) (n : ℕ) → (x.tells first).total ≡ n → (c : Colour) (event : Event) (carried : Option (Load W L)) (puts : List (Put W L)) → c.0 ≡ 1 → Fit x l first c event carried → RunsAccepting x l n (task_of event.handler) carried puts → PutsFit x l first puts
accept_after_of {W} {L} x l first n is c event carried puts one fit does = accept_after x l first c event carried puts one fit (subst (λ (m : ℕ). RunsAccepting x l m (task_of event.handler) carried puts) (sym is) does)

pub seat_after_of : {W L T G H : Type 0} (x : WorldWords W L) (l : LinkWords L) (first : W) (n : ℕ) → (x.tells first).total ≡ n → (y : TalkWords T L G H) (hall : H) (c : Colour) (event : Event) (carried : Option (Load W L)) (trail : List Event) (seat after : Seat T) (puts : List (Put W L)) (log : Bool) → (2 ≤ c.0) × (c.0 < (x.tells first).total + 2) → SeatStands x l y hall first (conn_of c) trail seat → Fit x l first c event carried
    → RunsSeat y log n (is_due (conn_of c) (due (y.view_of seat.talk)) event) (conn_of c) seat event carried after puts → after.next ≡ reported_next (y.view_of after.talk) → after.answered ≡ (y.view_of after.talk).lines → PutsTold l y (conn_of c) after.talk puts → (HasRunSome y seat.talk → due (y.view_of seat.talk) ≡ Some handler.Open → ⊥)
    → SeatStands x l y hall first (conn_of c) (trail ++ event ∷ []) after × ToldFit x l y hall first log puts
seat_after_of {W} {L} x l first n is y hall c event carried trail seat after puts log high stands fit does next answered told never =
    seat_after x l first y hall c event carried trail seat after puts log high stands fit (subst (λ (m : ℕ). RunsSeat y log m (is_due (conn_of c) (due (y.view_of seat.talk)) event) (conn_of c) seat event carried after puts) (sym is) does) next answered told never

pub seat_back : {W L T G H : Type 0} (x : WorldWords W L) (l : LinkWords L) (y : TalkWords T L G H) (hall : H) (first : W) (c : Colour) (now trail : List Event) (lines : List LogLine) (event : Event) (after : Seat T) → now ≡ trail ++ event ∷ [] → (2 ≤ c.0) × (c.0 < (x.tells first).total + 2) → SeatStands x l y hall first (conn_of c) (trail ++ event ∷ []) after → RoleStands x l y hall first c now lines (Talking after)
seat_back x l y hall first c now trail lines event after is high stands = (high, subst (λ (es : List Event). SeatStands x l y hall first (conn_of c) es after) (sym is) stands)
