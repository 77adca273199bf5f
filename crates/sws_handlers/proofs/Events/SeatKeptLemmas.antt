-- What a connection's event keeps, and puts.
use Rattle.std.proofs.Common.{◌≡◌, ℕ, ◌+◌, ◌≤◌, ◌<◌, Bool, true, false, true≢false, Option, Some, None, List, [], ◌∷◌, ◌++◌, length, map, refl, sym, ◌∙◌, ap, subst, arith, inl, inr, eq-eqb}
use Rattle.std.proofs.lemmas.Bool.Decides.{eqb_tells}
use Rattle.std.proofs.lemmas.List.{map-append, append_assoc}
use Rattle.std.proofs.lemmas.Option.{same_Some}
use Rattle.std.specs.Prelude.{◌==◌, ◌&&◌, slice_get, IfSome, IsSome, is_some as is_there}
use Rattle.mely_event.specs.declared.colour.Colour.{Colour}
use Rattle.sws_log.specs.declared.line.LogLine.{LogLine}
use Rattle.sws_link.specs.Links.{LinkContents}
use Rattle.sws_link.specs.Worlds.{Coming, initial_contents}
use Rattle.sws_steps.specs.Logs.{IsLineOf}
use Rattle.std.specs.List.{AllByRecursion}
use Rattle.mely_event.specs.declared.event.Event.{Event}
use Rattle.mely_worker.specs.Access.{FitsIn}
use Rattle.sws_link.specs.declared.Link.{Ghosts as LinkWords}
use Rattle.sws_link.specs.declared.world.World.{Ghosts as WorldWords}
use Rattle.sws_steps.specs.declared.talk.Talk.{Ghosts as TalkWords}
use Rattle.sws_steps.specs.declared.Handler.{Handler}
use Rattle.sws_steps.specs.declared.Handler.TheVariants as handler
use Rattle.sws_conn.specs.Talks.{TalkView, unopened_view, reported_next, due}
use Rattle.sws_handlers.specs.declared.load.Load.{Load}
use Rattle.sws_handlers.specs.declared.load.Load.TheVariants as load
use Rattle.sws_handlers.specs.declared.place.Seat.{Seat}
use Rattle.sws_handlers.specs.Loads.{LinkStands, Fit, FitsTold, IsComing, IsLineIn, TellsLine}
use Rattle.sws_handlers.specs.Handling.{Put, next_puts, line_puts, is_due, stray_of, Stepped, RunsSeat}
use Rattle.sws_handlers.specs.Counting.{bit, colours_over}
use Rattle.sws_handlers.specs.Tasks.{task_of, number_of, event_for}
use Rattle.sws_handlers.specs.declared.task.Task.TheVariants as task
use Rattle.sws_handlers.proofs.Events.FitLemmas.{line_fit, number_is}
use Rattle.sws_handlers.proofs.Events.WaitingListsLemmas.{each_append}
use Rattle.sws_handlers.specs.Invariant.{RanBy, TrailIs, SeatStands}
use Rattle.sws_handlers.specs.Seating.{HasRunSome, PutsTold}

and_both : (a b : Bool) → (a && b) ≡ true → (a ≡ true) × (b ≡ true)
and_both true b is = (refl, is)
and_both false b is = cc

same_number : (a b : ℕ) → (a == b) ≡ true → a ≡ b
same_number a b is = elim (eqb_tells a b) [ inl same ↦ same.1 | inr apart ↦ absurd (true≢false (sym is ∙ apart.0)) ]

-- the due event is the one for the due step
pub due_event : (i : ℕ) (step : Handler) (event : Event) → is_due i (Some step) event ≡ true → event ≡ event_for i step
due_event i step event is =
    let both = and_both (event.handler == number_of step) (event.arg == i) is in
    let h = same_number event.handler (number_of step) both.0 in
    let a = same_number event.arg i both.1 in
    ap (λ (n : ℕ). let e : Event = record { handler = n; arg = event.arg } in e) h ∙ ap (λ (n : ℕ). let e : Event = record { handler = number_of step; arg = n } in e) a

-- each put that isn't a line fits as well where there is a log
module _ {W L T G H : Type 0} (x : WorldWords W L) (l : LinkWords L) (y : TalkWords T L G H) (hall : H) (first : W) where
  no_line : (c : Colour) (event : Event) (carried : Option (Load W L)) → event.handler < 10 → Fit x l first c event carried → TellsLine (y.log hall) (x.tells first).coming carried
  no_line c event None less fit = tt
  no_line c event (Some (load.World held)) less fit = tt
  no_line c event (Some (load.Link link)) less fit = tt
  no_line c event (Some (load.Line line)) less fit =
      let own = line_fit x l first c event.arg (task_of event.handler) line fit in
      let number = number_is event.handler task.Log own.is in
      absurd (omega (arith, number, less))

  wide_put : (put : Put W L) → FitsIn ((x.tells first).total + 2) 10 (Fit x l first) put → (log : Bool) → FitsIn (colours_over (x.tells first).total log) 11 (FitsTold x l y hall first) put
  wide_put put fit log = record {
    colour = (let low_colour = fit.colour in omega (arith, low_colour));
    handler = (let low_handler = fit.handler in omega (arith, low_handler));
    load = (fit.load, no_line put.0 put.1 put.2 fit.handler fit.load);
  }

  pub wide_puts : (puts : List (Put W L)) → AllByRecursion (FitsIn ((x.tells first).total + 2) 10 (Fit x l first)) puts → (log : Bool) → AllByRecursion (FitsIn (colours_over (x.tells first).total log) 11 (FitsTold x l y hall first)) puts
  wide_puts [] fit log = tt
  wide_puts (put ∷ puts) fit log = (wide_put put fit.0 log, wide_puts puts fit.1 log)

module _ {W L T G H : Type 0} (x : WorldWords W L) (l : LinkWords L) (y : TalkWords T L G H) (hall : H) (first : W) (i : ℕ) where
  abbrev total : ℕ
  total = (x.tells first).total

  initial_due : (talk : T) (step : Handler) → y.view_of talk ≡ unopened_view → due (y.view_of talk) ≡ Some step → (step ≡ handler.Open → ⊥) → ⊥
  initial_due talk step initial at apart = apart (sym (same_Some handler.Open step (sym (ap (λ (v : TalkView). due v) initial) ∙ at)))

  -- one more step of the run
  ran_more : (ran : List Handler) (step : Handler) (before after : T) (carried : Option (Load W L)) → RanBy x l y hall first i ran before → due (y.view_of before) ≡ Some step
      → Stepped y before (Some step) carried after → ((link : L) → step ≡ handler.Open → carried ≡ Some (load.Link link) → LinkStands x l first i link) → ((h : Handler) (hs : List Handler) → ran ≡ h ∷ hs → step ≡ handler.Open → ⊥) → RanBy x l y hall first i (ran ++ step ∷ []) after
  ran_more [] handler.Open before after carried is at does fits no_twice = (does.0, fits does.0 refl does.1, does.2)
  ran_more [] handler.Read before after carried is at does fits no_twice = absurd (initial_due before handler.Read is.1 at (λ e. cc))
  ran_more [] handler.Parse before after carried is at does fits no_twice = absurd (initial_due before handler.Parse is.1 at (λ e. cc))
  ran_more [] handler.Look before after carried is at does fits no_twice = absurd (initial_due before handler.Look is.1 at (λ e. cc))
  ran_more [] handler.Write before after carried is at does fits no_twice = absurd (initial_due before handler.Write is.1 at (λ e. cc))
  ran_more [] handler.Resume before after carried is at does fits no_twice = absurd (initial_due before handler.Resume is.1 at (λ e. cc))
  ran_more [] handler.Close before after carried is at does fits no_twice = absurd (initial_due before handler.Close is.1 at (λ e. cc))
  ran_more (h ∷ hs) handler.Open before after carried is at does fits no_twice = absurd (no_twice h hs refl refl)
  ran_more (h ∷ hs) handler.Read before after carried is at does fits no_twice = (is.0, is.1, does is.0 (h ∷ hs) is.2)
  ran_more (h ∷ hs) handler.Parse before after carried is at does fits no_twice = (is.0, is.1, does is.0 (h ∷ hs) is.2)
  ran_more (h ∷ hs) handler.Look before after carried is at does fits no_twice = (is.0, is.1, does is.0 (h ∷ hs) is.2)
  ran_more (h ∷ hs) handler.Write before after carried is at does fits no_twice = (is.0, is.1, does is.0 (h ∷ hs) is.2)
  ran_more (h ∷ hs) handler.Resume before after carried is at does fits no_twice = (is.0, is.1, does is.0 (h ∷ hs) is.2)
  ran_more (h ∷ hs) handler.Close before after carried is at does fits no_twice = (is.0, is.1, does is.0 (h ∷ hs) is.2)

  module _ (seat after : Seat T) (trail : List Event) (event : Event) (carried : Option (Load W L)) (puts : List (Put W L)) (stands : SeatStands x l y hall first i trail seat)
      (next : after.next ≡ reported_next (y.view_of after.talk)) (answered : after.answered ≡ (y.view_of after.talk).lines) (log : Bool)
      (fits : (link : L) → carried ≡ Some (load.Link link) → LinkStands x l first i link)
      (no_twice : HasRunSome y seat.talk → due (y.view_of seat.talk) ≡ Some handler.Open → ⊥) where
    more_trail : (stray : Option Event) (step : Handler) → event ≡ event_for i step → TrailIs x l y hall first i trail stands.ran stray → TrailIs x l y hall first i (trail ++ event ∷ []) (stands.ran ++ step ∷ []) stray
    more_trail None step is told = ap (λ (es : List Event). es ++ event ∷ []) told ∙ ap (λ (e : Event). map (event_for i) stands.ran ++ e ∷ []) is ∙ sym (map-append (event_for i) stands.ran (step ∷ []))
    more_trail (Some stray) step is told = record {
      front = told.front;
      talk = told.talk;
      more = told.more ++ event ∷ [];
      is = ap (λ (es : List Event). es ++ event ∷ []) told.is ∙ append_assoc (map (event_for i) told.front) (stray ∷ told.more) (event ∷ []);
      ran = told.ran;
      hall_is = told.hall_is;
      stray = told.stray;
    }

    stray_trail : (stray : Option Event) → is_due i (due (y.view_of seat.talk)) event ≡ false → TrailIs x l y hall first i trail stands.ran stray → TrailIs x l y hall first i (trail ++ event ∷ []) stands.ran (stray_of stray event)
    stray_trail None isnt told = record {
      front = stands.ran;
      talk = seat.talk;
      more = [];
      is = ap (λ (es : List Event). es ++ event ∷ []) told;
      ran = stands.runs;
      hall_is = stands.hall_is;
      stray = isnt;
    }
    stray_trail (Some stray) isnt told = record {
      front = told.front;
      talk = told.talk;
      more = told.more ++ event ∷ [];
      is = ap (λ (es : List Event). es ++ event ∷ []) told.is ∙ append_assoc (map (event_for i) told.front) (stray ∷ told.more) (event ∷ []);
      ran = told.ran;
      hall_is = told.hall_is;
      stray = told.stray;
    }

    ran_some : (h : Handler) (hs : List Handler) → stands.ran ≡ h ∷ hs → HasRunSome y seat.talk
    ran_some h hs is = let r = subst (λ (ran : List Handler). RanBy x l y hall first i ran seat.talk) is stands.runs in record { first = r.0; ran = h ∷ hs; is = r.2 }

    due_kept : (d : Option Handler) → due (y.view_of seat.talk) ≡ d → is_due i d event ≡ true → RunsSeat y log total true i seat event carried after puts → SeatStands x l y hall first i (trail ++ event ∷ []) after
    due_kept None at is does = cc
    due_kept (Some step) at is does = record {
      hall_is = does.2 ∙ stands.hall_is;
      next = next;
      answered = answered;
      ran = stands.ran ++ step ∷ [];
      runs = ran_more stands.ran step seat.talk after.talk carried stands.runs at (subst (λ (d : Option Handler). Stepped y seat.talk d carried after.talk) at does.0) (λ link opens carries. fits link carries) (λ h hs some opens. no_twice (ran_some h hs some) (at ∙ ap (λ (s : Handler). Some s) opens));
      trailed = subst (λ (s : Option Event). TrailIs x l y hall first i (trail ++ event ∷ []) (stands.ran ++ step ∷ []) s) (sym does.1) (more_trail seat.stray step (due_event i step event is) stands.trailed);
    }

    pub seat_kept : (b : Bool) → is_due i (due (y.view_of seat.talk)) event ≡ b → RunsSeat y log total b i seat event carried after puts → SeatStands x l y hall first i (trail ++ event ∷ []) after
    seat_kept true is does = due_kept (due (y.view_of seat.talk)) refl is does
    seat_kept false is does =
        let kept : SeatStands x l y hall first i (trail ++ event ∷ []) (record { talk = seat.talk; next = after.next; answered = after.answered; stray = stray_of seat.stray event }) = record {
          hall_is = stands.hall_is;
          next = next ∙ ap (λ (t : T). reported_next (y.view_of t)) does.0;
          answered = answered ∙ ap (λ (t : T). (y.view_of t).lines) does.0;
          ran = stands.ran;
          runs = stands.runs;
          trailed = stray_trail seat.stray is stands.trailed;
        } in
        let back : after ≡ record { talk = seat.talk; next = after.next; answered = after.answered; stray = stray_of seat.stray event } = ap (λ (t : T). let k : Seat T = record { talk = t; next = after.next; answered = after.answered; stray = after.stray } in k) does.0 ∙ ap (λ (s : Option Event). let k : Seat T = record { talk = seat.talk; next = after.next; answered = after.answered; stray = s } in k) does.1 in
        subst (λ (k : Seat T). SeatStands x l y hall first i (trail ++ event ∷ []) k) (sym back) kept

  -- what a connection puts fits
  module _ (low : i < total) where
    abbrev PutFits : Put W L → Type 0
    PutFits put = FitsIn (total + 2) 10 (Fit x l first) put

    next_fits : (d : Option Handler) → is_due i d (record { handler = 3; arg = i }) ≡ false → AllByRecursion PutFits (next_puts {W = W} {L = L} i d) × (length (next_puts {W = W} {L = L} i d) ≤ 2)
    next_fits None is = (tt, omega arith)
    next_fits (Some handler.Open) is = absurd (true≢false (sym (eq-eqb i i refl) ∙ is))
    next_fits (Some handler.Read) is = ((record { colour = omega (arith, low); handler = omega arith; load = record { colour = refl; conn = low } }, tt), omega arith)
    next_fits (Some handler.Parse) is = ((record { colour = omega (arith, low); handler = omega arith; load = record { colour = refl; conn = low } }, tt), omega arith)
    next_fits (Some handler.Look) is = ((record { colour = omega (arith, low); handler = omega arith; load = record { colour = refl; conn = low } }, tt), omega arith)
    next_fits (Some handler.Write) is = ((record { colour = omega (arith, low); handler = omega arith; load = record { colour = refl; conn = low } }, tt), omega arith)
    next_fits (Some handler.Close) is = ((record { colour = omega (arith, low); handler = omega arith; load = record { colour = refl; conn = low } }, tt), omega arith)
    next_fits (Some handler.Resume) is = ((record { colour = omega arith; handler = omega arith; load = record { colour = refl; conn = low } }, tt), omega arith)

    -- of a line that was put, its connection has run, and so its link told what it began with
    ran_with_lines : (ran : List Handler) (talk : T) → RanBy x l y hall first i ran talk → 1 ≤ (y.view_of talk).lines → (link : L) × LinkStands x l first i link × (trail : List Handler) × y.has_run link trail talk
    ran_with_lines [] talk is some = let none = ap (λ (v : TalkView). v.lines) is.1 in absurd (omega (arith, none, some))
    ran_with_lines (h ∷ hs) talk is some = (is.0, is.1, h ∷ hs, is.2)

    line_told : (log : List ℕ → List LogLine) (coming : Option (List Coming)) (told : Option LinkContents) (line : LogLine) → IsComing coming i told → IsLineOf log told line → (one : List Coming) → coming ≡ Some one → (c : Coming) → slice_get one i ≡ Some c → IsLineOf log (Some (initial_contents c)) line
    line_told log None told line comes is one none c at = cc
    line_told log (Some coming) told line comes is one some c at =
        let same : coming ≡ one = same_Some coming one some in
        let there : comes.0 ≡ c = same_Some comes.0 c (sym comes.1 ∙ ap (λ (l : List Coming). slice_get l i) same ∙ at) in
        subst (λ (k : Coming). IsLineOf log (Some (initial_contents k)) line) there (subst (λ (t : Option LinkContents). IsLineOf log t line) comes.2 is)

    line_in_log : (log : ℕ → List ℕ → List LogLine) (coming : Option (List Coming)) (told : Option LinkContents) (line : LogLine) → line.conn ≡ i → IsComing coming i told → IsLineOf (log i) told line → IsLineIn log coming line
    line_in_log log None told line own comes is = tt
    line_in_log log (Some coming) told line own comes is = λ c at. subst (λ (n : ℕ). IsLineOf (log n) (Some (initial_contents c)) line) (sym own) (line_told (log i) (Some coming) told line comes is coming refl c (ap (slice_get coming) (sym own) ∙ at))

    -- the line of a step
    line_fits : (log : Bool) (talk : T) (line : Option LogLine) → IfSome line (λ line. (line.conn ≡ i) × (line.turn ≡ (y.view_of talk).lines)) → (IsSome line → 1 ≤ (y.view_of talk).lines) → (ran : List Handler) → RanBy x l y hall first i ran talk → y.hall_of talk ≡ hall
        → PutsTold l y i talk (line_puts {W = W} {L = L} log total i line) → AllByRecursion (FitsIn (colours_over total log) 11 (FitsTold x l y hall first)) (line_puts {W = W} {L = L} log total i line)
    line_fits log talk None numbered some ran runs over told = tt
    line_fits false talk (Some line) numbered some ran runs over told = tt
    line_fits true talk (Some line) numbered some ran runs over told =
        let has = ran_with_lines ran talk runs (some refl) in
        let own = numbered.0 in
        let turn = numbered.1 in
        let least = some refl in
        let exact : IsLineOf (y.log (y.hall_of talk) i) (l.tells has.0) line = (told has.0 has.2 has.3).0 in (
          record {
            colour = omega arith;
            handler = omega arith;
            load = (record { colour = refl; conn = low; own = own; numbered = omega (arith, turn, least) }, line_in_log (y.log hall) (x.tells first).coming (l.tells has.0) line own has.1.coming (subst (λ (h : H). IsLineOf (y.log h i) (l.tells has.0) line) over exact));
          },
          tt,
        )

    told_behind : (talk : T) (puts more : List (Put W L)) → PutsTold l y i talk (puts ++ more) → PutsTold l y i talk more
    told_behind talk [] more told = told
    told_behind talk (put ∷ puts) more told = told_behind talk puts more (λ link trail runs. (told link trail runs).1)

    few_more : (log : Bool) (d : Option Handler) (line : Option LogLine) → length (next_puts {W = W} {L = L} i d ++ line_puts log total i line) ≤ 2
    few_more log None None = omega arith
    few_more true None (Some line) = omega arith
    few_more false None (Some line) = omega arith
    few_more log (Some step) None = omega arith
    few_more true (Some step) (Some line) = omega arith
    few_more false (Some step) (Some line) = omega arith

    some_bit : (line : Option LogLine) → IsSome line → bit (is_there line) ≡ 1
    some_bit None some = cc
    some_bit (Some line) some = refl

    pub seat_puts_fit : (log : Bool) (b : Bool) (seat after : Seat T) (event : Event) (carried : Option (Load W L)) (puts : List (Put W L)) → RunsSeat y log total b i seat event carried after puts → (ran : List Handler) → RanBy x l y hall first i ran after.talk → y.hall_of after.talk ≡ hall → PutsTold l y i after.talk puts
        → AllByRecursion (FitsIn (colours_over total log) 11 (FitsTold x l y hall first)) puts × (length puts ≤ 2)
    seat_puts_fit log true seat after event carried puts does ran runs over told =
        let next = does.4 in
        let d : Option Handler = due (y.view_of after.talk) in
        let split = subst (λ (ps : List (Put W L)). PutsTold l y i after.talk ps) next.puts_are told in
        let counted = next.lines in
        subst (λ (ps : List (Put W L)). AllByRecursion (FitsIn (colours_over total log) 11 (FitsTold x l y hall first)) ps × (length ps ≤ 2)) (sym next.puts_are) (
          each_append (FitsIn (colours_over total log) 11 (FitsTold x l y hall first)) (next_puts i d) (line_puts log total i next.line) (wide_puts x l y hall first (next_puts i d) (next_fits d does.3).0 log)
              (line_fits log after.talk next.line next.numbered (λ some. (let one = some_bit next.line some in omega (arith, counted, one))) ran runs over (told_behind after.talk (next_puts i d) (line_puts log total i next.line) split)),
          few_more log d next.line,
        )
    seat_puts_fit log false seat after event carried puts does ran runs over told = subst (λ (ps : List (Put W L)). AllByRecursion (FitsIn (colours_over total log) 11 (FitsTold x l y hall first)) ps × (length ps ≤ 2)) (sym does.2) (tt, omega arith)
