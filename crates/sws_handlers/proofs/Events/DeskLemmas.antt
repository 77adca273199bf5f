-- What is done on colours 0 and 1 keeps what stands there, and puts what fits.
use Rattle.std.proofs.Common.{◌≡◌, ℕ, ◌+◌, ◌≤◌, ◌<◌, ◌⊎◌, Bool, true, false, true≢false, if◌then◌else◌, Option, Some, None, List, [], ◌∷◌, ◌++◌, length, map, refl, sym, ◌∙◌, ap, subst, arith, inl, inr}
use Rattle.std.proofs.lemmas.Bool.{ne_eqb}
use Rattle.std.proofs.lemmas.Bool.Decides.{eqb_tells}
use Rattle.std.proofs.lemmas.List.{length-append, length-map}
use Rattle.std.proofs.lemmas.List.Sums.{sum_by_push}
use Rattle.std.specs.Prelude.{not, ◌==◌, ◌||◌, ◌&&◌, IsTrue, IfSome}
use Rattle.std.specs.List.{AllByRecursion, list_any}
use Rattle.mely_event.specs.declared.colour.Colour.{Colour}
use Rattle.mely_worker.specs.Access.{FitsIn}
use Rattle.sws_link.proofs.CountLemmas.{Rose-later, Rose-earlier, IsLater-same, IsLater-trans}
use Rattle.sws_link.specs.Counts.{Rose, IsLater}
use Rattle.sws_link.specs.declared.Link.{Ghosts as LinkWords}
use Rattle.sws_link.specs.declared.world.World.{Ghosts as WorldWords}
use Rattle.sws_link.specs.declared.Polled.{Polled}
use Rattle.sws_link.specs.declared.Polled.TheVariants as polled
use Rattle.sws_link.specs.Worlds.{WorldContents, Polls, first_ready}
use Rattle.sws_steps.specs.declared.Handler.TheVariants as handler
use Rattle.sws_handlers.specs.declared.load.WorldLoad.{WorldLoad}
use Rattle.sws_handlers.specs.declared.place.Desk.{Desk}
use Rattle.sws_handlers.specs.Loads.{WorldStands, PollFits, Fit}
use Rattle.sws_handlers.specs.Handling.{Put, step_put, Asked, Answered, Asks, is_to_ask, resume_first, resumed_one, onward, rest_of, RunsPoll, woken_by, RunsWait}
use Rattle.sws_handlers.specs.Counting.{bit, times}
use Rattle.sws_handlers.specs.Invariant.{DeskStands}
use Rattle.sws_handlers.proofs.Events.WaitingListsLemmas.{count_answered, count_resuming}
use Rattle.sws_handlers.proofs.Events.WaitingListsLemmas.{each_append, each_map, all_below, any_false}

or_false : (a b : Bool) → (a || b) ≡ false → (a ≡ false) × (b ≡ false)
or_false true b is = absurd (true≢false is)
or_false false b is = (refl, is)

either_true : (a b : Bool) → (a || b) ≡ true → (a ≡ true) ⊎ (b ≡ true)
either_true true b is = inl refl
either_true false b is = inr is

not_and : (a b : Bool) → (not a && b) ≡ true → a ≡ false
not_and true b is = cc
not_and false b is = refl

never_failed : (waiting : List ℕ) → polled.Failed ≡ first_ready waiting → ⊥
never_failed [] is = cc
never_failed (w ∷ ws) is = cc

module _ {W L : Type 0} (x : WorldWords W L) (l : LinkWords L) (first : W) where
  abbrev total : ℕ
  total = (x.tells first).total

  abbrev PutFits : Put W L → Type 0
  PutFits put = FitsIn (total + 2) 10 (Fit x l first) put

  -- ---- the world after it was asked

  record AskedWorld (world now : W) (failed failed_now : Bool) : Type 0 where
    pub tells : x.tells now ≡ x.tells world
    pub later : IsLater (x.faults world) (x.faults now)
    pub failing : failed_now ≡ true → (failed ≡ true) ⊎ Rose (x.faults world) (x.faults now)
    pub sure : IsTrue (x.tells world).scripted → failed ≡ false → failed_now ≡ false

  answered_world : (world now : W) (waiting : List ℕ) (last : Bool) (answer : Polled) (asked : Asked) → Polls x.tells x.faults x.waits world waiting answer now → Answered waiting last answer asked → AskedWorld world now false asked.failed
  answered_world world now waiting last (polled.Ready conn) asked polls is = record { tells = polls.same; later = polls.failed.later; failing = λ yes_is. absurd (true≢false (sym yes_is ∙ is.2)); sure = λ s n. is.2 }
  answered_world world now waiting last polled.Quiet asked polls is = record { tells = polls.same; later = polls.failed.later; failing = λ yes_is. absurd (true≢false (sym yes_is ∙ ap (λ (a : Asked). a.failed) is)); sure = λ s n. ap (λ (a : Asked). a.failed) is }
  answered_world world now waiting last polled.Failed asked polls is = record { tells = polls.same; later = polls.failed.later; failing = λ yes_is. inr (polls.failed.rose refl); sure = λ s n. absurd (never_failed waiting (polls.scripted s)) }

  asked_world : (b : Bool) (world now : W) (waiting : List ℕ) (last failed : Bool) (asked : Asked) → is_to_ask waiting last failed ≡ b → Asks x b world waiting last failed now asked → AskedWorld world now failed asked.failed
  asked_world true world now waiting last failed asked which asks =
      let sound = not_and failed _ which in
      subst (λ (f : Bool). AskedWorld world now f asked.failed) (sym sound) (answered_world world now waiting last asks.0 asked asks.1 asks.2)
  asked_world false world now waiting last failed asked which asks =
      let same : x.tells now ≡ x.tells world = ap x.tells asks.0 in
      let f : asked.failed ≡ failed = ap (λ (a : Asked). a.failed) asks.1 in
      record {
        tells = same;
        later = subst (λ (w : W). IsLater (x.faults world) (x.faults w)) (sym asks.0) (IsLater-same (x.faults world));
        failing = λ yes_is. inl (sym f ∙ yes_is);
        sure = λ s n. f ∙ n;
      }

  -- the world that goes on
  goes_stands : (held : WorldLoad W) (now : W) (arg : ℕ) (c : Colour) (failed_now : Bool) → PollFits x l first c arg held → AskedWorld held.world now (held.failed || (arg == 2)) failed_now → WorldStands x l first (record { world = now; accepted = held.accepted; failed = failed_now })
  goes_stands held now arg c failed_now fit asked =
      let s = fit.stands in
      record {
        total = ap (λ (w : WorldContents). w.total) asked.tells ∙ s.total;
        port = ap (λ (w : WorldContents). w.port) asked.tells ∙ s.port;
        scripted = ap (λ (w : WorldContents). w.scripted) asked.tells ∙ s.scripted;
        accepted = ap (λ (w : WorldContents). w.accepted) asked.tells ∙ s.accepted;
        within = s.within;
        coming = ap (λ (w : WorldContents). w.coming) asked.tells ∙ s.coming;
        faults = IsLater-trans (x.faults first) (x.faults held.world) (x.faults now) s.faults asked.later;
        failed = λ yes_is. elim (asked.failing yes_is) [
          | inl before ↦ elim (either_true held.failed (arg == 2) before) [
            | inl was ↦ Rose-later (x.faults first) (x.faults held.world) (x.faults now) (s.failed was) asked.later
            | inr two ↦ elim (eqb_tells arg 2) [
              | inl same ↦ Rose-later (x.faults first) (x.faults held.world) (x.faults now) (fit.failing same.1) asked.later
              | inr apart ↦ absurd (true≢false (sym two ∙ apart.0))
            ]
          ]
          | inr rose ↦ Rose-earlier (x.faults first) (x.faults held.world) (x.faults now) s.faults asked.later rose
        ];
        sure = λ scripted.
            let few = fit.sure scripted in
            let sound : (held.failed || (arg == 2)) ≡ false = ap (λ b. b || (arg == 2)) (s.sure scripted) ∙ ne_eqb arg 2 (λ two. omega (arith, two, few)) in
            asked.sure (subst (λ (b : Bool). b ≡ true) (sym s.scripted) scripted) sound;
      }

  -- ---- a poll

  module _ (desk after : Desk W) (arg : ℕ) (held : WorldLoad W) (puts : List (Put W L)) (c : Colour) (stands : DeskStands x l first desk) (fit : PollFits x l first c arg held) (runs : RunsPoll x desk arg held after puts) (room : after.waiting.total ≡ desk.waiting.total) where
    abbrev last_now : Bool
    last_now = desk.last || not (arg == 0)

    abbrev failed_now : Bool
    failed_now = held.failed || (arg == 2)

    abbrev asked : Asked
    asked = runs.asked

    abbrev goes : WorldLoad W
    goes = record { world = runs.now; accepted = held.accepted; failed = asked.failed }

    world_goes : WorldStands x l first goes
    world_goes = goes_stands held runs.now arg c asked.failed fit (asked_world (is_to_ask desk.waiting.items last_now failed_now) held.world runs.now desk.waiting.items last_now failed_now asked refl runs.asks)

    asked_count : (b : Bool) (last failed : Bool) (i : ℕ) → Asks x b held.world desk.waiting.items last failed runs.now asked → times i asked.waiting + times i asked.resumed ≡ times i desk.waiting.items
    asked_count true last failed i asks = count_answered i desk.waiting.items last asks.0 asked asks.2
    asked_count false last failed i asks = omega (arith, ap (λ (a : Asked). times i a.waiting) asks.1, ap (λ (a : Asked). times i a.resumed) asks.1)

    done_count : (i : ℕ) → times i (resumed_one asked).waiting + times i (resumed_one asked).resumed ≡ times i desk.waiting.items
    done_count i = count_resuming i asked.failed asked.waiting asked refl ∙ asked_count _ _ _ i runs.asks

    rest_stands : (last : Bool) (waiting : List ℕ) → IfSome (rest_of last waiting goes desk.resting) (WorldStands x l first)
    rest_stands false waiting = stands.resting
    rest_stands true (w ∷ ws) = stands.resting
    rest_stands true [] = world_goes

    pub poll_kept : DeskStands x l first after
    poll_kept = record {
      once = λ i. let a = ap (times i) runs.waiting in let d = done_count i in let o = stands.once i in omega (arith, a, d, o);
      below = λ i high. let a = ap (times i) runs.waiting in let d = done_count i in let o = stands.below i high in omega (arith, a, d, o);
      room = room ∙ stands.room;
      resting = subst (λ (o : Option (WorldLoad W)). IfSome o (WorldStands x l first)) (sym runs.resting) (rest_stands asked.last (resumed_one asked).waiting);
    }

    resumed_below : AllByRecursion (λ w. w < total) (resumed_one asked).resumed
    resumed_below = all_below total (resumed_one asked).resumed (λ i high. let d = done_count i in let o = stands.below i high in omega (arith, d, o))

    resume_fits : (w : ℕ) → w < total → PutFits (step_put w handler.Resume)
    resume_fits w low = record { colour = omega (arith, low); handler = omega arith; load = record { colour = refl; conn = low } }

    -- more links are to come only where the event says so
    last_answered : (last : Bool) (answer : Polled) → Answered desk.waiting.items last answer asked → asked.last ≡ false → last ≡ false
    last_answered last (polled.Ready conn) is none = sym is.1 ∙ none
    last_answered last polled.Quiet is none = sym (ap (λ (a : Asked). a.last) is) ∙ none
    last_answered last polled.Failed is none = absurd (true≢false (sym (ap (λ (a : Asked). a.last) is) ∙ none))

    last_asked : (b last failed : Bool) → Asks x b held.world desk.waiting.items last failed runs.now asked → asked.last ≡ false → last ≡ false
    last_asked true last failed asks none = last_answered last asks.0 asks.2 none
    last_asked false last failed asks none = sym (ap (λ (a : Asked). a.last) asks.1) ∙ none

    more_come : asked.last ≡ false → held.accepted < total
    more_come none =
        let zero_is : not (arg == 0) ≡ false = (or_false desk.last (not (arg == 0)) (last_asked _ last_now failed_now runs.asks none)).1 in
        elim (eqb_tells arg 0) [ inl same ↦ fit.more same.1 | inr apart ↦ absurd (true≢false (sym (ap not apart.0) ∙ zero_is)) ]

    onward_fits : (last : Bool) (waiting : List ℕ) → asked.last ≡ last → AllByRecursion PutFits (onward last waiting goes)
    onward_fits false waiting is = (record { colour = omega arith; handler = omega arith; load = record { colour = refl; none = refl; stands = world_goes; more = more_come is } }, tt)
    onward_fits true (w ∷ ws) is = (record { colour = omega arith; handler = omega arith; load = record { colour = refl; known = omega arith; stands = world_goes; more = λ no_is. cc; failing = λ no_is. cc; sure = λ s. omega arith } }, tt)
    onward_fits true [] is = tt

    pub poll_puts_fit : AllByRecursion PutFits puts
    poll_puts_fit = subst (λ (ps : List (Put W L)). AllByRecursion PutFits ps) (sym runs.puts_are)
        (each_append PutFits (map (λ i. step_put {W = W} {L = L} i handler.Resume) (resumed_one asked).resumed) (onward asked.last (resumed_one asked).waiting goes)
        (each_map (λ w. w < total) PutFits (λ i. step_put {W = W} {L = L} i handler.Resume) resume_fits (resumed_one asked).resumed resumed_below)
        (onward_fits asked.last (resumed_one asked).waiting refl))

    resuming_few : (failed : Bool) (waiting : List ℕ) → length asked.resumed ≤ 1 → (failed ≡ true → asked.resumed ≡ []) → length (resume_first failed waiting asked).resumed ≤ 1
    resuming_few true [] few none = few
    resuming_few true (w ∷ ws) few none = let z = ap (λ (l : List ℕ). length (l ++ w ∷ [])) (none refl) in omega (arith, z)
    resuming_few false waiting few none = few

    answered_few : (last : Bool) (answer : Polled) → Answered desk.waiting.items last answer asked → (length asked.resumed ≤ 1) × (asked.failed ≡ true → asked.resumed ≡ [])
    answered_few last (polled.Ready conn) is = (let z = ap length is.3 in omega (arith, z), λ yes_is. absurd (true≢false (sym yes_is ∙ is.2)))
    answered_few last polled.Quiet is = (let z = ap (λ (a : Asked). length a.resumed) is in omega (arith, z), λ yes_is. ap (λ (a : Asked). a.resumed) is)
    answered_few last polled.Failed is = (let z = ap (λ (a : Asked). length a.resumed) is in omega (arith, z), λ yes_is. ap (λ (a : Asked). a.resumed) is)

    asked_few : (b last failed : Bool) → Asks x b held.world desk.waiting.items last failed runs.now asked → (length asked.resumed ≤ 1) × (asked.failed ≡ true → asked.resumed ≡ [])
    asked_few true last failed asks = answered_few last asks.0 asks.2
    asked_few false last failed asks = (let z = ap (λ (a : Asked). length a.resumed) asks.1 in omega (arith, z), λ yes_is. ap (λ (a : Asked). a.resumed) asks.1)

    onward_few : (last : Bool) (waiting : List ℕ) → length (onward {W = W} {L = L} last waiting goes) ≤ 1
    onward_few false waiting = omega arith
    onward_few true (w ∷ ws) = omega arith
    onward_few true [] = omega arith

    pub poll_puts_few : length puts ≤ 2
    poll_puts_few =
        let few = asked_few _ last_now failed_now runs.asks in
        let r = resuming_few asked.failed asked.waiting few.0 few.1 in
        let o = onward_few asked.last (resumed_one asked).waiting in
        let e = ap length runs.puts_are in
        omega (arith, e, length-append (map (λ i. step_put {W = W} {L = L} i handler.Resume) (resumed_one asked).resumed) (onward asked.last (resumed_one asked).waiting goes), length-map (resumed_one asked).resumed (λ i. step_put {W = W} {L = L} i handler.Resume), r, o)

  -- ---- a wait

  module _ (desk after : Desk W) (i0 : ℕ) (puts : List (Put W L)) (stands : DeskStands x l first desk) (low : i0 < total) (runs : RunsWait desk i0 after puts) (room : after.waiting.total ≡ desk.waiting.total) where
    times_by : (there : Bool) → list_any (λ w. w == i0) desk.waiting.items ≡ there → (i : ℕ) → (times i (if there then desk.waiting.items else desk.waiting.items ++ i0 ∷ []) ≤ 1) × (total ≤ i → times i (if there then desk.waiting.items else desk.waiting.items ++ i0 ∷ []) ≡ 0)
    times_by true is i = (stands.once i, stands.below i)
    times_by false is i =
        let p = sum_by_push (λ k. bit (k == i)) desk.waiting.items i0 in
        elim (eqb_tells i0 i) [
          | inl same ↦
              let e = ap bit same.0 in
              let z = ap (λ k. times k desk.waiting.items) (sym same.1) ∙ any_false i0 desk.waiting.items is in
              let s = same.1 in
              (omega (arith, p, e, z), λ high. absurd (omega (arith, high, low, s)))
          | inr apart ↦
              let e = ap bit apart.0 in
              let o = stands.once i in
              (omega (arith, p, e, o), λ high. let b = stands.below i high in omega (arith, p, e, b))
        ]

    times_after : (i : ℕ) → (times i after.waiting.items ≤ 1) × (total ≤ i → times i after.waiting.items ≡ 0)
    times_after i = subst (λ (ws : List ℕ). (times i ws ≤ 1) × (total ≤ i → times i ws ≡ 0)) (sym runs.waiting) (times_by (list_any (λ w. w == i0) desk.waiting.items) refl i)

    pub wait_kept : DeskStands x l first after
    wait_kept = record {
      once = λ i. (times_after i).0;
      below = λ i. (times_after i).1;
      room = room ∙ stands.room;
      resting = subst (λ (o : Option (WorldLoad W)). IfSome o (WorldStands x l first)) (sym runs.resting) tt;
    }

    woken_fits : (resting : Option (WorldLoad W)) → IfSome resting (WorldStands x l first) → AllByRecursion PutFits (woken_by {W = W} {L = L} resting) × (length (woken_by {W = W} {L = L} resting) ≤ 2)
    woken_fits None is = (tt, omega arith)
    woken_fits (Some held) is = ((record { colour = omega arith; handler = omega arith; load = record { colour = refl; known = omega arith; stands = is; more = λ no_is. cc; failing = λ no_is. cc; sure = λ s. omega arith } }, tt), omega arith)

    pub wait_puts_fit : AllByRecursion PutFits puts × (length puts ≤ 2)
    wait_puts_fit = subst (λ (ps : List (Put W L)). AllByRecursion PutFits ps × (length ps ≤ 2)) (sym runs.puts_are) (woken_fits desk.resting stands.resting)
