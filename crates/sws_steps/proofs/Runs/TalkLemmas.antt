-- A connection is a talk over a site: the laws.
use Rattle.std.specs.Prelude.{IsTrue, IsSome, IfOk, Result, option_map, if◌then◌else◌}
use Rattle.std.proofs.Common.{inl, inr, ◌⊎◌, ◌≡◌, ℕ, Bool, true, false, List, [], ◌∷◌, ◌++◌, length, Option, Some, None, refl, sym, ap, ◌∙◌, subst, arith, append-nil}
use Rattle.sws_link.specs.declared.Link.{Ghosts as LinkWords}
use Rattle.sws_link.specs.Contents.{IsPrefix}
use Rattle.sws_link.specs.Exchanges.{written_in}
use Rattle.sws_link.specs.Links.{LinkContents, input_of, IsInitialLink}
use Rattle.sws_link.proofs.ExchangeLemmas.{exchanges-written, exchanges-says}
use Rattle.sws_link.specs.Scripts.{Script}
use Rattle.sws_steps.specs.Protocol.{Protocol, IsOrderly}
use Rattle.sws_steps.specs.declared.End.{End}
use Rattle.sws_steps.specs.declared.End.TheVariants as ending
use Rattle.sws_steps.specs.declared.Next.{Next}
use Rattle.sws_steps.specs.declared.Next.TheVariants as next
use Rattle.sws_steps.specs.ConnCore.{ConnCoreState, ConnState, reported_by, end_at, is_waiting}
use Rattle.sws_steps.specs.Step.{Steps, Opens, OpensAt, going_to}
use Rattle.sws_steps.specs.Sound.{core_before_open, IsSound, IsReadyTo, IsEnded, IsTold}
use Rattle.sws_steps.specs.Outcome.{outcome_of, UnlessMemory}
use Rattle.sws_steps.specs.declared.Handler.{Handler}
use Rattle.sws_steps.specs.declared.Handler.TheVariants as handler
use Rattle.sws_steps.specs.Path.{due_after, handler_of, event_of, path_of, path_by, known_path, rest_by, known_rest, rest_of_path, answers_to_come, told_by_link, TakesOff, HasNoEvents, scripted_step}
use Rattle.sws_steps.specs.Run.{HasRun, RunsBy}
use Rattle.sws_steps.specs.RestOutcome.{HeadsForLink}
use Rattle.sws_steps.specs.Serving.{EndsAs, EndsByScript, RoseBy}
use Rattle.sws_steps.specs.Talks.{TalkView, unopened_view, opened_view, OpensTalk, OpensBy, due, Consumes, ServesTold, ComesTo, HasServed, ServesNow, path_to_come, BeginsWith, IsDue}
use Rattle.sws_steps.specs.Talks.{talk_view, HasRunOpen}
use Rattle.sws_steps.proofs.Steps.HallLemmas.{step_hall}
use Rattle.sws_steps.proofs.Inputs.SinceLemmas.{Since, SinceLink, SameInput}
use Rattle.sws_steps.proofs.Inputs.ExchangingLemmas.{Exchanged, ExchangedLink}
use Rattle.sws_steps.proofs.Inputs.ServedLemmas.{written-first, written-whole, consumed-first}
use Rattle.sws_steps.proofs.Runs.PathLemmas.{rest-step, none-left}
use Rattle.sws_steps.proofs.Steps.RestOutcomeLemmas.{ends_as}
use Rattle.sws_steps.proofs.Runs.RunLemmas.{Kept, run-kept, run-sound, run-path, run-on}

-- it is the event of the step that is pending, if one is
abbrev DueBy : Bool → Next → Type 0
DueBy waiting pending = ((event : Handler) × (due_after (reported_by waiting pending) ≡ Some event)
    × ((if waiting then handler.Resume ∷ [] else handler_of pending) ≡ event ∷ []))
    ⊎ ((due_after (reported_by waiting pending) ≡ None) × (pending ≡ next.Nothing))

-- no line is given before the first answer
pub unopened-view : {Hall Answer : Type 0} (p : Protocol Hall Answer) (hall : Hall) → talk_view p (core_before_open hall) ≡ unopened_view
unopened-view p hall = by_logs p.logs
  where
    by_logs : (logs : Bool) → record unopened_view { lines = if logs then 0 else 0 } ≡ unopened_view
    by_logs true = refl
    by_logs false = refl

pub opened-view : {Hall Answer : Type 0} (p : Protocol Hall Answer) (hall : Hall) → talk_view p (going_to (core_before_open hall) next.Read) ≡ opened_view
opened-view p hall = ap (λ (view : TalkView). record view { pending = next.Read }) (unopened-view p hall)

-- an end that is told is known
end-known : (pending : Next) (known : Option End) (end : End) → end_at pending known ≡ Some end → known ≡ Some end
end-known next.Nothing known end e = e
end-known next.Open known end e = cc
end-known next.Read known end e = cc
end-known next.Parse known end e = cc
end-known next.Look known end e = cc
end-known next.Write known end e = cc
end-known next.Wait known end e = cc
end-known next.Close known end e = cc

module _ {Hall Answer : Type 0} (p : Protocol Hall Answer) (orderly : IsOrderly p) where
  -- ---- the event that is due

  due-cases : (c : ConnCoreState Hall) → IsReadyTo p c.pending c → DueBy (is_waiting c) c.pending
  due-cases c ready = by_waiting (is_waiting c)
    where
      by_pending : (pending : Next) → IsReadyTo p pending c → DueBy false pending
      by_pending next.Open ready = inl (handler.Open, refl, refl)
      by_pending next.Read ready = inl (handler.Read, refl, refl)
      by_pending next.Parse ready = inl (handler.Parse, refl, refl)
      by_pending next.Look ready = inl (handler.Look, refl, refl)
      by_pending next.Write ready = inl (handler.Write, refl, refl)
      by_pending next.Wait ready = absurd ready
      by_pending next.Close ready = inl (handler.Close, refl, refl)
      by_pending next.Nothing ready = inr (refl, refl)

      by_waiting : (waiting : Bool) → DueBy waiting c.pending
      by_waiting true = inl (handler.Resume, refl, refl)
      by_waiting false = by_pending c.pending ready

  pub due-event : (c : ConnCoreState Hall) (event : Handler) → IsReadyTo p c.pending c → due (talk_view p c) ≡ Some event → event_of c ≡ event ∷ []
  due-event c event ready e = by_cases (due-cases c ready)
    where
      by_cases : DueBy (is_waiting c) c.pending → event_of c ≡ event ∷ []
      by_cases (inl (one, is, event_is)) = event_is ∙ ap (λ (h : Handler). h ∷ []) (let same : Some one ≡ Some event = sym is ∙ e in cc)
      by_cases (inr (none, closed)) = let no : None ≡ Some event = sym none ∙ e in cc

  -- ---- the end

  -- where the end is known it stands as it must
  ended-at : (c : ConnCoreState Hall) (end : End) → IsReadyTo p c.pending c → c.end ≡ Some end → IsEnded p c
  ended-at c end ready is = by_pending c.pending ready
    where
      no : c.end ≡ None → ⊥
      no none = let same : None ≡ Some end = sym none ∙ is in cc

      by_pending : (pending : Next) → IsReadyTo p pending c → IsEnded p c
      by_pending next.Open ready = absurd (no (ap (λ (d : ConnCoreState Hall). d.end) ready))
      by_pending next.Read ready = absurd (no ready.between.no_end)
      by_pending next.Parse ready = absurd (no ready.between.no_end)
      by_pending next.Look ready = absurd (no ready.between.no_end)
      by_pending next.Write ready = absurd (no ready.no_end)
      by_pending next.Wait ready = absurd ready
      by_pending next.Close ready = ready
      by_pending next.Nothing ready = ready

  module _ {L : Type 0} (x : LinkWords L) where
    -- ---- to open it

    pub opens-talk : (before after : ConnState Hall L) (link : L) (answer : Result Next L) → Opens before link answer after
        → IfOk answer (λ _. HasRun p x before.standing.hall link [] after)
        → OpensTalk (λ (conn : ConnState Hall L). conn.link) (λ conn. talk_view p conn.standing) before link answer after
    unfolding RunsBy
    opens-talk before after link answer opens run = by_link before.link opens
      where
        by_link : (there : Option L) → OpensAt there before link answer after
            → OpensBy (λ (conn : ConnState Hall L). conn.link) (λ conn. talk_view p conn.standing) there before link answer after
        by_link None (answer_is, after_is) =
            let has_run : HasRun p x before.standing.hall link [] after =
            subst (λ a. IfOk a (λ _. HasRun p x before.standing.hall link [] after)) answer_is run in
            (answer_is, ap (λ (conn : ConnState Hall L). conn.link) after_is, ap (λ (conn : ConnState Hall L). talk_view p conn.standing) has_run.runs ∙ opened-view p before.standing.hall)
        by_link (Some there) kept = kept

    -- ---- a step

    pub open-run-on : (first : L) (trail : List Handler) (event : Handler) (before after : ConnState Hall L) → HasRunOpen p x first trail before
        → due (talk_view p before.standing) ≡ Some event → Steps p x before after → HasRunOpen p x first (trail ++ event ∷ []) after
    open-run-on first trail event before after (later, trail_is, run) e steps =
        let hall = before.standing.hall in
        let sound = run-sound p orderly x hall first later before run in (
          later ++ event ∷ [],
          ap (λ t. t ++ event ∷ []) trail_is,
          subst (λ s. HasRun p x s first (later ++ event ∷ []) after)
              (sym (step_hall p x before.standing after.standing before.link after.link steps))
              (run-on p orderly x hall first later event before after run (due-event before.standing event sound.ready e) steps),
        )

    -- ---- what the link was served

    serves-link : (hall : Hall) (first now : L) (c : ConnCoreState Hall) → c.hall ≡ hall → IsSound p x (record { standing = c; link = Some now }) → Since x first c now
        → IsInitialLink (x.tells first) → Exchanged x first c now → ServesTold (p.responses_of hall) (x.tells first) (x.tells now) (talk_view p c)
    unfolding SameInput
    serves-link hall first now c same sound since initial exchanged = by_tells (x.tells first) (x.tells now) refl refl initial since.input sound.told
      where
        by_tells : (before after : Option LinkContents) → x.tells first ≡ before → x.tells now ≡ after → IsInitialLink before → SameInput before after
            → IsTold c after sound.taken sound.sent → ServesTold (p.responses_of hall) before after (talk_view p c)
        by_tells None after before_is after_is initial input told = input
        by_tells (Some before) after before_is after_is initial (tells, is, input) told =
            let says : IsTold c (Some tells) sound.taken sound.sent = subst (λ o. IsTold c o sound.taken sound.sent) is told in (
              tells,
              is,
              record {
                input = input;
                consumes = subst (λ s. Consumes (p.responses_of s) tells) same (record {
                  consumed = sound.progress.consumed;
                  buffer = c.buffer;
                  taken_is = says.0 ∙ sound.progress.taken_is;
                  begins = consumed-first p orderly c tells sound.taken sound.sent sound.progress says;
                });
                begins = subst (λ s. IsPrefix tells.written (p.responses_of s tells.taken)) same (written-first p orderly c tells sound.taken sound.sent sound.progress says);
                whole = λ done.
                    written-whole p orderly c tells sound.taken sound.sent sound.progress says done ((ended-at c ending.Done sound.ready done).done done)
                    ∙ ap (λ s. p.responses_of s (input_of tells)) same ∙ ap (p.responses_of hall) input;
                read = sound.progress.read_is ∙ ap length (sym says.0);
                written = λ sure. elim sure [
                  | inl uncut ↦ sound.progress.written_is ∙ ap length (sent-all says.1.front says.1.is (says.1.none uncut))
                  | inr all ↦ exchanged.written ∙ said before.says_all refl all
                ];
              },
            )
          where
            -- the calls count what was written, where the link says all
            said : (first_says : Bool) → first_says ≡ before.says_all → IsTrue tells.says_all → written_in exchanged.calls ≡ length tells.written
            said true e all =
                let counted = exchanges-written x.tells x.is_shut x.faults x.waits exchanged.calls first now exchanged.leads before before_is (sym e) tells (after_is ∙ is) in
                let none : length before.written ≡ 0 = ap length initial.1 in
                (let same : written_in exchanged.calls ≡ length tells.written = omega (arith, counted, none) in same)
            said false e all =
                let kept = exchanges-says x.tells x.is_shut x.faults x.waits exchanged.calls first now exchanged.leads before before_is tells (after_is ∙ is) in
                absurd (let no : false ≡ true = e ∙ sym kept ∙ all in cc)

            sent-all : (front : List ℕ) → tells.written ≡ sound.sent ++ front → front ≡ [] → sound.sent ≡ tells.written
            sent-all front is none = sym (is ∙ ap (λ f. sound.sent ++ f) none ∙ append-nil sound.sent)

    comes-to : (hall : Hall) (before now : Option LinkContents) (end : End) → EndsAs p hall before now end
        → ComesTo (option_map (outcome_of p hall) (answers_to_come before)) now end
    comes-to hall None now end ends = tt
    comes-to hall (Some before) now end ends = by_script before.to_come ends
      where
        by_script : (to_come : Option Script) → EndsByScript p hall to_come now end → ComesTo (option_map (outcome_of p hall) to_come) now end
        by_script None ends = tt
        by_script (Some script) ends = ends

    run-serves : (hall : Hall) (first : L) (trail : List Handler) (conn : ConnState Hall L) → HasRun p x hall first trail conn
        → ServesNow (HasServed x (p.responses_of hall) (outcome_of p hall) first) conn.link (talk_view p conn.standing)
    unfolding SinceLink ExchangedLink
    run-serves hall first trail conn run = by_link conn.link kept.linked kept.since kept.exchanged refl
      where
        kept : Kept p x hall first conn
        kept = run-kept p orderly x hall first trail conn run

        c : ConnCoreState Hall
        c = conn.standing

        by_link : (link : Option L) → IsSome link → SinceLink x first c link → ExchangedLink x first c link → link ≡ conn.link
            → ServesNow (HasServed x (p.responses_of hall) (outcome_of p hall) first) link (talk_view p c)
        by_link None linked since exchanged is = absurd (let no : false ≡ true = linked in cc)
        by_link (Some now) linked since exchanged is =
            let sound : IsSound p x (record { standing = c; link = Some now }) =
            subst (λ l. IsSound p x (record { standing = c; link = l })) (sym is) kept.sound in
            record {
              told = serves-link hall first now c kept.hall_is sound since run.initial exchanged;
              shut = sound.shut;
              faults = since.faults;
              waits = since.waits;
              fault = since.failed;
              idle = λ idle. subst (λ n. RoseBy n (x.waits first) (x.waits now)) ((ended-at c ending.Idle sound.ready idle).idle idle) since.waited;
              exchange = record { calls = exchanged.calls; leads = exchanged.leads; read = exchanged.read; written = exchanged.written };
              outcome_is = λ end e.
                  comes-to hall (x.tells first) (x.tells now) end (ends_as p orderly hall (x.tells first) (x.tells now) c end run.initial (end-known c.pending c.end end e)
                  (λ o h. subst (λ l. HeadsForLink p x l c o) (sym is) (kept.heads o h)));
            }

    pub open-run-serves : (first : L) (trail : List Handler) (conn : ConnState Hall L) → HasRunOpen p x first trail conn
        → ServesNow (HasServed x (p.responses_of conn.standing.hall) (outcome_of p conn.standing.hall) first) conn.link (talk_view p conn.standing)
    open-run-serves first trail conn (later, trail_is, run) = run-serves conn.standing.hall first later conn run

    -- ---- the path

    path-same : (hall : Hall) (tells : Option LinkContents) → known_path p hall tells ≡ path_to_come (path_of p hall) tells
    path-same hall tells = by_script (answers_to_come tells)
      where
        by_script : (script : Option Script) → path_by p hall script ≡ option_map (path_of p hall) script
        by_script None = refl
        by_script (Some script) = refl

    pub open-run-path : (first : L) (trail : List Handler) (conn : ConnState Hall L) → HasRunOpen p x first trail conn
        → UnlessMemory conn.standing.end (TakesOff trail (path_to_come (path_of p conn.standing.hall) (x.tells first)) (known_rest p x conn))
    open-run-path first trail conn (later, trail_is, run) =
        let hall = conn.standing.hall in
        let Off : List Handler → Option (List Handler) → Type 0 = (λ t stage. UnlessMemory conn.standing.end (TakesOff t stage (known_rest p x conn))) in
        subst (λ t. Off t (path_to_come (path_of p hall) (x.tells first))) (sym trail_is)
        (subst (Off (handler.Open ∷ later)) (path-same hall (x.tells first)) (run-path p orderly x hall first later conn run))

    pub open-run-due : (first : L) (trail : List Handler) (conn : ConnState Hall L) → HasRunOpen p x first trail conn
        → IsDue (due (talk_view p conn.standing)) (known_rest p x conn)
    open-run-due first trail conn (later, trail_is, run) = by_script (answers_to_come (told_by_link x conn.link)) refl
      where
        c : ConnCoreState Hall
        c = conn.standing

        sound : IsSound p x conn
        sound = run-sound p orderly x c.hall first later conn run

        by_script : (script : Option Script) → script ≡ answers_to_come (told_by_link x conn.link) → IsDue (due (talk_view p c)) (rest_by p c script)
        by_script None is = tt
        by_script (Some script) is = by_cases (due-cases c sound.ready)
          where
            by_cases : DueBy (is_waiting c) c.pending → BeginsWith (due (talk_view p c)) (rest_of_path p c script)
            by_cases (inl (event, due_is, event_is)) =
                let after = scripted_step p (record { standing = c; script = script }) in
                subst (λ d. BeginsWith d (rest_of_path p c script)) (sym due_is) (
                  rest_of_path p after.standing after.script,
                  rest-step p orderly (record { standing = c; script = script }) sound.progress.limits sound.ready
                      ∙ ap (λ front. front ++ rest_of_path p after.standing after.script) event_is,
                )
            by_cases (inr (due_is, closed)) =
                subst (λ d. BeginsWith d (rest_of_path p c script)) (sym due_is)
                (subst (λ s. HasNoEvents (rest_by p c s)) (sym is) (none-left p orderly x conn sound closed))
