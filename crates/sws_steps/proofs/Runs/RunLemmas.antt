-- What holds along a run of a connection, and at its end.
use Rattle.std.specs.Prelude.{IsSome, is_some, if◌then◌else◌}
use Rattle.std.proofs.Common.{inl, ◌≡◌, ◌≢◌, ◌-◌, Bool, true, false, List, [], ◌∷◌, ◌++◌, Option, Some, None, refl, sym, ap, ◌∙◌, subst, arith, append_assoc, append-nil}
use Rattle.sws_link.specs.declared.Link.{Ghosts as LinkWords}
use Rattle.sws_link.specs.Links.{LinkContents, IsInitialLink}
use Rattle.sws_link.specs.Scripts.{Script}
use Rattle.sws_parts.specs.Parts.{front_of}
use Rattle.sws_steps.specs.Protocol.{Protocol, IsOrderly}
use Rattle.sws_steps.specs.ConnCore.{ConnCoreState, ConnState, is_waiting}
use Rattle.sws_steps.specs.declared.End.{End}
use Rattle.sws_steps.specs.declared.End.TheVariants as ending
use Rattle.sws_steps.specs.declared.Next.{Next}
use Rattle.sws_steps.specs.declared.Next.TheVariants as next
use Rattle.sws_steps.specs.Step.{Steps, going_to}
use Rattle.sws_steps.specs.Sound.{core_before_open, IsSound, IsShutAtEnd, IsTold, IsReadyTo}
use Rattle.sws_steps.specs.Outcome.{Outcome, UnlessMemory}
use Rattle.sws_steps.specs.RestOutcome.{HeadsFor, HeadsForLink}
use Rattle.sws_steps.specs.declared.Handler.{Handler}
use Rattle.sws_steps.specs.declared.Handler.TheVariants as handler
use Rattle.sws_steps.specs.Path.{handler_of, event_of, path_by, known_path, rest_by, known_rest, answers_to_come, rest_of_path, TakesOff, HasNoEvents}
use Rattle.sws_steps.specs.Run.{conn_at_open, RunsBy, IsWhole, HasRun, HasEnded, EndsRun}
use Rattle.sws_steps.proofs.Steps.SoundLemmas.{step_sound, step_linked}
use Rattle.sws_steps.proofs.Steps.RestOutcomeLemmas.{heads_step, ends_as}
use Rattle.sws_steps.proofs.Steps.HallLemmas.{step_hall}
use Rattle.sws_steps.proofs.Inputs.SinceLemmas.{since-step, since-opened, SinceLink}
use Rattle.sws_steps.proofs.Inputs.ServedLemmas.{served}
use Rattle.sws_steps.proofs.Inputs.ExchangingLemmas.{ExchangedLink, exchanged-opened, exchanged-step}
use Rattle.sws_steps.proofs.Runs.ScriptedPathLemmas.{step_follows}
use Rattle.sws_steps.proofs.Runs.PathLemmas.{not_opened, opened-ready, takes-event, takes-both, path_of-open, unless-map, unless-both, end-stays, none-left}

module _ {Hall Answer L : Type 0} (p : Protocol Hall Answer) (x : LinkWords L) (hall : Hall) (first : L) where
  -- what each step keeps since the opening
  pub record Kept (conn : ConnState Hall L) : Type 0 where
    pub sound : IsSound p x conn
    pub linked : IsSome conn.link
    pub heads : (o : Outcome) → HeadsFor p (x.tells first) (going_to (core_before_open hall) next.Read) o → HeadsForLink p x conn.link conn.standing o
    pub since : SinceLink x first conn.standing conn.link
    pub exchanged : ExchangedLink x first conn.standing conn.link
    pub hall_is : conn.standing.hall ≡ hall

module _ {Hall Answer : Type 0} (p : Protocol Hall Answer) (orderly : IsOrderly p) where
  -- a connection that waits for its link
  pub unopened-sound : {L : Type 0} (x : LinkWords L) (hall : Hall) → p.IsHall hall → IsSound p x (record { standing = core_before_open hall; link = None })
  unopened-sound x hall limits = record {
    taken = [];
    sent = [];
    ready = refl;
    linked = refl;
    shut = tt;
    progress = record {
      consumed = [];
      given = [];
      taken_is = refl;
      sent_is = refl;
      count = refl;
      last = inl (record { given_is = refl; nothing = refl });
      given_first = λ more. ap (λ n. p.answers n hall more) (let whole : p.answer_limit hall ≡ p.answer_limit hall - 0 = omega arith in whole);
      closed_is = λ closes. absurd (let no : false ≡ true = closes in cc);
      read_is = refl;
      written_is = refl;
      read_few = omega arith;
      limits = limits;
      given_few = omega arith;
      texts_few = omega arith;
    };
    told = (refl, refl);
  }

  module _ {L : Type 0} (x : LinkWords L) where
    -- one more event
    runs-more : (trail : List Handler) (event : Handler) (first before after : ConnState Hall L) → RunsBy p x trail first before
        → event_of before.standing ≡ event ∷ [] → Steps p x before after → RunsBy p x (trail ++ event ∷ []) first after
    unfolding RunsBy
    runs-more [] event first before after is e steps =
        (after, subst (λ (k : ConnState Hall L). event_of k.standing ≡ event ∷ []) is e, subst (λ k. Steps p x k after) is steps, refl)
    runs-more (one ∷ trail) event first before after (between, f, step, later) e steps =
        (between, f, step, runs-more trail event between before after later e steps)

    -- what each step keeps is kept
    runs-keep : (Fact : ConnState Hall L → Type 0) → ((before after : ConnState Hall L) → Steps p x before after → Fact before → Fact after)
        → (trail : List Handler) (first last : ConnState Hall L) → RunsBy p x trail first last → Fact first → Fact last
    unfolding RunsBy
    runs-keep Fact keeps [] first last is fact = subst Fact (sym is) fact
    runs-keep Fact keeps (event ∷ trail) first last (between, e, step, later) fact =
        runs-keep Fact keeps trail between last later (keeps first between step fact)

    -- a step is one event
    event-one : (c : ConnCoreState Hall) → IsReadyTo p c.pending c → c.pending ≢ next.Nothing → (event : Handler) × (event_of c ≡ event ∷ [])
    event-one c ready goes_on = by_wait (is_waiting c)
      where
        by_pending : (pending : Next) → IsReadyTo p pending c → pending ≢ next.Nothing → (event : Handler) × (handler_of pending ≡ event ∷ [])
        by_pending next.Open ready goes_on = (handler.Open, refl)
        by_pending next.Read ready goes_on = (handler.Read, refl)
        by_pending next.Parse ready goes_on = (handler.Parse, refl)
        by_pending next.Look ready goes_on = (handler.Look, refl)
        by_pending next.Write ready goes_on = (handler.Write, refl)
        by_pending next.Wait ready goes_on = absurd ready
        by_pending next.Close ready goes_on = (handler.Close, refl)
        by_pending next.Nothing ready goes_on = absurd (goes_on refl)

        by_wait : (waiting : Bool) → (event : Handler) × ((if waiting then handler.Resume ∷ [] else handler_of c.pending) ≡ event ∷ [])
        by_wait true = (handler.Resume, refl)
        by_wait false = by_pending c.pending ready goes_on

    -- ---- the path

    -- the events so far were taken off the path, unless memory ran out
    abbrev RunsOff : Option (List Handler) → List Handler → ConnState Hall L → Type 0
    RunsOff path front conn = UnlessMemory conn.standing.end (TakesOff front path (known_rest p x conn))

    off-step : (path : Option (List Handler)) (front : List Handler) (before after : ConnState Hall L) → IsSound p x before → Steps p x before after
        → RunsOff path front before → RunsOff path (front ++ event_of before.standing) after
    off-step path front before after sound steps off =
        unless-both before.standing.end after.standing.end
        (TakesOff front path (known_rest p x before))
        (TakesOff (event_of before.standing) (known_rest p x before) (known_rest p x after))
        (TakesOff (front ++ event_of before.standing) path (known_rest p x after))
        (end-stays p orderly x before.standing after.standing before.link after.link ending.Memory sound.ready steps)
        (takes-both front (event_of before.standing) path (known_rest p x before) (known_rest p x after))
        off (takes-event p orderly x before after sound steps (step_follows p x before after sound.linked steps))

    off-run : (path : Option (List Handler)) (trail front : List Handler) (first last : ConnState Hall L) → RunsBy p x trail first last → IsSound p x first
        → RunsOff path front first → RunsOff path (front ++ trail) last
    unfolding RunsBy
    off-run path [] front first last is sound off =
        subst (λ f. RunsOff path f last) (sym (append-nil front)) (subst (RunsOff path front) (sym is) off)
    off-run path (event ∷ trail) front first last (between, e, step, later) sound off =
        subst (λ f. RunsOff path f last) (append_assoc front (event ∷ []) trail)
        (off-run path trail (front ++ event ∷ []) between last later
        (step_sound p orderly x first.standing between.standing first.link between.link sound step)
        (subst (λ f. RunsOff path (front ++ f) between) e (off-step path front first between sound step off)))

    module _ (hall : Hall) (first : L) where
      -- ---- the opened connection

      pub opened-sound : p.IsHall hall → IsInitialLink (x.tells first) → x.is_shut first ≡ false → IsSound p x (conn_at_open hall first)
      opened-sound limits initial not_shut = record {
        taken = [];
        sent = [];
        ready = opened-ready p orderly hall;
        linked = refl;
        shut = not_shut;
        progress = record {
          consumed = [];
          given = [];
          taken_is = refl;
          sent_is = refl;
          count = refl;
          last = inl (record { given_is = refl; nothing = refl });
          given_first = λ more. ap (λ n. p.answers n hall more) (let whole : p.answer_limit hall ≡ p.answer_limit hall - 0 = omega arith in whole);
          closed_is = λ closes. absurd (let no : false ≡ true = closes in cc);
          read_is = refl;
          written_is = refl;
          read_few = omega arith;
          limits = limits;
          given_few = omega arith;
          texts_few = omega arith;
        };
        told = by_tells (x.tells first) initial;
      }
        where
          by_tells : (tells : Option LinkContents) → IsInitialLink tells → IsTold (going_to (core_before_open hall) next.Read) tells [] []
          by_tells None initial = tt
          by_tells (Some tells) initial = (
            initial.0,
            record { front = []; is = initial.1; prefix = (front_of (core_before_open hall).parts, refl); none = λ u. refl },
            λ ended. absurd (let no : false ≡ true = ended in cc),
          )

      -- a connection that got its link is one that was just opened
      pub opens-sound : (before : ConnState Hall L) → before.standing.hall ≡ hall → IsSound p x before → false ≡ is_some before.link
          → IsInitialLink (x.tells first) → x.is_shut first ≡ false
          → IsSound p x (record { standing = going_to before.standing next.Read; link = Some first })
      opens-sound before same sound none initial not_shut =
          let limits : p.IsHall hall = subst p.IsHall same sound.progress.limits in
          let is : before.standing ≡ core_before_open hall =
          not_opened p orderly before.standing before.link sound.ready sound.linked none ∙ ap core_before_open same in
          subst (λ (c : ConnCoreState Hall). IsSound p x (record { standing = going_to c next.Read; link = Some first })) (sym is) (opened-sound limits initial not_shut)

      opened-off : RunsOff (known_path p hall (x.tells first)) (handler.Open ∷ []) (conn_at_open hall first)
      opened-off = by_script (answers_to_come (x.tells first))
        where
          by_script : (script : Option Script) → TakesOff (handler.Open ∷ []) (path_by p hall script) (rest_by p (going_to (core_before_open hall) next.Read) script)
          by_script None = refl
          by_script (Some script) = (rest_of_path p (going_to (core_before_open hall) next.Read) script, refl, path_of-open p orderly hall script)

      -- ---- at every moment

      pub run-sound : (trail : List Handler) (conn : ConnState Hall L) → HasRun p x hall first trail conn → IsSound p x conn
      run-sound trail conn run =
          runs-keep (IsSound p x) (λ before after steps sound. step_sound p orderly x before.standing after.standing before.link after.link sound steps)
          trail (conn_at_open hall first) conn run.runs (opened-sound run.limits run.initial run.not_shut)

      pub run-path : (trail : List Handler) (conn : ConnState Hall L) → HasRun p x hall first trail conn
          → UnlessMemory conn.standing.end (TakesOff (handler.Open ∷ trail) (known_path p hall (x.tells first)) (known_rest p x conn))
      run-path trail conn run =
          off-run (known_path p hall (x.tells first)) trail (handler.Open ∷ []) (conn_at_open hall first) conn run.runs (opened-sound run.limits run.initial run.not_shut) opened-off

      pub run-start : p.IsHall hall → IsInitialLink (x.tells first) → x.is_shut first ≡ false → HasRun p x hall first [] (conn_at_open hall first)
      unfolding RunsBy
      run-start limits initial not_shut = record { limits = limits; initial = initial; not_shut = not_shut; runs = refl }

      pub run-on : (trail : List Handler) (event : Handler) (before after : ConnState Hall L) → HasRun p x hall first trail before
          → event_of before.standing ≡ event ∷ [] → Steps p x before after → HasRun p x hall first (trail ++ event ∷ []) after
      run-on trail event before after run e steps =
          record { limits = run.limits; initial = run.initial; not_shut = run.not_shut; runs = runs-more trail event (conn_at_open hall first) before after run.runs e steps }

      -- ---- at the end

      pub keeps : (before after : ConnState Hall L) → Steps p x before after → Kept p x hall first before → Kept p x hall first after
      keeps before after steps kept = record {
        sound = step_sound p orderly x before.standing after.standing before.link after.link kept.sound steps;
        linked = step_linked p orderly x before.standing after.standing before.link after.link kept.linked steps;
        heads = λ o h. heads_step p orderly x before.standing after.standing before.link after.link o kept.sound.ready steps (kept.heads o h);
        since = since-step p x first before.standing after.standing before.link after.link kept.sound.ready steps kept.since;
        exchanged = exchanged-step p x first before.standing after.standing before.link after.link steps kept.exchanged;
        hall_is = step_hall p x before.standing after.standing before.link after.link steps ∙ kept.hall_is;
      }

      pub opened-kept : p.IsHall hall → IsInitialLink (x.tells first) → x.is_shut first ≡ false → Kept p x hall first (conn_at_open hall first)
      opened-kept limits initial not_shut = record {
        sound = opened-sound limits initial not_shut;
        linked = refl;
        heads = λ o h. h;
        since = since-opened x first (going_to (core_before_open hall) next.Read) refl refl;
        exchanged = exchanged-opened x first (going_to (core_before_open hall) next.Read) refl refl;
        hall_is = refl;
      }

      pub run-kept : (trail : List Handler) (conn : ConnState Hall L) → HasRun p x hall first trail conn → Kept p x hall first conn
      run-kept trail conn run = runs-keep (Kept p x hall first) keeps trail (conn_at_open hall first) conn run.runs (opened-kept run.limits run.initial run.not_shut)

      pub run-ends : (trail : List Handler) (conn : ConnState Hall L) (now : L) (end : End) → HasRun p x hall first trail conn
          → conn.standing.pending ≡ next.Nothing → conn.link ≡ Some now → conn.standing.end ≡ Some end → EndsRun p x hall first trail now end
      run-ends trail conn now end run pending link_is end_is =
          let kept = run-kept trail conn run in
          let facts = served p orderly x hall first now conn end kept.hall_is pending end_is link_is kept.sound kept.since in
          record {
            serves = facts.0;
            outcome = ends_as p orderly hall (x.tells first) (x.tells now) conn.standing end run.initial end_is
                (λ o h. subst (λ l. HeadsForLink p x l conn.standing o) link_is (kept.heads o h));
            path = subst (λ e. UnlessMemory e (IsWhole (handler.Open ∷ trail) (known_path p hall (x.tells first)))) end_is
                (unless-map conn.standing.end
                (TakesOff (handler.Open ∷ trail) (known_path p hall (x.tells first)) (known_rest p x conn))
                (IsWhole (handler.Open ∷ trail) (known_path p hall (x.tells first)))
                (whole (known_path p hall (x.tells first)))
                (run-path trail conn run));
            shut = subst (λ l. IsShutAtEnd x next.Nothing l) link_is (subst (λ stage. IsShutAtEnd x stage conn.link) pending kept.sound.shut);
            fault = facts.1;
            idle = facts.2;
          }
        where
          whole : (path : Option (List Handler)) → TakesOff (handler.Open ∷ trail) path (known_rest p x conn) → IsWhole (handler.Open ∷ trail) path
          whole None takes = tt
          whole (Some path) (left, is, split) =
              let none : left ≡ [] = subst HasNoEvents is (none-left p orderly x conn (run-sound trail conn run) pending) in
              sym (split ∙ ap (λ l. (handler.Open ∷ trail) ++ l) none ∙ append-nil (handler.Open ∷ trail))

      -- the same of a run that has ended
      ended-ends : (now : L) (end : End) (ended : HasEnded p x hall first now end) → EndsRun p x hall first ended.trail now end
      ended-ends now end ended = run-ends ended.trail ended.conn now end ended.run ended.closed ended.link_is ended.end_is

      -- one step more, while the connection isn't closed
      pub ran-on : (before after : ConnState Hall L) → (trail : List Handler) × HasRun p x hall first trail before → before.standing.pending ≢ next.Nothing
          → Steps p x before after → (trail : List Handler) × HasRun p x hall first trail after
      ran-on before after (trail, run) goes_on steps =
          let event = event-one before.standing (run-sound trail before run).ready goes_on in
          (trail ++ event.0 ∷ [], run-on trail event.0 before after run event.1 steps)
