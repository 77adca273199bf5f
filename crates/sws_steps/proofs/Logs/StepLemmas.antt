-- The steps of a scripted connection: their handlers are its path, and a run takes them off one by one.
use Rattle.std.specs.Prelude.{◌&&◌}
use Rattle.std.proofs.Common.{inl, inr, ◌⊎◌, ◌≡◌, Bool, true, false, List, [], ◌∷◌, ◌++◌, map, Option, Some, None, refl, sym, ap, ◌∙◌, subst, append_assoc, append-nil}
use Rattle.std.proofs.lemmas.List.{map-append}
use Rattle.sws_link.specs.declared.Link.{Ghosts as LinkWords}
use Rattle.sws_link.specs.Links.{LinkContents}
use Rattle.sws_link.specs.Scripts.{Script}
use Rattle.sws_steps.specs.Protocol.{Protocol, IsOrderly}
use Rattle.sws_steps.specs.ConnCore.{ConnCoreState, ConnState, is_sent}
use Rattle.sws_steps.specs.declared.End.{End}
use Rattle.sws_steps.specs.declared.End.TheVariants as ending
use Rattle.sws_steps.specs.declared.Next.TheVariants as next
use Rattle.sws_steps.specs.Step.{Steps, going_to}
use Rattle.sws_steps.specs.Sound.{core_before_open, IsSound, IsReadyTo}
use Rattle.sws_steps.specs.Outcome.{UnlessMemory}
use Rattle.sws_steps.specs.declared.Handler.{Handler}
use Rattle.sws_steps.specs.declared.Handler.TheVariants as handler
use Rattle.sws_steps.specs.Path.{event_of, Scripted, scripted_step, rest_of_path, rest_by, answers_to_come, told_by_link, Follows, FollowsBy, FollowsTold}
use Rattle.sws_steps.specs.Logs.{gives_line, Step, last_line, step_by, steps_along, steps_of}
use Rattle.sws_steps.specs.Run.{conn_at_open, RunsBy}
use Rattle.sws_steps.specs.Talks.{due, talk_view, HasRunOpen, IsDue, BeginsWith, StepsOf, StepsBy, StepsServed}
use Rattle.sws_steps.specs.Told.{TalkState, HasRunTold, JustOpened, JustStepped}
use Rattle.sws_steps.specs.LogLaws.{steps_along-handlers}
use Rattle.sws_steps.proofs.Steps.HallLemmas.{step_hall}
use Rattle.sws_steps.proofs.Steps.SoundLemmas.{step_sound}
use Rattle.sws_steps.proofs.Runs.ScriptedPathLemmas.{step_follows}
use Rattle.sws_steps.proofs.Runs.PathLemmas.{rest-step, path_of-open, unless, unless-map, end-stays}
use Rattle.sws_steps.proofs.Runs.RunLemmas.{run-sound, opened-sound}
use Rattle.sws_steps.proofs.Runs.TalkLemmas.{open-run-due}

last_line-snoc : (ran : List Step) (step : Step) → last_line (ran ++ step ∷ []) ≡ step.line
last_line-snoc [] step = refl
last_line-snoc (first ∷ []) step = refl
last_line-snoc (first ∷ next ∷ later) step = last_line-snoc (next ∷ later) step

-- a fact, and then one that follows from it
unless-then : (before after : Option End) (Fact Next : Type 0) → (before ≡ Some ending.Memory → after ≡ Some ending.Memory)
    → (Fact → UnlessMemory after Next) → UnlessMemory before Fact → UnlessMemory after Next
unless-then None after Fact Next stays to fact = to fact
unless-then (Some ending.Done) after Fact Next stays to fact = to fact
unless-then (Some ending.Idle) after Fact Next stays to fact = to fact
unless-then (Some ending.Fault) after Fact Next stays to fact = to fact
unless-then (Some ending.Memory) after Fact Next stays to fact = subst (λ e. UnlessMemory e Next) (sym (stays refl)) tt

module _ {Hall Answer : Type 0} (p : Protocol Hall Answer) where
  -- the steps that are left
  abbrev rest_steps : Scripted Hall → List Step
  rest_steps c = steps_along p c (rest_of_path p c.standing c.script)

  -- opening gives no line
  opening-line : (c d : ConnCoreState Hall) → c.pending ≡ next.Open → gives_line p c d ≡ false
  opening-line c d e = ap (λ stage. gives_line p (record c { pending = stage }) d) e ∙ by_logs p.logs
    where
      by_logs : (logs : Bool) → (logs && false && is_sent d.parts) ≡ false
      by_logs true = refl
      by_logs false = refl

module _ {Hall Answer : Type 0} (p : Protocol Hall Answer) (orderly : IsOrderly p) where
  rest_steps-step : (c : Scripted Hall) (event : Handler) → p.IsHall c.standing.hall → IsReadyTo p c.standing.pending c.standing → event_of c.standing ≡ event ∷ []
      → rest_steps p c ≡ step_by p c event ∷ rest_steps p (scripted_step p c)
  unfolding steps_along
  rest_steps-step c event limits ready e =
      let later = rest_of_path p (scripted_step p c).standing (scripted_step p c).script in
      ap (steps_along p c) (rest-step p orderly c limits ready ∙ ap (λ front. front ++ later) e)

  steps_of-open : (hall : Hall) (script : Script)
      → steps_of p hall script
      ≡ step_by p (record { standing = core_before_open hall; script = script }) handler.Open ∷ rest_steps p (record { standing = going_to (core_before_open hall) next.Read; script = script })
  unfolding steps_along
  steps_of-open hall script = ap (steps_along p (record { standing = core_before_open hall; script = script })) (path_of-open p orderly hall script)

  module _ {L : Type 0} (x : LinkWords L) where
    -- the steps that were done come first, whose events these are, and the last of them gave a line where that is told
    record Stepped (all : List Step) (trail : List Handler) (told : Bool) (conn : ConnState Hall L) : Type 0 where
      script : Script
      tells_is : answers_to_come (told_by_link x conn.link) ≡ Some script
      ran : List Step
      all_is : all ≡ ran ++ rest_steps p (record { standing = conn.standing; script = script })
      trail_is : map (λ (step : Step). step.handler) ran ≡ trail
      told_is : told ≡ last_line ran

    -- the step is the one of the scripted connection
    follows-at : (c d : ConnCoreState Hall) (told now : Option LinkContents) (script : Script) → answers_to_come told ≡ Some script → FollowsTold p told c d now
        → UnlessMemory d.end (Follows (scripted_step p (record { standing = c; script = script })) d now)
    follows-at c d None now script e follows = absurd (let no : None ≡ Some script = e in cc)
    follows-at c d (Some tells) now script e follows = subst (λ o. FollowsBy p o c d now) e follows

    stepped-on : (all : List Step) (trail : List Handler) (told : Bool) (event : Handler) (before after : ConnState Hall L) → IsSound p x before
        → event_of before.standing ≡ event ∷ [] → Steps p x before after
        → Stepped all trail told before
        → UnlessMemory after.standing.end (Stepped all (trail ++ event ∷ []) (gives_line p before.standing after.standing) after)
    stepped-on all trail told event before after sound e steps s =
        unless-map after.standing.end (Follows next after.standing (told_by_link x after.link))
        (Stepped all (trail ++ event ∷ []) (gives_line p before.standing after.standing) after) to
        (follows-at before.standing after.standing (told_by_link x before.link) (told_by_link x after.link) s.script s.tells_is
        (step_follows p x before after sound.linked steps))
      where
        here : Scripted Hall
        here = record { standing = before.standing; script = s.script }

        next : Scripted Hall
        next = scripted_step p here

        step : Step
        step = step_by p here event

        to : Follows next after.standing (told_by_link x after.link) → Stepped all (trail ++ event ∷ []) (gives_line p before.standing after.standing) after
        to follows = record {
          script = next.script;
          tells_is = ap answers_to_come follows.is ∙ follows.to_come;
          ran = s.ran ++ step ∷ [];
          all_is = s.all_is ∙ ap (λ rest. s.ran ++ rest) (rest_steps-step here event sound.progress.limits sound.ready e)
              ∙ sym (append_assoc s.ran (step ∷ []) (rest_steps p next))
              ∙ ap (λ standing. (s.ran ++ step ∷ []) ++ rest_steps p (record { standing = standing; script = next.script })) (sym follows.standing);
          trail_is = map-append (λ (step : Step). step.handler) s.ran (step ∷ []) ∙ ap (λ t. t ++ event ∷ []) s.trail_is;
          told_is = ap (gives_line p before.standing) follows.standing ∙ sym (last_line-snoc s.ran step);
        }

    -- along a run
    Ran : List Step → List Handler → ConnState Hall L → Type 0
    Ran all trail conn = UnlessMemory conn.standing.end ((told : Bool) × Stepped all trail told conn)

    ran-step : (all : List Step) (trail : List Handler) (event : Handler) (before after : ConnState Hall L) → IsSound p x before
        → event_of before.standing ≡ event ∷ [] → Steps p x before after → Ran all trail before
        → UnlessMemory after.standing.end (Stepped all (trail ++ event ∷ []) (gives_line p before.standing after.standing) after)
    unfolding Ran
    ran-step all trail event before after sound e steps ran =
        unless-then before.standing.end after.standing.end ((told : Bool) × Stepped all trail told before)
        (Stepped all (trail ++ event ∷ []) (gives_line p before.standing after.standing) after)
        (end-stays p orderly x before.standing after.standing before.link after.link ending.Memory sound.ready steps)
        (λ s. stepped-on all trail s.0 event before after sound e steps s.1) ran

    ran-run : (all : List Step) (trail front : List Handler) (first last : ConnState Hall L) → RunsBy p x trail first last → IsSound p x first → Ran all front first → Ran all (front ++ trail) last
    unfolding RunsBy Ran
    ran-run all [] front first last is sound ran = subst (λ f. Ran all f last) (sym (append-nil front)) (subst (Ran all front) (sym is) ran)
    ran-run all (event ∷ trail) front first last (between, e, step, later) sound ran =
        subst (λ f. Ran all f last) (append_assoc front (event ∷ []) trail)
        (ran-run all trail (front ++ event ∷ []) between last later
        (step_sound p orderly x first.standing between.standing first.link between.link sound step)
        (unless-map between.standing.end (Stepped all (front ++ event ∷ []) (gives_line p first.standing between.standing) between)
        ((told : Bool) × Stepped all (front ++ event ∷ []) told between)
        (λ s. (gives_line p first.standing between.standing, s)) (ran-step all front event first between sound e step ran)))

    -- ---- from the opening on

    opened-stepped : (hall : Hall) (first : L) (script : Script) → answers_to_come (x.tells first) ≡ Some script → Stepped (steps_of p hall script) (handler.Open ∷ []) false (conn_at_open hall first)
    opened-stepped hall first script is =
        let here : Scripted Hall = record { standing = core_before_open hall; script = script } in
        record {
          script = script;
          tells_is = is;
          ran = step_by p here handler.Open ∷ [];
          all_is = steps_of-open hall script;
          trail_is = refl;
          told_is = sym (opening-line p here.standing (scripted_step p here).standing refl);
        }

    open-run-stepped : (first : L) (trail : List Handler) (conn : ConnState Hall L) (script : Script) → HasRunOpen p x first trail conn → answers_to_come (x.tells first) ≡ Some script
        → Ran (steps_of p conn.standing.hall script) trail conn
    unfolding Ran
    open-run-stepped first trail conn script (later, trail_is, run) is =
        let hall = conn.standing.hall in
        subst (λ t. Ran (steps_of p hall script) t conn) (sym trail_is)
        (ran-run (steps_of p hall script) later (handler.Open ∷ []) (conn_at_open hall first) conn run.runs
        (opened-sound p orderly x hall first run.limits run.initial run.not_shut)
        (false, opened-stepped hall first script is))

    -- the steps of a run are the first of all, the last gave a line where that is told, and the next is due
    pub told-run-steps : (first : L) (trail : List Handler) (talk : TalkState Hall L) → HasRunTold p x first trail talk
        → UnlessMemory talk.conn.standing.end (StepsServed (steps_of p talk.conn.standing.hall) (x.tells first) trail talk.told (talk_view p talk.conn.standing))
    unfolding RunsBy
    told-run-steps first trail talk run = by_script (answers_to_come (x.tells first)) refl
      where
        conn : ConnState Hall L
        conn = talk.conn

        hall : Hall
        hall = conn.standing.hall

        served : (script : Script) → Stepped (steps_of p hall script) trail talk.told conn → StepsOf (steps_of p hall script) trail talk.told (talk_view p conn.standing)
        served script s =
            let here : Scripted Hall = record { standing = conn.standing; script = s.script } in
            record {
              ran = s.ran;
              rest = rest_steps p here;
              all_is = s.all_is;
              trail_is = s.trail_is;
              told_is = s.told_is;
              due_is = subst (BeginsWith (due (talk_view p conn.standing))) (sym (steps_along-handlers p here (rest_of_path p conn.standing s.script)))
                  (subst (λ script. IsDue (due (talk_view p conn.standing)) (rest_by p conn.standing script)) s.tells_is (open-run-due p orderly x first trail conn run.ran));
            }

        opened : (script : Script) → answers_to_come (x.tells first) ≡ Some script → JustOpened p x first trail talk.told → Stepped (steps_of p hall script) trail talk.told conn
        opened script is opens =
            let ran = run.ran in
            let none : ran.0 ≡ [] = (let e = ran.1 in let o = opens.trail_is in cc) in
            let at_open : conn ≡ conn_at_open hall first = subst (λ t. RunsBy p x t (conn_at_open hall first) conn) none ran.2.runs in
            subst (λ t. Stepped (steps_of p hall script) t talk.told conn) (sym opens.trail_is)
            (subst (λ t. Stepped (steps_of p hall script) (handler.Open ∷ []) t conn) (sym opens.told_is)
            (subst (Stepped (steps_of p hall script) (handler.Open ∷ []) false) (sym at_open) (opened-stepped hall first script is)))

        stepped : (script : Script) → answers_to_come (x.tells first) ≡ Some script → JustStepped p x first trail talk → UnlessMemory conn.standing.end (Stepped (steps_of p hall script) trail talk.told conn)
        stepped script is last =
            let before = last.before in
            let sound : IsSound p x before = run-sound p orderly x before.standing.hall first last.ran.0 before last.ran.2 in
            let same : hall ≡ before.standing.hall = step_hall p x before.standing conn.standing before.link conn.link last.steps in
            subst (λ h. UnlessMemory conn.standing.end (Stepped (steps_of p h script) trail talk.told conn)) (sym same)
            (subst (λ t. UnlessMemory conn.standing.end (Stepped (steps_of p before.standing.hall script) t talk.told conn)) (sym last.trail_is)
            (subst (λ t. UnlessMemory conn.standing.end (Stepped (steps_of p before.standing.hall script) (last.earlier ++ last.event ∷ []) t conn)) (sym last.told_is)
            (ran-step (steps_of p before.standing.hall script) last.earlier last.event before conn sound last.event_is last.steps
            (open-run-stepped first last.earlier before script last.ran is))))

        by_script : (script : Option Script) → answers_to_come (x.tells first) ≡ script
            → UnlessMemory conn.standing.end (StepsBy (steps_of p hall) script trail talk.told (talk_view p conn.standing))
        by_script None is = unless conn.standing.end (StepsBy (steps_of p hall) None trail talk.told (talk_view p conn.standing)) tt
        by_script (Some script) is =
            unless-map conn.standing.end (Stepped (steps_of p hall script) trail talk.told conn) (StepsBy (steps_of p hall) (Some script) trail talk.told (talk_view p conn.standing))
            (served script) (by_last run.last)
          where
            by_last : JustOpened p x first trail talk.told ⊎ JustStepped p x first trail talk → UnlessMemory conn.standing.end (Stepped (steps_of p hall script) trail talk.told conn)
            by_last (inl opens) = unless conn.standing.end (Stepped (steps_of p hall script) trail talk.told conn) (opened script is opens)
            by_last (inr last) = stepped script is last
