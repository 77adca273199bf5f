-- Bursts of steps that follow one another, and their paths.
use Rattle.std.specs.Prelude.{◌-◌, if◌then◌else◌, option_map}
use Rattle.std.proofs.Common.{inl, inr, ◌≡◌, ◌∙◌, ℕ, zero, suc, Bool, true, false, List, [], ◌∷◌, ◌++◌, Option, Some, None, refl, sym, ap, subst, append_assoc}
use Rattle.std.proofs.lemmas.List.{map-append}
use Rattle.sws_link.specs.Links.{LinkContents}
use Rattle.sws_link.specs.Scripts.{Script}
use Rattle.sws_steps.specs.declared.Handler.{Handler}
use Rattle.sws_steps.specs.declared.Handler.TheVariants as handler
use Rattle.sws_steps.specs.declared.Next.{Next}
use Rattle.sws_steps.specs.declared.Next.TheVariants as next
use Rattle.sws_steps.specs.ConnCore.{reported_by}
use Rattle.sws_steps.specs.Logs.{last_line}
use Rattle.sws_steps.specs.Path.{TakesOff, answers_to_come, due_after}
use Rattle.sws_steps.specs.Talks.{HasNoStep, TalkView, due, path_to_come, IsDue, BeginsWith, StepsBy, StepsServed}
use Rattle.sws_burst.specs.Bursts.{HasBurst, IsBetween, begins, burst_limit, is_awaited, is_quiet, is_ready, spend, bursts_from, bursts_of, left_after, left_of, plain_step, plain_steps}
use Rattle.sws_burst.specs.Laws.{plain-handlers}

-- ---- steps behind steps

pub bursts-append : (left : ℕ) (front back : List Handler)
    → bursts_from left (front ++ back) ≡ bursts_from left front ++ bursts_from (left_of left front) back
unfolding bursts_from left_of
bursts-append left [] back = refl
bursts-append left (step ∷ front) back =
    by_begins (begins left step) (bursts-append (left_after left step) front back)
  where
    by_begins : (begin : Bool)
        → bursts_from (left_after left step) (front ++ back)
        ≡ bursts_from (left_after left step) front ++ bursts_from (left_of (left_after left step) front) back
        → (if begin then step ∷ bursts_from (left_after left step) (front ++ back) else bursts_from (left_after left step) (front ++ back))
        ≡ (if begin then step ∷ bursts_from (left_after left step) front else bursts_from (left_after left step) front)
        ++ bursts_from (left_of (left_after left step) front) back
    by_begins true rest = ap (λ l. step ∷ l) rest
    by_begins false rest = rest

pub left-append : (left : ℕ) (front back : List Handler) → left_of left (front ++ back) ≡ left_of (left_of left front) back
unfolding left_of
left-append left [] back = refl
left-append left (step ∷ front) back = left-append (left_after left step) front back

-- ---- between two bursts

-- a burst begins with the step, whatever the one before it had left
pub begins-quiet : (left : ℕ) (step : Handler) → is_awaited step ≡ true → begins left step ≡ true
begins-quiet zero step awaited = refl
begins-quiet (suc left) step awaited = awaited

begins-whole : (left : ℕ) (step : Handler) (later : List Handler) → begins left step ≡ true
    → (bursts_from left (step ∷ later) ≡ step ∷ bursts_from (burst_limit - 1) later)
    × (left_of left (step ∷ later) ≡ left_of (burst_limit - 1) later)
unfolding bursts_from left_of
begins-whole left step later begin = (
  ap (λ b. if b then step ∷ bursts_from (if b then burst_limit - 1 else spend left) later else bursts_from (if b then burst_limit - 1 else spend left) later) begin,
  ap (λ b. left_of (if b then burst_limit - 1 else spend left) later) begin,
)

at-end : (left : ℕ) (rest : List Handler) → rest ≡ [] → bursts_from left rest ≡ bursts_from 0 rest
unfolding bursts_from
at-end left rest empty = ap (bursts_from left) empty ∙ sym (ap (bursts_from 0) empty)

-- whatever the last burst had left, the next one begins with what is due
between-any : (left : ℕ) (event : Option Handler) (rest : List Handler) → IsBetween left event → BeginsWith event rest
    → bursts_from left rest ≡ bursts_from 0 rest
between-any left event rest (inl none) begin = ap (λ n. bursts_from n rest) none
between-any left None rest (inr quiet) empty = at-end left rest empty
between-any left (Some step) rest (inr quiet) (behind, is) =
    ap (bursts_from left) is ∙ (begins-whole left step behind (begins-quiet left step quiet)).0
    ∙ sym (ap (bursts_from 0) is ∙ (begins-whole 0 step behind refl).0)

-- the next burst begins with the event that is due
begins-due : (event : Option Handler) (rest : List Handler) → BeginsWith event rest → BeginsWith event (bursts_from 0 rest)
unfolding bursts_from
begins-due None rest empty = ap (bursts_from 0) empty
begins-due (Some event) rest (behind, is) = (bursts_from (burst_limit - 1) behind, ap (bursts_from 0) is)

-- ---- the path

-- what is left of the path, by bursts
pub bursts-take : (event : Option Handler) (later : List Handler) (path rest : Option (List Handler))
    → IsBetween (left_of 0 later) event → IsDue event rest → TakesOff (handler.Open ∷ later) path rest
    → TakesOff (bursts_of (handler.Open ∷ later)) (option_map bursts_of path) (option_map (bursts_from 0) rest)
bursts-take event later None rest between due none = ap (option_map (bursts_from 0)) none
bursts-take event later (Some path) rest between due (left, rest_is, path_is) = (
  bursts_from 0 left,
  ap (option_map (bursts_from 0)) rest_is,
  ap bursts_of path_is
      ∙ ap (λ l. handler.Open ∷ l) (bursts-append 0 later left
      ∙ ap (λ l. bursts_from 0 later ++ l)
      (between-any (left_of 0 later) event left between (subst (IsDue event) rest_is due))),
)

pub bursts-due : (event : Option Handler) (rest : Option (List Handler)) → IsDue event rest → IsDue event (option_map (bursts_from 0) rest)
bursts-due event None due = tt
bursts-due event (Some rest) due = begins-due event rest due

pub path-to-come : (path : Script → List Handler) (tells : Option LinkContents)
    → path_to_come (λ script. bursts_of (path script)) tells ≡ option_map bursts_of (path_to_come path tells)
path-to-come path tells = by_script (answers_to_come tells)
  where
    by_script : (script : Option Script) → option_map (λ script. bursts_of (path script)) script ≡ option_map bursts_of (option_map path script)
    by_script None = refl
    by_script (Some script) = refl

pub bursts-took : (path : Script → List Handler) (tells : Option LinkContents) (trail later : List Handler) (rest : Option (List Handler))
    (event : Option Handler) → trail ≡ bursts_of (handler.Open ∷ later) → IsBetween (left_of 0 later) event → IsDue event rest
    → TakesOff (handler.Open ∷ later) (path_to_come path tells) rest
    → TakesOff trail (path_to_come (λ script. bursts_of (path script)) tells) (option_map (bursts_from 0) rest)
bursts-took path tells trail later rest event events between is_due took =
    subst (λ t. TakesOff t (path_to_come (λ script. bursts_of (path script)) tells) (option_map (bursts_from 0) rest)) (sym events)
    (subst (λ p. TakesOff (bursts_of (handler.Open ∷ later)) p (option_map (bursts_from 0) rest)) (sym (path-to-come path tells))
    (bursts-take event later (path_to_come path tells) rest between is_due took))

-- ---- the steps, of which none gives a line

plain-last : (events : List Handler) → last_line (plain_steps events) ≡ false
plain-last [] = refl
plain-last (event ∷ []) = refl
plain-last (event ∷ next ∷ later) = plain-last (next ∷ later)

pub plain-served : (path : Script → List Handler) (tells : Option LinkContents) (trail : List Handler) (view : TalkView)
    (rest : Option (List Handler)) → TakesOff trail (path_to_come path tells) rest → IsDue (due view) rest
    → StepsServed (λ script. plain_steps (path script)) tells trail false view
plain-served path tells trail view rest takes is_due = by_script (answers_to_come tells) takes
  where
    by_script : (script : Option Script) → TakesOff trail (option_map path script) rest
        → StepsBy (λ script. plain_steps (path script)) script trail false view
    by_script None takes = tt
    by_script (Some script) (left, rest_is, path_is) = record {
      ran = plain_steps trail;
      rest = plain_steps left;
      all_is = ap plain_steps path_is ∙ map-append plain_step trail left;
      trail_is = plain-handlers trail;
      told_is = sym (plain-last trail);
      due_is = subst (BeginsWith (due view)) (sym (plain-handlers left)) (subst (IsDue (due view)) rest_is is_due);
    }

-- ---- one step after another

-- a burst that began with this event, behind these steps, and may have so many steps more
pub record Bursting {T L : Type 0} (has_run : L → List Handler → T → Type 0) (first : L)
    (steps : List Handler) (event : Handler) (talk : T) (left : ℕ) : Type 0 where
  pub later : List Handler
  pub ran : has_run first (steps ++ event ∷ later) talk
  pub no_other : bursts_from (burst_limit - 1) later ≡ []
  pub left_is : left_of (burst_limit - 1) later ≡ left

-- a step that can be made at once
pub at-once : (now : Next) → is_ready now ≡ true → (event : Handler) × (due_after now ≡ Some event) × (is_awaited event ≡ false)
at-once next.Open ready = cc
at-once next.Read ready = (handler.Read, refl, refl)
at-once next.Parse ready = (handler.Parse, refl, refl)
at-once next.Look ready = (handler.Look, refl, refl)
at-once next.Write ready = (handler.Write, refl, refl)
at-once next.Wait ready = cc
at-once next.Close ready = (handler.Close, refl, refl)
at-once next.Nothing ready = cc

-- it comes behind those of the burst
one-more : (left : ℕ) (event : Handler) → is_awaited event ≡ false
    → (bursts_from (suc left) (event ∷ []) ≡ []) × (left_of (suc left) (event ∷ []) ≡ left)
unfolding bursts_from left_of
one-more left event early = (
  ap (λ b. if b then event ∷ bursts_from (if b then burst_limit - 1 else left) [] else bursts_from (if b then burst_limit - 1 else left) []) early,
  ap (λ b. if b then burst_limit - 1 else left) early,
)

-- where no step can be made at once, none is due or one that has to be waited for
pub not-at-once : (now : Next) → is_ready now ≡ false → is_quiet (due_after now) ≡ true
not-at-once next.Open late = refl
not-at-once next.Read late = cc
not-at-once next.Parse late = cc
not-at-once next.Look late = cc
not-at-once next.Write late = cc
not-at-once next.Wait late = refl
not-at-once next.Close late = cc
not-at-once next.Nothing late = refl

-- a talk to which no step is due goes on with none
pub no-step : (waiting : Bool) (pending : Next) → HasNoStep pending → is_ready (reported_by waiting pending) ≡ false
no-step true pending none = refl
no-step false next.Open none = refl
no-step false next.Read none = absurd none
no-step false next.Parse none = absurd none
no-step false next.Look none = absurd none
no-step false next.Write none = absurd none
no-step false next.Wait none = absurd none
no-step false next.Close none = absurd none
no-step false next.Nothing none = refl

module _ {T L : Type 0} (has_run : L → List Handler → T → Type 0) where
  -- a burst has begun
  pub burst-began : (first : L) (steps : List Handler) (event : Handler) (talk : T)
      → has_run first (steps ++ event ∷ []) talk → Bursting has_run first steps event talk (burst_limit - 1)
  unfolding bursts_from left_of
  burst-began first steps event talk ran = record { later = []; ran = ran; no_other = refl; left_is = refl }

  -- and goes on
  pub burst-goes-on : (first : L) (steps : List Handler) (event : Handler) (before after : T) (left : ℕ) (now : Next)
      → is_ready now ≡ true → Bursting has_run first steps event before (suc left)
      → ((trail : List Handler) (due : Handler) → has_run first trail before → due_after now ≡ Some due → has_run first (trail ++ due ∷ []) after)
      → Bursting has_run first steps event after left
  burst-goes-on first steps event before after left now ready b runs =
      let step = at-once now ready in
      let behind = one-more left step.0 step.2 in
      record {
        later = b.later ++ step.0 ∷ [];
        ran = subst (λ t. has_run first t after) (append_assoc steps (event ∷ b.later) (step.0 ∷ []))
            (runs (steps ++ event ∷ b.later) step.0 b.ran step.1);
        no_other = bursts-append (burst_limit - 1) b.later (step.0 ∷ [])
            ∙ ap (λ l. l ++ bursts_from (left_of (burst_limit - 1) b.later) (step.0 ∷ [])) b.no_other
            ∙ ap (λ n. bursts_from n (step.0 ∷ [])) b.left_is ∙ behind.0;
        left_is = left-append (burst_limit - 1) b.later (step.0 ∷ []) ∙ ap (λ n. left_of n (step.0 ∷ [])) b.left_is ∙ behind.1;
      }

  module _ (due_of : T → Option Handler) (first : L) (talk : T) where
    -- the opening is an event of its own
    pub opened-burst : has_run first (handler.Open ∷ []) talk → HasBurst has_run due_of first (handler.Open ∷ []) talk
    unfolding bursts_from left_of
    opened-burst ran = record { later = []; ran = ran; events = refl; between = inl refl }

  began-at : (left : ℕ) (event : Handler) → IsBetween left (Some event) → begins left event ≡ true
  began-at left event (inl none) = ap (λ n. begins n event) none
  began-at left event (inr quiet) = begins-quiet left event quiet

  -- an event was run, which was a burst
  pub burst-ran : (due_of : T → Option Handler) (first : L) (trail : List Handler) (event : Handler) (before after : T) (left : ℕ)
      (ran : HasBurst has_run due_of first trail before) → due_of before ≡ Some event
      → Bursting has_run first (handler.Open ∷ ran.later) event after left
      → IsBetween left (due_of after)
      → HasBurst has_run due_of first (trail ++ event ∷ []) after
  burst-ran due_of first trail event before after left ran is_due b over =
      let begin = began-at (left_of 0 ran.later) event (subst (IsBetween (left_of 0 ran.later)) is_due ran.between) in
      let whole = begins-whole (left_of 0 ran.later) event b.later begin in
      record {
        later = ran.later ++ event ∷ b.later;
        ran = b.ran;
        events = ap (λ t. t ++ event ∷ []) ran.events
            ∙ ap (λ l. handler.Open ∷ l) (sym (bursts-append 0 ran.later (event ∷ b.later)
            ∙ ap (λ l. bursts_from 0 ran.later ++ l) (whole.0 ∙ ap (λ l. event ∷ l) b.no_other)));
        between = subst (λ n. IsBetween n (due_of after)) (sym (left-append 0 ran.later (event ∷ b.later) ∙ whole.1 ∙ b.left_is)) over;
      }
