-- What a connection tells of its last step, and the lines of a whole run.
use Rattle.std.specs.Prelude.{if◌then◌else◌, slice_get, IfSome, is_some, IsSome}
use Rattle.std.proofs.Common.{inl, inr, ◌⊎◌, ◌≡◌, ℕ, ◌+◌, ◌-◌, ◌<◌, ◌≤◌, Bool, true, false, List, [], ◌∷◌, ◌++◌, take, Option, Some, None, refl, sym, ap, ◌∙◌, subst, arith, append-nil, append_assoc, length}
use Rattle.sws_link.specs.declared.Link.{Ghosts as LinkWords}
use Rattle.sws_link.specs.Links.{LinkContents, input_of}
use Rattle.sws_log.specs.declared.line.LogLine.{LogLine}
use Rattle.sws_steps.specs.Protocol.{Protocol, IsOrderly}
use Rattle.sws_steps.specs.declared.Next.{Next}
use Rattle.sws_steps.specs.declared.Next.TheVariants as next
use Rattle.sws_steps.specs.ConnCore.{ConnCoreState, ConnState, is_sent}
use Rattle.sws_steps.specs.Step.{Steps}
use Rattle.sws_steps.specs.Sound.{core_before_open, IsSound, IsTold, IsToldBy}
use Rattle.sws_steps.specs.declared.Handler.{Handler}
use Rattle.sws_steps.specs.declared.Handler.TheVariants as handler
use Rattle.sws_steps.specs.Logs.{bit, gives_line, lines_given, line_of, log_of, IsLineOf}
use Rattle.sws_steps.specs.Run.{conn_at_open, RunsBy, HasRun}
use Rattle.sws_steps.specs.Talks.{TalkView, due, talk_view, HasRunOpen, HasNoStep, LinesOf, LinesServed}
use Rattle.sws_steps.specs.Told.{TalkState, line_told, IsAfterLine, IsTelling, HasRunTold, JustOpened, JustStepped, step_lines, RunsGiving, HasGiven, NumbersFrom, IsLogWithin}
use Rattle.sws_steps.proofs.Inputs.SinceLemmas.{SinceLink, SameInput}
use Rattle.sws_steps.proofs.Steps.SoundLemmas.{step_sound}
use Rattle.sws_steps.proofs.Runs.RunLemmas.{Kept, keeps, opened-sound, opened-kept, run-kept, run-sound}
use Rattle.sws_steps.proofs.Runs.TalkLemmas.{due-event, open-run-on, unopened-view}
use Rattle.sws_steps.proofs.Logs.LineLemmas.{lines-step, after-line}
use Rattle.sws_steps.proofs.Logs.LogLemmas.{lines-served, last-line, take-none, take-more}

module _ {Hall Answer : Type 0} (p : Protocol Hall Answer) where
  -- ---- what is told, by itself

  -- a line is there exactly where one is told
  pub line_told-some : {L : Type 0} (conn : ℕ) (talk : TalkState Hall L) → is_some (line_told conn talk) ≡ talk.told
  line_told-some conn talk = by_told talk.told
    where
      by_told : (told : Bool) → is_some (if told then Some (line_of conn talk.conn.standing.answered talk.conn.standing.note) else None) ≡ told
      by_told true = refl
      by_told false = refl

  -- a line that is told has the number of its connection, and as its turn how many lines were given
  pub line_told-turn : {L : Type 0} (conn : ℕ) (talk : TalkState Hall L) → IsTelling p talk
      → IfSome (line_told conn talk) (λ line. (line.conn ≡ conn) × (line.turn ≡ lines_given p talk.conn.standing))
  line_told-turn conn talk telling = by_told talk.told telling
    where
      c : ConnCoreState Hall
      c = talk.conn.standing

      by_told : (told : Bool) → (told ≡ true → IsAfterLine p c)
          → IfSome (if told then Some (line_of conn c.answered c.note) else None) (λ line. (line.conn ≡ conn) × (line.turn ≡ lines_given p c))
      by_told false telling = tt
      by_told true telling =
          let after = telling refl in
          (refl, sym (ap (λ t. if t then (if is_sent c.parts then c.answered else c.answered - 1) else 0) after.logs ∙ ap (λ t. if t then c.answered else c.answered - 1) after.sent))

  -- where no step is due, none is told
  pub telling-none : {L : Type 0} (talk : TalkState Hall L) → IsTelling p talk → HasNoStep talk.conn.standing.pending → talk.told ≡ false
  telling-none talk telling none = by_told talk.told refl
    where
      no : {pending : Next} → talk.conn.standing.pending ≡ pending → (HasNoStep pending → ⊥) → ⊥
      no e over = over (subst HasNoStep e none)

      by_told : (told : Bool) → talk.told ≡ told → talk.told ≡ false
      by_told false e = e
      by_told true e = by_pending (telling e).pending_is
        where
          by_pending : (talk.conn.standing.pending ≡ next.Parse) ⊎ (talk.conn.standing.pending ≡ next.Close) → talk.told ≡ false
          by_pending (inl parse) = absurd (no parse (λ n. n))
          by_pending (inr close) = absurd (no close (λ n. n))

  -- after a line all answers were written whole
  all-answered : (c : ConnCoreState Hall) → IsAfterLine p c → lines_given p c ≡ c.answered
  all-answered c after = ap (λ t. if t then (if is_sent c.parts then c.answered else c.answered - 1) else 0) after.logs ∙ ap (λ t. if t then c.answered else c.answered - 1) after.sent

  -- before the first answer no line was given
  no-lines : (hall : Hall) → lines_given p (core_before_open hall) ≡ 0
  no-lines hall = ap (λ (view : TalkView). view.lines) (unopened-view p hall)

  -- where none is told, nothing is asked
  pub untold-telling : {L : Type 0} (talk : TalkState Hall L) → talk.told ≡ false → IsTelling p talk
  untold-telling talk none told = absurd (let no : false ≡ true = sym none ∙ told in cc)

module _ {Hall Answer : Type 0} (p : Protocol Hall Answer) (orderly : IsOrderly p) {L : Type 0} (x : LinkWords L) where
  -- a step tells what it gave
  pub step-telling : (before : ConnState Hall L) (talk : TalkState Hall L) → IsSound p x before → Steps p x before talk.conn
      → talk.told ≡ gives_line p before.standing talk.conn.standing → IsTelling p talk
  step-telling before talk sound steps is told = after-line p orderly x before talk.conn sound steps (sym is ∙ told)

  -- ---- runs that tell

  pub told-run-start : (first : L) (talk : TalkState Hall L) → HasRunOpen p x first (handler.Open ∷ []) talk.conn → talk.told ≡ false → HasRunTold p x first (handler.Open ∷ []) talk
  told-run-start first talk ran none = record { ran = ran; last = inl (record { trail_is = refl; told_is = none }) }

  pub told-run-on : (first : L) (trail : List Handler) (event : Handler) (before after : TalkState Hall L) → HasRunTold p x first trail before
      → due (talk_view p before.conn.standing) ≡ Some event → Steps p x before.conn after.conn
      → after.told ≡ gives_line p before.conn.standing after.conn.standing → HasRunTold p x first (trail ++ event ∷ []) after
  told-run-on first trail event before after run e steps told =
      let ran = run.ran in
      let sound = run-sound p orderly x before.conn.standing.hall first ran.0 before.conn ran.2 in
      record {
        ran = open-run-on p orderly x first trail event before.conn after.conn ran e steps;
        last = inr (record {
          earlier = trail;
          event = event;
          before = before.conn;
          trail_is = refl;
          ran = ran;
          event_is = due-event p orderly before.conn.standing event sound.ready e;
          steps = steps;
          told_is = told;
        });
      }

  -- ---- what the link told

  -- the input that the link told is still told, of which these bytes were taken
  record InputKept (before : LinkContents) (taken : List ℕ) : Type 0 where
    tells : LinkContents
    taken_is : tells.taken ≡ taken
    input : input_of tells ≡ input_of before

  input-kept : (hall : Hall) (first : L) (conn : ConnState Hall L) (before : LinkContents) → x.tells first ≡ Some before → (kept : Kept p x hall first conn)
      → InputKept before kept.sound.taken
  unfolding SinceLink SameInput
  input-kept hall first conn before is kept = by_link conn.link kept.linked kept.since kept.sound.told
    where
      by_tells : (told now : Option LinkContents) → told ≡ Some before → SameInput told now → IsTold conn.standing now kept.sound.taken kept.sound.sent
          → InputKept before kept.sound.taken
      by_tells None now is same told = absurd (let no : None ≡ Some before = is in cc)
      by_tells (Some tells) now is (after, now_is, same) told = record {
        tells = after;
        taken_is = (subst (λ o. IsTold conn.standing o kept.sound.taken kept.sound.sent) now_is told).0;
        input = same ∙ ap input_of (let one : tells ≡ before = cc in one);
      }

      by_link : (link : Option L) → IsSome link → SinceLink x first conn.standing link → IsToldBy x conn.standing link kept.sound.taken kept.sound.sent
          → InputKept before kept.sound.taken
      by_link None linked since told = absurd (let no : false ≡ true = linked in cc)
      by_link (Some now) linked since told = by_tells (x.tells first) (x.tells now) is since.input told

  -- ---- the lines that were given

  -- as many as answers were written whole
  pub open-run-lines : (first : L) (trail : List Handler) (conn : ConnState Hall L) (number : ℕ) → HasRunOpen p x first trail conn
      → LinesServed (log_of p conn.standing.hall number) (x.tells first) (talk_view p conn.standing)
  open-run-lines first trail conn number (later, trail_is, run) = by_tells (x.tells first) refl
    where
      c : ConnCoreState Hall
      c = conn.standing

      kept : Kept p x c.hall first conn
      kept = run-kept p orderly x c.hall first later conn run

      by_tells : (tells : Option LinkContents) → x.tells first ≡ tells → LinesServed (log_of p c.hall number) tells (talk_view p c)
      by_tells None is = tt
      by_tells (Some before) is =
          let same = input-kept c.hall first conn before is kept in
          subst (λ input. LinesOf (log_of p c.hall number input) (talk_view p c)) same.input
          (lines-served p orderly c same.tells kept.sound.taken kept.sound.sent number kept.sound.progress same.taken_is)

  -- the line of a step is the one of its turn
  kept-line : (hall : Hall) (first : L) (conn : ConnState Hall L) (before : LinkContents) (number : ℕ) → x.tells first ≡ Some before → Kept p x hall first conn
      → IsAfterLine p conn.standing → 0 < lines_given p conn.standing
      → IsLineOf (log_of p hall number) (Some before) (line_of number conn.standing.answered conn.standing.note)
  kept-line hall first conn before number is kept after some =
      let c = conn.standing in
      let same = input-kept hall first conn before is kept in
      let line = line_of number c.answered c.note in
      subst (λ h. IsLineOf (log_of p h number) (Some before) line) kept.hall_is
      (subst (λ input. (1 ≤ line.turn) × (slice_get (log_of p c.hall number input) (line.turn - 1) ≡ Some line)) same.input
      (last-line p orderly c same.tells kept.sound.taken kept.sound.sent number kept.sound.progress same.taken_is after.logs
      (subst (λ n. 0 < n) (all-answered p c after) some)))

  pub told-line-is : (first : L) (trail : List Handler) (talk : TalkState Hall L) (number : ℕ) → HasRunTold p x first trail talk
      → IfSome (line_told number talk) (IsLineOf (log_of p talk.conn.standing.hall number) (x.tells first))
  told-line-is first trail talk number run = by_told talk.told refl
    where
      conn : ConnState Hall L
      conn = talk.conn

      c : ConnCoreState Hall
      c = conn.standing

      line : LogLine
      line = line_of number c.answered c.note

      kept : Kept p x c.hall first conn
      kept = run-kept p orderly x c.hall first run.ran.0 conn run.ran.2

      by_tells : talk.told ≡ true → JustStepped p x first trail talk → (tells : Option LinkContents) → x.tells first ≡ tells → IsLineOf (log_of p c.hall number) tells line
      by_tells told last None is = tt
      by_tells told last (Some before) is =
          let sound = run-sound p orderly x last.before.standing.hall first last.ran.0 last.before last.ran.2 in
          let gives : gives_line p last.before.standing c ≡ true = sym last.told_is ∙ told in
          kept-line c.hall first conn before number is kept (after-line p orderly x last.before conn sound last.steps gives)
          (let one : bit (gives_line p last.before.standing c) ≡ 1 = ap bit gives in omega (arith, lines-step p orderly x last.before conn sound last.steps))

      by_last : talk.told ≡ true → JustOpened p x first trail talk.told ⊎ JustStepped p x first trail talk → IsLineOf (log_of p c.hall number) (x.tells first) line
      by_last told (inl opens) = absurd (let no : false ≡ true = sym opens.told_is ∙ told in cc)
      by_last told (inr last) = by_tells told last (x.tells first) refl

      by_told : (told : Bool) → talk.told ≡ told → IfSome (if told then Some line else None) (IsLineOf (log_of p c.hall number) (x.tells first))
      by_told false e = tt
      by_told true e = by_last e run.last

  -- ---- the lines of a run

  -- one more step
  step-lines-on : (hall : Hall) (first : L) (from to : ConnState Hall L) (before : LinkContents) (number : ℕ) → x.tells first ≡ Some before
      → Kept p x hall first from → Kept p x hall first to → Steps p x from to
      → take (lines_given p from.standing) (log_of p hall number (input_of before)) ++ step_lines p number from.standing to.standing
      ≡ take (lines_given p to.standing) (log_of p hall number (input_of before))
  step-lines-on hall first from to before number is kept after steps = by_gives (gives_line p from.standing to.standing) refl
    where
      log : List LogLine
      log = log_of p hall number (input_of before)

      line : LogLine
      line = line_of number to.standing.answered to.standing.note

      counted : lines_given p to.standing ≡ lines_given p from.standing + bit (gives_line p from.standing to.standing)
      counted = lines-step p orderly x from to kept.sound steps

      by_gives : (gives : Bool) → gives_line p from.standing to.standing ≡ gives
          → take (lines_given p from.standing) log ++ (if gives then line ∷ [] else []) ≡ take (lines_given p to.standing) log
      by_gives false e =
          append-nil (take (lines_given p from.standing) log)
          ∙ ap (λ n. take n log) (let none : bit (gives_line p from.standing to.standing) ≡ 0 = ap bit e in let all = counted in
          let same : lines_given p from.standing ≡ lines_given p to.standing = omega arith in same)
      by_gives true e =
          sym (take-more (lines_given p from.standing) log line (ap (slice_get log) place ∙ at.1))
          ∙ ap (λ n. take n log) (sym more)
        where
          more : lines_given p to.standing ≡ lines_given p from.standing + 1
          more = counted ∙ ap (λ t. lines_given p from.standing + bit t) e

          ended : IsAfterLine p to.standing
          ended = after-line p orderly x from to kept.sound steps e

          at : IsLineOf (log_of p hall number) (Some before) line
          at = kept-line hall first to before number is after ended (let one = more in omega arith)

          place : lines_given p from.standing ≡ to.standing.answered - 1
          place = let one = more in let all = all-answered p to.standing ended in omega arith

  run-lines-on : (hall : Hall) (first : L) (before : LinkContents) (number : ℕ) → x.tells first ≡ Some before → (trail : List Handler) (from to : ConnState Hall L) (lines front : List LogLine)
      → RunsGiving p x number trail from to lines → Kept p x hall first from
      → front ≡ take (lines_given p from.standing) (log_of p hall number (input_of before))
      → front ++ lines ≡ take (lines_given p to.standing) (log_of p hall number (input_of before))
  unfolding RunsGiving
  run-lines-on hall first before number is [] from to lines front (same, none) kept so_far =
      ap (λ l. front ++ l) none ∙ append-nil front ∙ so_far
      ∙ ap (λ (conn : ConnState Hall L). take (lines_given p conn.standing) (log_of p hall number (input_of before))) (sym same)
  run-lines-on hall first before number is (event ∷ later) from to lines front (between, e, steps, more, lines_are, gives) kept so_far =
      let after = keeps p orderly x hall first from between steps kept in
      let here = step_lines p number from.standing between.standing in
      ap (λ l. front ++ l) lines_are ∙ sym (append_assoc front here more)
      ∙ run-lines-on hall first before number is later between to more (front ++ here) gives after
      (ap (λ l. l ++ here) so_far ∙ step-lines-on hall first from between before number is kept after steps)

  -- the events of a run and its lines
  gives-runs : (number : ℕ) (trail : List Handler) (from to : ConnState Hall L) (lines : List LogLine) → RunsGiving p x number trail from to lines → RunsBy p x trail from to
  unfolding RunsGiving RunsBy
  gives-runs number [] from to lines (same, none) = same
  gives-runs number (event ∷ later) from to lines (between, e, steps, more, lines_are, gives) = (between, e, steps, gives-runs number later between to more gives)

  pub given-run : (hall : Hall) (first : L) (number : ℕ) (trail : List Handler) (conn : ConnState Hall L) (lines : List LogLine) → HasGiven p x hall first number trail conn lines
      → HasRun p x hall first trail conn
  given-run hall first number trail conn lines given = record {
    limits = given.limits;
    initial = given.initial;
    not_shut = given.not_shut;
    runs = gives-runs number trail (conn_at_open hall first) conn lines given.gives;
  }

  -- ---- their numbers, whatever the link tells

  numbers-on : (number : ℕ) (trail : List Handler) (from to : ConnState Hall L) (lines : List LogLine) → RunsGiving p x number trail from to lines → IsSound p x from
      → NumbersFrom number (lines_given p from.standing + 1) lines × (lines_given p to.standing ≡ lines_given p from.standing + length lines)
  unfolding RunsGiving NumbersFrom
  numbers-on number [] from to lines (same, none) sound = (
    subst (NumbersFrom number (lines_given p from.standing + 1)) (sym none) tt,
    ap (λ (conn : ConnState Hall L). lines_given p conn.standing) same ∙ (let no = ap length none in let all : lines_given p from.standing ≡ lines_given p from.standing + length lines = omega arith in all),
  )
  numbers-on number (event ∷ later) from to lines (between, e, steps, more, lines_are, gives) sound =
      let rest = numbers-on number later between to more gives (step_sound p orderly x from.standing between.standing from.link between.link sound steps) in
      by_gives (gives_line p from.standing between.standing) refl lines_are rest.0 rest.1
    where
      counted : lines_given p between.standing ≡ lines_given p from.standing + bit (gives_line p from.standing between.standing)
      counted = lines-step p orderly x from between sound steps

      by_gives : (gives : Bool) → gives_line p from.standing between.standing ≡ gives
          → lines ≡ (if gives then line_of number between.standing.answered between.standing.note ∷ [] else []) ++ more
          → NumbersFrom number (lines_given p between.standing + 1) more → lines_given p to.standing ≡ lines_given p between.standing + length more
          → NumbersFrom number (lines_given p from.standing + 1) lines × (lines_given p to.standing ≡ lines_given p from.standing + length lines)
      by_gives false e are numbered many =
          let none : bit (gives_line p from.standing between.standing) ≡ 0 = ap bit e in
          let was = counted in
          let here : lines_given p between.standing ≡ lines_given p from.standing = omega arith in (
            subst (NumbersFrom number (lines_given p from.standing + 1)) (sym are) (subst (λ n. NumbersFrom number (n + 1) more) here numbered),
            (let long = ap length are in omega arith),
          )
      by_gives true e are numbered many =
          let one : bit (gives_line p from.standing between.standing) ≡ 1 = ap bit e in
          let was = counted in
          let here : lines_given p between.standing ≡ lines_given p from.standing + 1 = omega arith in
          let all = all-answered p between.standing (after-line p orderly x from between sound steps e) in (
            subst (NumbersFrom number (lines_given p from.standing + 1)) (sym are)
                (refl, sym all ∙ here, subst (λ n. NumbersFrom number (n + 1) more) here numbered),
            (let long = ap length are in omega arith),
          )

  -- the k-th line of a connection has turn k
  pub given-numbers : (hall : Hall) (first : L) (number : ℕ) (trail : List Handler) (conn : ConnState Hall L) (lines : List LogLine) → HasGiven p x hall first number trail conn lines
      → NumbersFrom number 1 lines × (length lines ≡ lines_given p conn.standing)
  given-numbers hall first number trail conn lines given =
      let numbers = numbers-on number trail (conn_at_open hall first) conn lines given.gives
      (opened-sound p orderly x hall first given.limits given.initial given.not_shut) in
      let none = no-lines p hall in (
        subst (λ n. NumbersFrom number (n + 1) lines) none numbers.0,
        (let many = numbers.1 in omega arith),
      )

  -- each run gives some lines
  runs-give : (number : ℕ) (trail : List Handler) (from to : ConnState Hall L) → RunsBy p x trail from to → (lines : List LogLine) × RunsGiving p x number trail from to lines
  unfolding RunsGiving RunsBy
  runs-give number [] from to same = ([], (same, refl))
  runs-give number (event ∷ later) from to (between, e, steps, runs) =
      let rest = runs-give number later between to runs in
      (step_lines p number from.standing between.standing ++ rest.0, (between, e, steps, rest.0, refl, rest.1))

  pub run-gives : (hall : Hall) (first : L) (number : ℕ) (trail : List Handler) (conn : ConnState Hall L) → HasRun p x hall first trail conn
      → (lines : List LogLine) × HasGiven p x hall first number trail conn lines
  run-gives hall first number trail conn run =
      let rest = runs-give number trail (conn_at_open hall first) conn run.runs in
      (rest.0, record { limits = run.limits; initial = run.initial; not_shut = run.not_shut; gives = rest.1 })

  -- which are those of the first answers whose responses sum to no more than was written
  pub given-log : (hall : Hall) (first : L) (number : ℕ) (trail : List Handler) (conn : ConnState Hall L) (lines : List LogLine) → HasGiven p x hall first number trail conn lines
      → IsLogWithin (log_of p hall number) (x.tells first) conn.standing.written lines
  given-log hall first number trail conn lines given = by_tells (x.tells first) refl
    where
      run : HasRun p x hall first trail conn
      run = given-run hall first number trail conn lines given

      kept : Kept p x hall first conn
      kept = run-kept p orderly x hall first trail conn run

      by_tells : (tells : Option LinkContents) → x.tells first ≡ tells → IsLogWithin (log_of p hall number) tells conn.standing.written lines
      by_tells None is = tt
      by_tells (Some before) is =
          let log = log_of p hall number (input_of before) in
          let same = input-kept hall first conn before is kept in
          let served : LinesOf log (talk_view p conn.standing) =
          subst (λ h. LinesOf (log_of p h number (input_of before)) (talk_view p conn.standing)) kept.hall_is
          (subst (λ input. LinesOf (log_of p conn.standing.hall number input) (talk_view p conn.standing)) same.input
          (lines-served p orderly conn.standing same.tells kept.sound.taken kept.sound.sent number kept.sound.progress same.taken_is)) in
          run-lines-on hall first before number is trail (conn_at_open hall first) conn lines [] given.gives
          (opened-kept p orderly x hall first given.limits given.initial given.not_shut)
          (sym (ap (λ n. take n log) (no-lines p hall) ∙ take-none log))
          ∙ served.lines
