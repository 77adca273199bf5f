-- On a scripted world a handler makes of what a colour has, and of its load, what the paths say.
use Rattle.std.proofs.Common.{◌≡◌, ◌<◌, ◌+◌, ℕ, zero, suc, Bool, true, false, not, ◌||◌, List, [], ◌∷◌, ◌++◌, Option, None, Some, length, map, drop, arith, refl, sym, ap, subst, ◌∙◌, eq-eqb}
use Rattle.std.specs.Prelude.{◌==◌, if◌then◌else◌, IsTrue, slice_get, option_map}
use Rattle.std.proofs.lemmas.Bool.{ne_eqb}
use Rattle.std.proofs.lemmas.Option.{none-some, same_Some}
use Rattle.mely_event.specs.declared.colour.Colour.{Colour}
use Rattle.sws_link.specs.declared.Link.{Ghosts as LinkWords}
use Rattle.sws_link.specs.declared.world.World.{Ghosts as WorldWords}
use Rattle.sws_link.specs.declared.Polled.{Polled}
use Rattle.sws_link.specs.declared.Accepted.{Accepted}
use Rattle.sws_link.specs.declared.Accepted.TheVariants as accepted
use Rattle.sws_link.specs.Links.{LinkContents}
use Rattle.sws_link.specs.Worlds.{Coming, initial_contents, TakesNext, Accepts, IsLink}
use Rattle.sws_steps.specs.declared.talk.Talk.{Ghosts as TalkWords}
use Rattle.sws_steps.specs.Logs.{Step}
use Rattle.sws_steps.specs.declared.Handler.TheVariants as handler
use Rattle.sws_handlers.specs.declared.load.WorldLoad.{WorldLoad}
use Rattle.sws_handlers.specs.declared.load.Load.{Load}
use Rattle.sws_handlers.specs.declared.place.Desk.{Desk}
use Rattle.sws_handlers.specs.Waiting.{taken_off, waiting_with}
use Rattle.sws_handlers.specs.Handling.{Put, step_put, Asked, Answered, Asks, is_to_ask, resumed_one, onward, rest_of, RunsPoll, woken_by, RunsWait, accept_puts, RunsAccept}
use Rattle.sws_handlers.specs.Loads.{IsComing, PollFits, AcceptFits}
use Rattle.sws_handlers.specs.PathPlaces as path
use Rattle.sws_handlers.specs.PathStates.{steps_to_come, TellsPaths, HasWorld, HasRest, HasDesk, HasLoad, ArePuts}
use Rattle.sws_handlers.proofs.Events.AcceptLemmas.{next_coming}

-- ---- lists

there_of : {A : Type 0} (xs : List A) (i : ℕ) → i < length xs → (a : A) × (slice_get xs i ≡ Some a)
there_of [] i low = absurd (omega (arith, low))
there_of (a ∷ xs) zero low = (a, refl)
there_of (a ∷ xs) (suc i) low = there_of xs i (omega (arith, low))

drop_at : {A : Type 0} (xs : List A) (i : ℕ) (a : A) → slice_get xs i ≡ Some a → drop i xs ≡ a ∷ drop (i + 1) xs
drop_at [] i a is = absurd (none-some a is)
drop_at (b ∷ xs) zero a is = ap (λ c. c ∷ xs) (same_Some b a is)
drop_at (b ∷ xs) (suc i) a is = drop_at xs i a is ∙ ap (λ (n : ℕ). a ∷ drop n (b ∷ xs)) (let e : suc (i + 1) ≡ suc i + 1 = omega arith in e)

-- ---- what a scripted world answers

-- the first that waits is ready
abbrev first_asked : Bool → List ℕ → Asked
first_asked last [] = record { waiting = []; last = last; failed = false; resumed = [] }
first_asked last (w ∷ waiting) = record { waiting = waiting; last = last; failed = false; resumed = w ∷ [] }

same_asked : (a b : Asked) → a.waiting ≡ b.waiting → a.last ≡ b.last → a.failed ≡ b.failed → a.resumed ≡ b.resumed → a ≡ b
same_asked a b waiting last failed resumed = λ i. record { waiting = waiting i; last = last i; failed = failed i; resumed = resumed i }

module _ {W L : Type 0} (x : WorldWords W L) (world now : W) (scripted : IsTrue (x.tells world).scripted) (asked : Asked) where
  ready : (last : Bool) (w : ℕ) (waiting : List ℕ) → Asks x true world (w ∷ waiting) last false now asked → asked ≡ first_asked last (w ∷ waiting)
  ready last w waiting asks =
      let polls = asks.1 in
      let told = subst (λ (p : Polled). Answered (w ∷ waiting) last p asked) (polls.scripted scripted) asks.2 in
      let off = told.0 in
      same_asked asked (first_asked last (w ∷ waiting)) (off.is ∙ ap (λ b. if b then waiting else w ∷ taken_off w waiting) (eq-eqb w w refl)) told.1 told.2 told.3

  asked_by : (last : Bool) (waiting : List ℕ) → Asks x (is_to_ask waiting last false) world waiting last false now asked → asked ≡ first_asked last waiting
  asked_by true [] asks = asks.1
  asked_by false [] asks = let polls = asks.1 in subst (λ (p : Polled). Answered [] false p asked) (polls.scripted scripted) asks.2
  asked_by true (w ∷ waiting) asks = ready true w waiting asks
  asked_by false (w ∷ waiting) asks = ready false w waiting asks

module _ {W L T G H : Type 0} (x : WorldWords W L) (l : LinkWords L) (y : TalkWords T L G H) (hall : H) (first : W) (paths : List (List Step)) (tells : TellsPaths x l y hall first paths) where
  abbrev Loads : Load W L → path.Load → Type 0
  Loads carried p = HasLoad x l y hall paths carried p

  abbrev Puts : List (Put W L) → List path.Put → Type 0
  Puts puts qs = ArePuts Loads puts qs

  -- what a handler leaves at the desk, and what it puts
  pub record DeskRan (after : Desk W) (puts : List (Put W L)) (d : path.Desk) (qs : List path.Put) : Type 0 where
    pub desk : HasDesk x l y hall paths after d
    pub puts_are : Puts puts qs

  -- ---- a poll

  module _ (desk after : Desk W) (arg : ℕ) (c : Colour) (held : WorldLoad W) (puts : List (Put W L)) (fit : PollFits x l first c arg held) (runs : RunsPoll x desk arg held after puts)
      (alone : desk.resting ≡ None) (w : path.World) (has : HasWorld x l y hall paths held w) where
    abbrev last_now : Bool
    last_now = desk.last || not (arg == 0)

    never_failed : (held.failed || (arg == 2)) ≡ false
    never_failed =
        let stands = fit.stands in
        let few = fit.sure tells.scripted in
        ap (λ b. b || (arg == 2)) (stands.sure tells.scripted) ∙ ne_eqb arg 2 (λ two. omega (arith, two, few))

    first_is : runs.asked ≡ first_asked last_now desk.waiting.items
    first_is =
        let stands = fit.stands in
        asked_by x held.world runs.now (subst (λ (b : Bool). IsTrue b) (sym stands.scripted) tells.scripted) runs.asked last_now desk.waiting.items
        (subst (λ (f : Bool). Asks x (is_to_ask desk.waiting.items last_now f) held.world desk.waiting.items last_now f runs.now runs.asked) never_failed runs.asks)

    abbrev goes : Asked → WorldLoad W
    goes asked = record { world = runs.now; accepted = held.accepted; failed = asked.failed }

    -- what the poll leaves, by what was asked
    record LeavesBy (asked : Asked) : Type 0 where
      pub waiting : after.waiting.items ≡ (resumed_one asked).waiting
      pub last : after.last ≡ asked.last
      pub resting : after.resting ≡ rest_of asked.last (resumed_one asked).waiting (goes asked) None
      pub puts_are : puts ≡ map (λ i. step_put i handler.Resume) (resumed_one asked).resumed ++ onward asked.last (resumed_one asked).waiting (goes asked)

    leaves : LeavesBy runs.asked
    leaves = record {
      waiting = runs.waiting;
      last = runs.last;
      resting = runs.resting ∙ ap (λ (o : Option (WorldLoad W)). rest_of runs.asked.last (resumed_one runs.asked).waiting (goes runs.asked) o) alone;
      puts_are = runs.puts_are;
    }

    goes_on : (asked : Asked) → HasWorld x l y hall paths (goes asked) w
    goes_on asked = record { accepted = has.accepted; coming = has.coming }

    resume_at : (i : ℕ) → (step_put {W = W} {L = L} i handler.Resume).0 ≡ (path.with_nothing (path.talk i handler.Resume)).0
    resume_at i = let e : i + 2 ≡ 2 + i = omega arith in ap (λ (n : ℕ). let k : Colour = record { 0 = n } in k) e

    abbrev pub as_polled : path.Ran → Type 0
    as_polled ran = (d : path.Desk) × (ran.place ≡ path.polling d) × DeskRan after puts d ran.puts

    rest_some : (asked : Asked) → after.resting ≡ Some (goes asked) → HasRest x l y hall paths after.resting (Some w)
    rest_some asked is = subst (λ (o : Option (WorldLoad W)). HasRest x l y hall paths o (Some w)) (sym is) (goes_on asked)

    rest_none : after.resting ≡ None → HasRest x l y hall paths after.resting None
    rest_none is = subst (λ (o : Option (WorldLoad W)). HasRest x l y hall paths o None) (sym is) tt

    puts_as : (ps : List (Put W L)) (qs : List path.Put) → puts ≡ ps → Puts ps qs → Puts puts qs
    puts_as ps qs is are = subst (λ (us : List (Put W L)). Puts us qs) (sym is) are

    polled_by : (last : Bool) (waiting : List ℕ) → LeavesBy (first_asked last waiting) → as_polled (path.polls last waiting w)
    polled_by true [] by = (
      _,
      refl,
      record {
        desk = record { waiting = sym by.waiting; last = sym by.last; resting = rest_some (first_asked true []) by.resting };
        puts_are = puts_as [] [] by.puts_are tt;
      },
    )
    polled_by false [] by = (
      _,
      refl,
      record {
        desk = record { waiting = sym by.waiting; last = sym by.last; resting = rest_none by.resting };
        puts_are = puts_as _ _ by.puts_are ((refl, refl, goes_on (first_asked false [])), tt);
      },
    )
    polled_by true (i ∷ []) by = (
      _,
      refl,
      record {
        desk = record { waiting = sym by.waiting; last = sym by.last; resting = rest_some (first_asked true (i ∷ [])) by.resting };
        puts_are = puts_as _ _ by.puts_are ((resume_at i, refl, tt), tt);
      },
    )
    polled_by true (i ∷ k ∷ waiting) by = (
      _,
      refl,
      record {
        desk = record { waiting = sym by.waiting; last = sym by.last; resting = rest_none by.resting };
        puts_are = puts_as _ _ by.puts_are ((resume_at i, refl, tt), ((refl, refl, goes_on (first_asked true (i ∷ k ∷ waiting))), tt));
      },
    )
    polled_by false (i ∷ waiting) by = (
      _,
      refl,
      record {
        desk = record { waiting = sym by.waiting; last = sym by.last; resting = rest_none by.resting };
        puts_are = puts_as _ _ by.puts_are ((resume_at i, refl, tt), ((refl, refl, goes_on (first_asked false (i ∷ waiting))), tt));
      },
    )

    pub poll_runs : (d : path.Desk) → HasDesk x l y hall paths desk d → as_polled (path.polls (d.last || not (arg == 0)) d.waiting w)
    poll_runs d is =
        subst (λ (ws : List ℕ). as_polled (path.polls (d.last || not (arg == 0)) ws w)) (sym is.waiting)
        (subst (λ (b : Bool). as_polled (path.polls (b || not (arg == 0)) desk.waiting.items w)) (sym is.last)
        (polled_by last_now desk.waiting.items (subst LeavesBy first_is leaves)))

  -- ---- a wait

  wakes_by : (after : Desk W) (puts : List (Put W L)) (resting : Option (WorldLoad W)) (rests : Option path.World) → HasRest x l y hall paths resting rests → puts ≡ woken_by resting → Puts puts (path.wakes rests)
  wakes_by after puts None None has is = subst (λ (us : List (Put W L)). Puts us []) (sym is) tt
  wakes_by after puts None (Some w) has is = absurd has
  wakes_by after puts (Some held) None has is = absurd has
  wakes_by after puts (Some held) (Some w) has is = subst (λ (us : List (Put W L)). Puts us (path.wakes (Some w))) (sym is) ((refl, refl, has), tt)

  pub wait_runs : (desk after : Desk W) (i : ℕ) (puts : List (Put W L)) → RunsWait desk i after puts → (d : path.Desk) → HasDesk x l y hall paths desk d
      → DeskRan after puts (record { waiting = waiting_with i d.waiting; last = d.last; resting = None }) (path.wakes d.resting)
  wait_runs desk after i puts runs d has = record {
    desk = record {
      waiting = ap (waiting_with i) has.waiting ∙ sym runs.waiting;
      last = has.last ∙ sym runs.last;
      resting = subst (λ (o : Option (WorldLoad W)). HasRest x l y hall paths o None) (sym runs.resting) tt;
    };
    puts_are = wakes_by after puts desk.resting d.resting has.resting runs.puts_are;
  }

  -- ---- an accept

  told_way : (told : Option LinkContents) (link : Coming) (way : List Step) → told ≡ Some (initial_contents link) → option_map (y.steps hall) link.answers ≡ Some way → steps_to_come (y.steps hall) told ≡ Some way
  told_way told link way is same = ap (λ (o : Option LinkContents). steps_to_come (y.steps hall) o) is ∙ same

  open_at : (n : ℕ) → (path.talk n handler.Open).0 ≡ record { 0 = n + 2 }
  open_at n = let e : 2 + n ≡ n + 2 = omega arith in ap (λ (k : ℕ). let c : Colour = record { 0 = k } in c) e

  accept_answer : (total : ℕ) (held : WorldLoad W) (now : W) (answer : Accepted L) (way : List Step) → slice_get paths held.accepted ≡ Some way
      → (x.tells held.world).coming ≡ option_map (λ c. drop held.accepted c) (x.tells first).coming → Accepts x.tells x.faults x.waits l.tells l.is_shut l.faults l.waits held.world answer now → IsLink answer
      → Puts (accept_puts total held now answer) (path.accepts total held.accepted (way ∷ drop (held.accepted + 1) paths)).puts
  accept_answer total held now (accepted.Link link) way at come is given =
      let gives = is.gives in
      let comes = next_coming (x.tells first).coming held.accepted (l.tells link) (x.tells now).coming (subst (λ (o : Option (List Coming)). TakesNext o (l.tells link) (x.tells now).coming) come gives.next) gives.initial in
      let own = subst (λ (o : Option (List Coming)). IsComing o held.accepted (l.tells link)) tells.told comes.1 in
      ((refl, refl, record { accepted = refl; coming = refl }), ((sym (open_at held.accepted), refl, told_way (l.tells link) own.0 way own.2 (tells.each held.accepted own.0 way own.1 at)), tt))
  accept_answer total held now accepted.NotYet way at come is given = absurd given
  accept_answer total held now accepted.Failed way at come is given = absurd given

  abbrev AcceptRan : List (Put W L) → path.Ran → Type 0
  AcceptRan puts ran = (ran.place ≡ path.accepting) × Puts puts ran.puts

  pub accept_runs : (total : ℕ) (c : Colour) (arg : ℕ) (held : WorldLoad W) (puts : List (Put W L)) → AcceptFits x l first c arg held → RunsAccept x l total held puts → (w : path.World) → HasWorld x l y hall paths held w
      → AcceptRan puts (path.accepts total w.accepted w.coming)
  accept_runs total c arg held puts fit runs w has =
      let stands = fit.stands in
      let more = fit.more in
      let way = there_of paths held.accepted (let t = tells.many in omega (arith, more, t)) in
      let coming_is : w.coming ≡ way.0 ∷ drop (held.accepted + 1) paths = has.coming ∙ drop_at paths held.accepted way.0 way.1 in
      let given = runs.accepts.scripted (subst (λ (b : Bool). IsTrue b) (sym stands.scripted) tells.scripted) in
      let does = accept_answer total held runs.now runs.answer way.0 way.1 stands.coming runs.accepts given in
      let all : AcceptRan puts (path.accepts total held.accepted (way.0 ∷ drop (held.accepted + 1) paths)) = (refl, subst (λ (us : List (Put W L)). Puts us (path.accepts total held.accepted (way.0 ∷ drop (held.accepted + 1) paths)).puts) (sym runs.puts_are) does) in
      subst (λ (ws : List (List Step)). AcceptRan puts (path.accepts total w.accepted ws)) (sym coming_is)
      (subst (λ (n : ℕ). AcceptRan puts (path.accepts total n (way.0 ∷ drop (held.accepted + 1) paths))) (sym has.accepted) all)
