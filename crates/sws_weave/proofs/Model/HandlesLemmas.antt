-- What each handler does to what a colour has is what the function says.
use Rattle.std.proofs.Common.{◌≡◌, ◌≢◌, ◌<◌, ◌≤◌, ◌+◌, ◌-◌, ℕ, zero, suc, Bool, true, false, not, ◌||◌, cond, eqb, List, [], ◌∷◌, ◌++◌, Option, None, Some, length, map, drop, arith, refl, sym, ap, subst, ◌∙◌, inl, inr}
use Rattle.std.specs.Prelude.{slice_get, slice_set, sum_by, is_some}
use Rattle.std.specs.List.{AllByRecursion}
use Rattle.std.proofs.lemmas.Bool.{cases_Bool, cond-true, eqb-true, eqb-false, ne_eqb}
use Rattle.std.proofs.lemmas.Option.{none-some, same_Some, slice_get_past}
use Rattle.std.proofs.lemmas.List.Sums.{sum_by-append}
use Rattle.std.proofs.lemmas.List.{length-set}
use Rattle.mely_event.specs.declared.colour.Colour.{Colour}
use Rattle.mely_event.specs.declared.event.Event.{Event}
use Rattle.sws_steps.specs.Logs.{Step}
use Rattle.sws_steps.specs.declared.Handler.{Handler}
use Rattle.sws_steps.specs.declared.Handler.TheVariants as handler
use Rattle.mely_weave.proofs.Entries.SideLemmas.{get_set_same, get_set_other}
use Rattle.mely_machine.specs.Machine.{Acted}
use Rattle.sws_handlers.specs.Tasks.{number_of}
use Rattle.sws_handlers.specs.Waiting.{waiting_with}
use Rattle.sws_weave.specs.Server.{Server, after_poll, after_wait, after_accept, after_talk, after_event, serve}
use Rattle.sws_handlers.specs.PathPlaces.{talk, poll, next_event, follows, logs, World, Load, world, link, line, Desk, Place, polling, accepting, talking, logging, Put, with_nothing, with_line, Ran, stays, polls, wakes, waits, runs_desk, accepts, goes_along, takes_off, runs_place, worlds_of_rest, worlds_of_place, worlds_of_load}
use Rattle.sws_weave.specs.Openings.{HasNoOpening, AreOpened}
use Rattle.sws_weave.proofs.Model.Agrees.{WorldAgrees, RestAgrees, DeskAgrees, SeatAgrees, PlaceAgrees, ComingAgrees}

abbrev pub bare : Put → Colour × Event
bare p = (p.0, p.1)

-- a handler on a colour that has this, with this load, leaves and puts what the function says, and
-- changes nothing that another colour has
pub record Handled (whole : List (List Step)) (s : Server) (c : Colour) (before : ℕ) (load : Option Load) (ran : Ran) (acted : Acted Server) : Type 0 where
  pub puts : map bare ran.puts ≡ acted.puts
  pub place : PlaceAgrees whole acted.becomes c ran.place
  pub coming : AllByRecursion (λ p. ComingAgrees whole acted.becomes p.0 p.1.handler p.1.arg p.2) ran.puts
  pub worlds : worlds_of_place ran.place + sum_by (λ p. worlds_of_load p.2) ran.puts ≤ before + worlds_of_load load
  pub many : length acted.becomes.paths ≡ length s.paths
  pub log : acted.becomes.log ≡ s.log
  pub desk : c.0 ≢ 0 → (acted.becomes.waiting ≡ s.waiting) × (acted.becomes.last ≡ s.last) × (acted.becomes.rests ≡ s.rests)
  pub accepted : worlds_of_load load ≡ 0 → acted.becomes.accepted ≡ s.accepted
  pub others : (j : ℕ) → c.0 ≢ 2 + j → slice_get acted.becomes.paths j ≡ slice_get s.paths j

bare_nothing : (ps : List (Colour × Event)) → map bare (map with_nothing ps) ≡ ps
bare_nothing [] = refl
bare_nothing (p ∷ ps) = ap (λ l. p ∷ l) (bare_nothing ps)

bare_line : (ps : List (Colour × Event)) → map bare (map with_line ps) ≡ ps
bare_line [] = refl
bare_line (p ∷ ps) = ap (λ l. p ∷ l) (bare_line ps)

bare-append : (ps qs : List Put) → map bare (ps ++ qs) ≡ map bare ps ++ map bare qs
bare-append [] qs = refl
bare-append (p ∷ ps) qs = ap (λ l. bare p ∷ l) (bare-append ps qs)

pub append_all : {A : Type 0} (Q : A → Type 0) (xs ys : List A) → AllByRecursion Q xs → AllByRecursion Q ys → AllByRecursion Q (xs ++ ys)
append_all Q [] ys p q = q
append_all Q (x ∷ xs) ys p q = (p.0, append_all Q xs ys p.1 q)

there_of : {A : Type 0} (xs : List A) (i : ℕ) → i < length xs → (x : A) × (slice_get xs i ≡ Some x)
there_of [] i low = absurd (omega (arith, low))
there_of (x ∷ xs) zero low = (x, refl)
there_of (x ∷ xs) (suc i) low = there_of xs i (omega (arith, low))

drop_at : {A : Type 0} (xs : List A) (i : ℕ) (x : A) → slice_get xs i ≡ Some x → drop i xs ≡ x ∷ drop (i + 1) xs
drop_at [] i x h = absurd (none-some x h)
drop_at (y ∷ xs) zero x h = ap (λ z. z ∷ xs) (same_Some y x h)
drop_at (y ∷ xs) (suc i) x h = drop_at xs i x h ∙ ap (λ (n : ℕ). x ∷ drop n (y ∷ xs)) (let e : suc (i + 1) ≡ suc i + 1 = omega arith in e)

module _ (whole : List (List Step)) (opened : AreOpened whole) (s : Server) (many : length s.paths ≡ length whole) (c : Colour) where
  -- nothing happens
  nothing : (place : Place) (load : Option Load) → PlaceAgrees whole s c place → Handled whole s c (worlds_of_place place) load (stays place) (record { puts = []; becomes = s })
  nothing place load stands = record { puts = refl; place = stands; coming = tt; worlds = omega arith; many = refl; log = refl; desk = λ n. (refl, refl, refl); accepted = λ e. refl; others = λ j n. refl }

  -- ---- polling

  module _ (nought : c.0 ≡ 0) (w : World) (stands : WorldAgrees whole s w) where
    poll_is : (last : Bool) (waiting : List ℕ) → waiting ≡ s.waiting → (last ≡ false → w.accepted < length whole) → Handled whole s c 0 (Some (world w)) (polls last waiting w) (after_poll (record s { last = last }) waiting)
    poll_is true [] same more = record {
      puts = refl;
      place = (nought, record { waiting = same; last = refl; rests = refl; world = record { accepted = stands.accepted; coming = stands.coming } });
      coming = tt;
      worlds = omega arith;
      many = refl;
      log = refl;
      desk = λ n. absurd (n nought);
      accepted = λ e. absurd (omega (arith, e));
      others = λ j n. refl;
    }
    poll_is false [] same more = record {
      puts = refl;
      place = (nought, record { waiting = same; last = refl; rests = refl; world = tt });
      coming = ((refl, record { accepted = stands.accepted; coming = stands.coming }, more refl), tt);
      worlds = omega arith;
      many = refl;
      log = refl;
      desk = λ n. absurd (n nought);
      accepted = λ e. absurd (omega (arith, e));
      others = λ j n. refl;
    }
    poll_is true (i ∷ []) same more = record {
      puts = refl;
      place = (nought, record { waiting = refl; last = refl; rests = refl; world = record { accepted = stands.accepted; coming = stands.coming } });
      coming = (omega arith, tt);
      worlds = omega arith;
      many = refl;
      log = refl;
      desk = λ n. absurd (n nought);
      accepted = λ e. absurd (omega (arith, e));
      others = λ j n. refl;
    }
    poll_is true (i ∷ k ∷ waiting) same more = record {
      puts = refl;
      place = (nought, record { waiting = refl; last = refl; rests = refl; world = tt });
      coming = (omega arith, ((refl, record { accepted = stands.accepted; coming = stands.coming }, λ e. absurd (omega (arith, e))), tt));
      worlds = omega arith;
      many = refl;
      log = refl;
      desk = λ n. absurd (n nought);
      accepted = λ e. absurd (omega (arith, e));
      others = λ j n. refl;
    }
    poll_is false (i ∷ waiting) same more = record {
      puts = refl;
      place = (nought, record { waiting = refl; last = refl; rests = refl; world = tt });
      coming = (omega arith, ((refl, record { accepted = stands.accepted; coming = stands.coming }, more refl), tt));
      worlds = omega arith;
      many = refl;
      log = refl;
      desk = λ n. absurd (n nought);
      accepted = λ e. absurd (omega (arith, e));
      others = λ j n. refl;
    }

  -- ---- waiting

  wait_is : c.0 ≡ 0 → (desk : Desk) → DeskAgrees whole s desk → (i : ℕ) → (resting : Option World) → desk.resting ≡ resting → Handled whole s c (worlds_of_rest resting) None (record { place = (waits desk i).place; puts = wakes resting }) (after_wait s (is_some resting) i)
  wait_is nought desk d i None e = record {
    puts = refl;
    place = (nought, record { waiting = ap (waiting_with i) d.waiting; last = d.last; rests = refl; world = tt });
    coming = tt;
    worlds = omega arith;
    many = refl;
    log = refl;
    desk = λ n. absurd (n nought);
    accepted = λ e. refl;
    others = λ j n. refl;
  }
  wait_is nought desk d i (Some w) e =
      let stands : WorldAgrees whole s w = subst (RestAgrees whole s) e d.world in
      record {
        puts = refl;
        place = (nought, record { waiting = ap (waiting_with i) d.waiting; last = d.last; rests = refl; world = tt });
        coming = ((refl, record { accepted = stands.accepted; coming = stands.coming }, λ e. absurd (omega (arith, e))), tt);
        worlds = omega arith;
        many = refl;
        log = refl;
        desk = λ n. absurd (n nought);
        accepted = λ e. refl;
        others = λ j n. refl;
      }

  -- ---- accepting

  accept_is : c.0 ≡ 1 → (w : World) → WorldAgrees whole s w → w.accepted < length whole → Handled whole s c 0 (Some (world w)) (accepts (length whole) w.accepted w.coming) (after_accept s s.accepted)
  accept_is one w stands more =
      let at = there_of whole w.accepted more in
      let split : w.coming ≡ at.0 ∷ drop (w.accepted + 1) whole = stands.coming ∙ drop_at whole w.accepted at.0 at.1 in
      subst (λ (ps : List (List Step)). Handled whole s c 0 (Some (world w)) (accepts (length whole) w.accepted ps) (after_accept s s.accepted)) (sym split)
      (subst (λ (n : ℕ). Handled whole s c 0 (Some (world w)) (accepts n w.accepted (at.0 ∷ drop (w.accepted + 1) whole)) (after_accept s s.accepted)) many
      (record {
        puts = λ i. poll (cond (eqb (stands.accepted i + 1) (length s.paths)) 1 0) ∷ talk (stands.accepted i) handler.Open ∷ [];
        place = one;
        coming = (
          (refl, record { accepted = ap (λ (n : ℕ). n + 1) stands.accepted; coming = refl }, λ none. later none),
          ((omega arith, subst (λ (j : ℕ). slice_get whole j ≡ Some at.0) (omega arith) at.1), tt),
        );
        worlds = omega arith;
        many = refl;
        log = refl;
        desk = λ n. (refl, refl, refl);
        accepted = λ e. absurd (omega (arith, e));
        others = λ j n. refl;
      }))
    where
      later : cond {A = ℕ} (eqb (w.accepted + 1) (length s.paths)) 1 0 ≡ 0 → w.accepted + 1 < length whole
      later none = elim (cases_Bool (eqb (w.accepted + 1) (length s.paths))) [
        | inl t ↦ absurd (let e = sym (cond-true {A = ℕ} (eqb (w.accepted + 1) (length s.paths)) 1 0 t) ∙ none in omega (arith, e))
        | inr f ↦ let apart = eqb-false (w.accepted + 1) (length s.paths) f in omega (arith, apart, more, many)
      ]

  -- ---- a connection

  abbrev Stands : Server → List Put → Type 0
  Stands t ps = AllByRecursion (λ p. ComingAgrees whole t p.0 p.1.handler p.1.arg p.2) ps

  next_stands : (t : Server) (i : ℕ) (next : Handler) → number_of next ≢ 3 → Stands t (with_nothing (next_event i next) ∷ [])
  next_stands t i handler.Resume none = (refl, tt)
  next_stands t i handler.Open none = absurd (none refl)
  next_stands t i handler.Read none = (omega arith, tt)
  next_stands t i handler.Parse none = (omega arith, tt)
  next_stands t i handler.Look none = (omega arith, tt)
  next_stands t i handler.Write none = (omega arith, tt)
  next_stands t i handler.Close none = (omega arith, tt)

  follows_stand : (t : Server) (i : ℕ) (later : List Step) → HasNoOpening later → Stands t (map with_nothing (follows i later))
  follows_stand t i [] none = tt
  follows_stand t i (next ∷ later) none = next_stands t i next.handler none.0

  logs_stand : (t : Server) (log : Bool) (i : ℕ) (gives : Bool) → Stands t (map with_line (logs log (length whole) i gives))
  logs_stand t true i false = tt
  logs_stand t false i false = tt
  logs_stand t true i true = (refl, tt)
  logs_stand t false i true = tt

  abbrev worlds_in : List Put → ℕ
  worlds_in ps = sum_by (λ (p : Put). worlds_of_load p.2) ps

  follows_worldless : (i : ℕ) (later : List Step) → worlds_in (map with_nothing (follows i later)) ≡ 0
  follows_worldless i [] = refl
  follows_worldless i (next ∷ later) = refl

  logs_worldless : (log : Bool) (total i : ℕ) (gives : Bool) → worlds_in (map with_line (logs log total i gives)) ≡ 0
  logs_worldless true total i false = refl
  logs_worldless false total i false = refl
  logs_worldless true total i true = refl
  logs_worldless false total i true = refl

  abbrev i : ℕ
  i = c.0 - 2

  -- the rest of the path goes on with its next event, or stays
  path_is : (2 ≤ c.0) × (c.0 < length whole + 2) → (handler : ℕ) (seat : Option (List Step)) (load : Option Load) (path : List Step) → slice_get s.paths i ≡ Some path → SeatAgrees whole s i seat → ((later : List Step) (next : Step) → path ≡ next ∷ later → HasNoOpening later)
      → Handled whole s c 0 load (takes_off s.log (length whole) i handler seat path) (after_event s i handler (Some path))
  path_is low handler seat load [] there stands rest = nothing (talking seat) load (low, stands)
  path_is low handler seat load (next ∷ later) there stands rest = elim (cases_Bool (eqb (number_of next.handler) handler)) [
    | inl met ↦
        subst (λ (b : Bool). Handled whole s c 0 load (cond b (goes_along s.log (length whole) i next later) (stays (talking seat))) (after_talk s i b next later)) (sym met)
        (record {
          puts =
              bare-append (map with_nothing (follows i later)) (map with_line (logs s.log (length whole) i next.line))
              ∙ ap (λ (ps : List (Colour × Event)). ps ++ map bare (map with_line (logs s.log (length whole) i next.line))) (bare_nothing (follows i later))
              ∙ ap (λ (ps : List (Colour × Event)). follows i later ++ ps) (bare_line (logs s.log (length whole) i next.line))
              ∙ ap (λ (n : ℕ). follows i later ++ logs s.log n i next.line) (sym many);
          place = (low, (get_set_same s.paths i (next ∷ later) later there, rest later next refl));
          coming = append_all (λ (p : Put). ComingAgrees whole (record s { paths = slice_set s.paths i later }) p.0 p.1.handler p.1.arg p.2) (map with_nothing (follows i later)) (map with_line (logs s.log (length whole) i next.line))
              (follows_stand (record s { paths = slice_set s.paths i later }) i later (rest later next refl)) (logs_stand (record s { paths = slice_set s.paths i later }) s.log i next.line);
          worlds =
              let both = sum_by-append (λ (p : Put). worlds_of_load p.2) (map with_nothing (follows i later)) (map with_line (logs s.log (length whole) i next.line)) in
              let none = follows_worldless i later in
              let no_more = logs_worldless s.log (length whole) i next.line in
              omega (arith, both, none, no_more);
          many = length-set s.paths i later;
          log = refl;
          desk = λ n. (refl, refl, refl);
          accepted = λ e. refl;
          others = λ j n. get_set_other s.paths i j later (λ e. n (let above = low.0 in omega (arith, e, above)));
        })
    | inr un ↦
        subst (λ (b : Bool). Handled whole s c 0 load (cond b (goes_along s.log (length whole) i next later) (stays (talking seat))) (after_talk s i b next later)) (sym un)
        (nothing (talking seat) load (low, stands))
  ]

  -- a connection that isn't open yet has the whole path, whose first event is the opening
  unopened_is : (2 ≤ c.0) × (c.0 < length whole + 2) → (more : ℕ) → (found : Option (List Step)) → slice_get whole i ≡ found → SeatAgrees whole s i None → Handled whole s c 0 None (stays (talking None)) (after_event s i (suc (suc (suc (suc more)))) found)
  unopened_is low more None at stands = nothing (talking None) None (low, stands)
  unopened_is low more (Some path) at stands =
      let o = opened i path at in
      let off : eqb (number_of o.first.handler) (suc (suc (suc (suc more)))) ≡ false = ap (λ (h : Handler). eqb (number_of h) (suc (suc (suc (suc more))))) o.opens ∙ ne_eqb 3 (suc (suc (suc (suc more)))) (λ e. omega (arith, e)) in
      subst (λ (p : List Step). Handled whole s c 0 None (stays (talking None)) (after_event s i (suc (suc (suc (suc more)))) (Some p))) (sym o.path_is)
      (subst (λ (b : Bool). Handled whole s c 0 None (stays (talking None)) (after_talk s i b o.first o.later)) (sym off) (nothing (talking None) None (low, stands)))

  -- the colour of the log is that of no connection
  log_is : c.0 ≡ length whole + 2 → (handler : ℕ) (load : Option Load) → Handled whole s c 0 load (stays logging) (after_event s i handler (slice_get s.paths i))
  log_is at handler load =
      let none : slice_get s.paths i ≡ None = slice_get_past s.paths i (omega (arith, at, many)) in
      subst (λ (found : Option (List Step)). Handled whole s c 0 load (stays logging) (after_event s i handler found)) (sym none) (nothing logging load at)

  -- ---- each handler

  pub handle_is : (place : Place) (h arg : ℕ) (load : Option Load) → PlaceAgrees whole s c place → ComingAgrees whole s c h arg load → worlds_of_place place + worlds_of_load load ≤ 1
      → Handled whole s c (worlds_of_place place) load (runs_place s.log (length whole) c place (record { handler = h; arg = arg }) load) (serve s c (record { handler = h; arg = arg }))
  unfolding serve
  handle_is (polling desk) zero arg (Some (world w)) p k few =
      let d = p.1 in
      let none : worlds_of_rest desk.resting ≡ 0 = omega (arith, few) in
      let last : Bool = s.last || not (eqb arg 0) in
      subst (λ (n : ℕ). Handled whole s c n (Some (world w)) (runs_desk desk zero arg (Some (world w))) (after_poll (record s { last = last }) s.waiting)) (sym none)
      (subst (λ (b : Bool). Handled whole s c 0 (Some (world w)) (polls (b || not (eqb arg 0)) desk.waiting w) (after_poll (record s { last = last }) s.waiting)) (sym d.last)
      (subst (λ (ws : List ℕ). Handled whole s c 0 (Some (world w)) (polls last ws w) (after_poll (record s { last = last }) s.waiting)) (sym d.waiting)
      (poll_is p.0 w k.1 last s.waiting refl (more_where s.last k.2))))
    where
      more_where : (b : Bool) → (arg ≡ 0 → w.accepted < length whole) → (b || not (eqb arg 0)) ≡ false → w.accepted < length whole
      more_where true m e = cc
      more_where false m e = elim (cases_Bool (eqb arg 0)) [
        | inl t ↦ m (eqb-true arg 0 t)
        | inr f ↦ let e' : true ≡ false = sym (ap not f) ∙ e in cc
      ]
  handle_is (polling desk) (suc zero) arg None p k few =
      subst (λ (b : Bool). Handled whole s c (worlds_of_rest desk.resting) None (waits desk arg) (after_wait s b arg)) p.1.rests
      (wait_is p.0 desk p.1 arg desk.resting refl)
  handle_is (polling desk) (suc (suc zero)) arg (Some (world w)) p k few = absurd (let a = p.0 in let b = k.0 in omega (arith, a, b))
  handle_is (polling desk) (suc (suc (suc zero))) arg (Some (link path)) p k few = absurd (let a = p.0 in let b = k.0 in omega (arith, a, b))
  handle_is (polling desk) (suc (suc (suc (suc more)))) arg None p k few = absurd (let a = p.0 in omega (arith, a, k))
  handle_is (polling desk) (suc (suc (suc (suc more)))) arg (Some line) p k few = absurd (let a = p.0 in omega (arith, a, k))
  handle_is accepting zero arg (Some (world w)) p k few = absurd (let b = k.0 in omega (arith, p, b))
  handle_is accepting (suc zero) arg None p k few = absurd (omega (arith, p, k))
  handle_is accepting (suc (suc zero)) arg (Some (world w)) p k few = accept_is p w k.1 k.2
  handle_is accepting (suc (suc (suc zero))) arg (Some (link path)) p k few = absurd (let b = k.0 in omega (arith, p, b))
  handle_is accepting (suc (suc (suc (suc more)))) arg None p k few = absurd (omega (arith, p, k))
  handle_is accepting (suc (suc (suc (suc more)))) arg (Some line) p k few = absurd (omega (arith, p, k))
  handle_is (talking seat) zero arg (Some (world w)) p k few = absurd (let a = p.0.0 in let b = k.0 in omega (arith, a, b))
  handle_is (talking seat) (suc zero) arg None p k few = absurd (let a = p.0.0 in omega (arith, a, k))
  handle_is (talking seat) (suc (suc zero)) arg (Some (world w)) p k few = absurd (let a = p.0.0 in let b = k.0 in omega (arith, a, b))
  handle_is (talking None) (suc (suc (suc zero))) arg (Some (link path)) p k few =
      let o = opened i path k.1 in
      subst (λ (found : Option (List Step)). Handled whole s c 0 (Some (link path)) (takes_off s.log (length whole) i 3 None path) (after_event s i 3 found)) (sym (p.1 ∙ k.1))
      (path_is p.0 3 None (Some (link path)) path (p.1 ∙ k.1) p.1 (λ later next e. subst HasNoOpening (let e' : next ∷ later ≡ o.first ∷ o.later = sym e ∙ o.path_is in sym (tails next later o.first o.later e')) o.once))
    where
      tails : {A : Type 0} (x : A) (xs : List A) (y : A) (ys : List A) → x ∷ xs ≡ y ∷ ys → xs ≡ ys
      tails x xs y ys e = cc
  handle_is (talking (Some path)) (suc (suc (suc zero))) arg (Some (link l)) p k few =
      subst (λ (found : Option (List Step)). Handled whole s c 0 (Some (link l)) (takes_off s.log (length whole) i 3 (Some path) path) (after_event s i 3 found)) (sym p.1.0)
      (path_is p.0 3 (Some path) (Some (link l)) path p.1.0 p.1 (λ later next e. (subst HasNoOpening e p.1.1).1))
  handle_is (talking None) (suc (suc (suc (suc more)))) arg None p k few =
      subst (λ (found : Option (List Step)). Handled whole s c 0 None (stays (talking None)) (after_event s i (suc (suc (suc (suc more)))) found)) (sym p.1)
      (unopened_is p.0 more (slice_get whole i) refl p.1)
  handle_is (talking (Some path)) (suc (suc (suc (suc more)))) arg None p k few =
      subst (λ (found : Option (List Step)). Handled whole s c 0 None (takes_off s.log (length whole) i (suc (suc (suc (suc more)))) (Some path) path) (after_event s i (suc (suc (suc (suc more)))) found)) (sym p.1.0)
      (path_is p.0 (suc (suc (suc (suc more)))) (Some path) None path p.1.0 p.1 (λ later next e. (subst HasNoOpening e p.1.1).1))
  handle_is logging zero arg (Some (world w)) p k few = absurd (let b = k.0 in omega (arith, p, b))
  handle_is logging (suc zero) arg None p k few = absurd (omega (arith, p, k))
  handle_is logging (suc (suc zero)) arg (Some (world w)) p k few = absurd (let b = k.0 in omega (arith, p, b))
  handle_is logging (suc (suc (suc zero))) arg (Some (link path)) p k few = log_is p 3 (Some (link path))
  handle_is logging (suc (suc (suc (suc more)))) arg None p k few = log_is p (suc (suc (suc (suc more)))) None
  handle_is logging (suc (suc (suc (suc more)))) arg (Some line) p k few = log_is p (suc (suc (suc (suc more)))) (Some line)
  handle_is (talking seat) (suc (suc (suc (suc more)))) arg (Some line) p k few = absurd (let a = p.0.1 in omega (arith, a, k))
  handle_is (polling desk) zero arg None p k few = elim k [ ]
  handle_is (polling desk) zero arg (Some (link path)) p k few = elim k [ ]
  handle_is (polling desk) (suc zero) arg (Some load) p k few = elim k [ ]
  handle_is (polling desk) (suc (suc zero)) arg None p k few = elim k [ ]
  handle_is (polling desk) (suc (suc zero)) arg (Some (link path)) p k few = elim k [ ]
  handle_is (polling desk) (suc (suc (suc zero))) arg None p k few = elim k [ ]
  handle_is (polling desk) (suc (suc (suc zero))) arg (Some (world w)) p k few = elim k [ ]
  handle_is (polling desk) (suc (suc (suc (suc more)))) arg (Some (world w)) p k few = elim k [ ]
  handle_is (polling desk) (suc (suc (suc (suc more)))) arg (Some (link path)) p k few = elim k [ ]
  handle_is accepting zero arg None p k few = elim k [ ]
  handle_is accepting zero arg (Some (link path)) p k few = elim k [ ]
  handle_is accepting (suc zero) arg (Some load) p k few = elim k [ ]
  handle_is accepting (suc (suc zero)) arg None p k few = elim k [ ]
  handle_is accepting (suc (suc zero)) arg (Some (link path)) p k few = elim k [ ]
  handle_is accepting (suc (suc (suc zero))) arg None p k few = elim k [ ]
  handle_is accepting (suc (suc (suc zero))) arg (Some (world w)) p k few = elim k [ ]
  handle_is accepting (suc (suc (suc (suc more)))) arg (Some (world w)) p k few = elim k [ ]
  handle_is accepting (suc (suc (suc (suc more)))) arg (Some (link path)) p k few = elim k [ ]
  handle_is (talking seat) zero arg None p k few = elim k [ ]
  handle_is (talking seat) zero arg (Some (link path)) p k few = elim k [ ]
  handle_is (talking seat) (suc zero) arg (Some load) p k few = elim k [ ]
  handle_is (talking seat) (suc (suc zero)) arg None p k few = elim k [ ]
  handle_is (talking seat) (suc (suc zero)) arg (Some (link path)) p k few = elim k [ ]
  handle_is (talking None) (suc (suc (suc zero))) arg None p k few = elim k [ ]
  handle_is (talking None) (suc (suc (suc zero))) arg (Some (world w)) p k few = elim k [ ]
  handle_is (talking None) (suc (suc (suc (suc more)))) arg (Some (world w)) p k few = elim k [ ]
  handle_is (talking None) (suc (suc (suc (suc more)))) arg (Some (link path)) p k few = elim k [ ]
  handle_is (talking (Some path)) (suc (suc (suc zero))) arg None p k few = elim k [ ]
  handle_is (talking (Some path)) (suc (suc (suc zero))) arg (Some (world w)) p k few = elim k [ ]
  handle_is (talking (Some path)) (suc (suc (suc (suc more)))) arg (Some (world w)) p k few = elim k [ ]
  handle_is (talking (Some path)) (suc (suc (suc (suc more)))) arg (Some (link q)) p k few = elim k [ ]
  handle_is (polling desk) zero arg (Some line) p k few = elim k [ ]
  handle_is (polling desk) (suc (suc zero)) arg (Some line) p k few = elim k [ ]
  handle_is (polling desk) (suc (suc (suc zero))) arg (Some line) p k few = elim k [ ]
  handle_is accepting zero arg (Some line) p k few = elim k [ ]
  handle_is accepting (suc (suc zero)) arg (Some line) p k few = elim k [ ]
  handle_is accepting (suc (suc (suc zero))) arg (Some line) p k few = elim k [ ]
  handle_is logging zero arg (Some line) p k few = elim k [ ]
  handle_is logging (suc (suc zero)) arg (Some line) p k few = elim k [ ]
  handle_is logging (suc (suc (suc zero))) arg (Some line) p k few = elim k [ ]
  handle_is (talking seat) zero arg (Some line) p k few = elim k [ ]
  handle_is (talking seat) (suc (suc zero)) arg (Some line) p k few = elim k [ ]
  handle_is (talking None) (suc (suc (suc zero))) arg (Some line) p k few = elim k [ ]
  handle_is (talking (Some path)) (suc (suc (suc zero))) arg (Some line) p k few = elim k [ ]
  handle_is logging zero arg None p k few = elim k [ ]
  handle_is logging zero arg (Some (link path)) p k few = elim k [ ]
  handle_is logging (suc zero) arg (Some load) p k few = elim k [ ]
  handle_is logging (suc (suc zero)) arg None p k few = elim k [ ]
  handle_is logging (suc (suc zero)) arg (Some (link path)) p k few = elim k [ ]
  handle_is logging (suc (suc (suc zero))) arg None p k few = elim k [ ]
  handle_is logging (suc (suc (suc zero))) arg (Some (world w)) p k few = elim k [ ]
  handle_is logging (suc (suc (suc (suc more)))) arg (Some (world w)) p k few = elim k [ ]
  handle_is logging (suc (suc (suc (suc more)))) arg (Some (link path)) p k few = elim k [ ]
