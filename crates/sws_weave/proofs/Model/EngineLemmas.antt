-- A run of the engine over a scripted world is the server's on the paths of its links.
use Rattle.std.proofs.lemmas.Bool.{eq-eqb, ne_eqb}
use Rattle.std.specs.Prelude.{if◌then◌else◌}
use Rattle.std.proofs.Common.{cond, ◌≡◌, ◌+◌, ◌≤◌, ℕ, zero, suc, All, Bool, true, false, List, Option, None, Some, Ok, length, map, arith, refl, sym, ap, subst, ◌∙◌}
use Rattle.mely_event.specs.declared.colour.Colour.{Colour}
use Rattle.mely_event.specs.declared.event.Event.{Event}
use Rattle.mely_event.specs.declared.trail.Trail.{Ghosts as TrailWords}
use Rattle.mely_history.specs.declared.setup.Setup.{Setup}
use Rattle.mely_history.specs.declared.shape.Shape.{Shape}
use Rattle.mely_history.specs.declared.entry.Entry.{Entry}
use Rattle.mely_worker.specs.declared.app.App.{Ghosts as AppWords}
use Rattle.mely_history.specs.declared.registered.Registered.{Registered}
use Rattle.mely_history.specs.Setup.{colours_of}
use Rattle.mely_weave.specs.StandsWell.{StandsWell}
use Rattle.mely_weave.specs.Weave.{WeaveState}
use Rattle.mely_weave.specs.Steps.{PostsAt}
use Rattle.mely_weave.specs.Making.{IsInitialWeave}
use Rattle.mely_weave.specs.Runs.{KeepsSetup, RunsTo}
use Rattle.mely_history.specs.Schedules.{spelled_out}
use Rattle.mely_weave.specs.Drains.{Drains}
use Rattle.mely_weave.specs.declared.running.Went.TheVariants as went
use Rattle.mely_weave.specs.declared.draining.Drained.{Drained}
use Rattle.mely_weave.specs.declared.draining.Drained.TheVariants.{Empty}
use Rattle.mely_weave.specs.Lanes.{AreByColour}
use Rattle.mely_machine.specs.Rules.{rules_of}
use Rattle.mely_run.specs.WholeRuns.{IsBegun, IsRunOut, IsWholeRun}
use Rattle.mely_run.proofs.Lists.ElementsLemmas.{there_of}
use Rattle.mely_run.proofs.Runs.FrameLemmas.{framed_there}
use Rattle.sws_link.specs.declared.Link.{Ghosts as LinkWords}
use Rattle.sws_link.specs.declared.world.World.{Ghosts as WorldWords}
use Rattle.sws_steps.specs.declared.talk.Talk.{Ghosts as TalkWords}
use Rattle.sws_steps.specs.Logs.{Step, bit}
use Rattle.sws_steps.specs.Talks.{StepsServed}
use Rattle.sws_conn.specs.Outcome.{UnlessMemory}
use Rattle.sws_steps.specs.declared.Handler.{Handler}
use Rattle.sws_handlers.specs.declared.load.WorldLoad.{WorldLoad}
use Rattle.sws_handlers.specs.declared.load.Load.{Load}
use Rattle.sws_handlers.specs.declared.load.Load.TheVariants as load
use Rattle.sws_handlers.specs.declared.place.Frame.{Frame}
use Rattle.sws_handlers.specs.declared.place.Seat.{Seat}
use Rattle.sws_handlers.specs.declared.place.Role.{Role}
use Rattle.sws_handlers.specs.declared.place.Role.TheVariants.{Polling, Accepting, Talking, Logging}
use Rattle.sws_handlers.specs.Place.{PlaceState}
use Rattle.sws_handlers.specs.Loads.{Fit}
use Rattle.sws_handlers.specs.Counting.{colours_over}
use Rattle.sws_handlers.specs.Initial.{IsInitialRole, AreInitialPlacesOver, first_poll, initial_load}
use Rattle.sws_handlers.specs.Handling.{Runs}
use Rattle.sws_handlers.specs.PathPlaces as path
use Rattle.sws_handlers.specs.PathStates.{TellsPaths, HasRest, HasRole, HasPlace, HasLoad, IsPlacedAt, is_spoilt, ArePuts}
use Rattle.sws_weave.specs.Server.{Server, first_event}
use Rattle.sws_weave.specs.ServerRun.{server_rules, IsRunOfPaths}
use Rattle.sws_weave.specs.Openings.{AreOpened}
use Rattle.sws_weave.proofs.Model.Agrees.{PlaceAgrees}
use Rattle.sws_weave.proofs.Model.Placed.{IsPlaced, initial_place, AreInitialPlacesBy}
use Rattle.sws_weave.specs.Posted.{IsPosted}
use Rattle.mely_weave.specs.WeaveRun.{PostCall}
use Rattle.sws_weave.specs.ServedRun.{HasRunOut}
use Rattle.sws_handlers.proofs.Paths.PathServerLemmas.{worlds_of_state, worlds_of_load, place_runs, stays_spoilt, state_counts, load_counts, first_world}
use Rattle.sws_weave.proofs.Model.FirstLemmas.{server_run}

bit_small : (log : Bool) → bit log ≤ 1
bit_small true = omega arith
bit_small false = omega arith

-- where a place stands by the function, it is that of its colour
placed_at : (whole : List (List Step)) (s : Server) (c : Colour) (place : path.Place) → PlaceAgrees whole s c place → IsPlacedAt (length whole) c place
placed_at whole s c (path.polling d) stands = stands.0
placed_at whole s c path.accepting stands = stands
placed_at whole s c (path.talking rest) stands = stands.0
placed_at whole s c path.logging stands = stands

-- the first event is the first poll
abbrev poll_told : Bool → Colour × Event
poll_told none = (record { 0 = 0 }, record { handler = 0; arg = cond none 1 0 })

first_is : (n : ℕ) → first_event n ≡ (record { 0 = 0 }, first_poll n)
first_is zero = refl
first_is (suc n) = ap poll_told (sym (ne_eqb (suc n) 0 (λ e. omega (arith, e))))

module _ {W L T G H : Type 0} (x : WorldWords W L) (l : LinkWords L) (y : TalkWords T L G H) (hall : H) (first : W) (paths : List (List Step)) where
  -- an initial role has what there is at first
  initial_role : (total i : ℕ) (role : Role W T) → IsInitialRole y first total i role → ((seat : Seat T) → role ≡ Talking seat → y.hall_of seat.talk ≡ hall) → HasRole x l y hall paths role (initial_place total i)
  initial_role total zero (Polling desk) initial own = record {
    waiting = sym initial.1;
    last = sym initial.2;
    resting = subst (λ (r : Option (WorldLoad W)). HasRest x l y hall paths r None) (sym initial.3) tt;
  }
  initial_role total zero Accepting initial own = absurd (omega (arith, initial))
  initial_role total zero (Talking seat) initial own = let low = initial.0.0 in absurd (omega (arith, low))
  initial_role total (suc zero) (Polling desk) initial own = let nought = initial.0 in absurd (omega (arith, nought))
  initial_role total (suc zero) Accepting initial own = tt
  initial_role total (suc zero) (Talking seat) initial own = let low = initial.0.0 in absurd (omega (arith, low))
  initial_role total (suc (suc n)) (Polling desk) initial own = let nought = initial.0 in absurd (omega (arith, nought))
  initial_role total (suc (suc n)) Accepting initial own = absurd (omega (arith, initial))
  initial_role total (suc (suc n)) (Talking seat) initial own =
      let below = initial.0.1 in
      subst (λ (b : Bool). HasRole x l y hall paths (Talking seat) (if b then path.logging else path.talking None)) (sym (ne_eqb n total (λ e. omega (arith, e, below)))) (own seat refl, initial.1)
  initial_role total zero Logging initial own = absurd (omega (arith, initial))
  initial_role total (suc zero) Logging initial own = absurd (omega (arith, initial))
  initial_role total (suc (suc n)) Logging initial own =
      subst (λ (b : Bool). HasRole x l y hall paths Logging (if b then path.logging else path.talking None)) (sym (eq-eqb n total (omega (arith, initial)))) tt

  initial_places : (total count : ℕ) (states : List (PlaceState H W T)) → AreInitialPlacesOver y first hall total count states → AreInitialPlacesBy (HasPlace x l y hall paths) total 0 states
  initial_places total count states initial i state there =
      let is = initial.each i state there in
      subst (λ (n : ℕ). HasPlace x l y hall paths state (initial_place total n)) (let e : i ≡ 0 + i = omega arith in e) (initial_role total i state.role is.initial.role is.own_hall)

  module _ {R : Type 0} (t : TrailWords (PlaceState H W T) (Frame H W)) (fits : Frame H W → Colour → Event → Option (Load W L) → Type 0) (a : AppWords R (Load W L) (PlaceState H W T) (Frame H W)) (total_of : R → ℕ) (log_of : R → Bool)
      (coloured : (s : PlaceState H W T) → t.colour_of s ≡ s.colour) (framed : (s : PlaceState H W T) → t.frame_of s ≡ record { hall = s.hall; first = s.first })
      (fits_is : (frame : Frame H W) (c : Colour) (event : Event) (carried : Option (Load W L)) → fits frame c event carried → Fit x l frame.first c event carried)
      (runs_is : (app : R) (s : PlaceState H W T) (event : Event) (carried : Option (Load W L)) (after : PlaceState H W T) (puts : List (Colour × Event × Option (Load W L))) → a.runs app s event carried after puts → Runs x l y (log_of app) (total_of app) s event carried after puts) where
    abbrev frame : Frame H W
    frame = record { hall = hall; first = first }

    -- over a scripted world the engine's app is the server on the paths
    engine_placed : (log : Bool) (app : R) → total_of app ≡ length paths → log_of app ≡ log → TellsPaths x l y hall first paths
        → ((link : L) (trail : List Handler) (talk : T) → y.has_run link trail talk → UnlessMemory (y.view_of talk).end (StepsServed (y.steps (y.hall_of talk)) (l.tells link) trail (y.told talk) (y.view_of talk)))
        → IsPlaced t fits a app frame (HasPlace x l y hall paths) (HasLoad x l y hall paths) worlds_of_state worlds_of_load (is_spoilt y) log paths
    engine_placed log app total logs tells steps_law = record {
      held = λ state place is. state_counts x l y hall paths state place is;
      carriage = λ carried p is. load_counts x l y hall paths carried p is;
      runs = λ s state after event carried puts place p of_frame fit is_place stands are comes alone ran fine.
          let c_is : t.colour_of state ≡ state.colour = coloured state in
          let fit_there : Fit x l first state.colour event carried = subst (λ (c : Colour). Fit x l first c event carried) c_is (fits_is frame (t.colour_of state) event carried fit) in
          let at : IsPlacedAt (x.tells first).total state.colour place = subst (λ (c : Colour). IsPlacedAt (x.tells first).total c place) c_is (subst (λ (n : ℕ). IsPlacedAt n (t.colour_of state) place) (sym tells.many) (placed_at paths s (t.colour_of state) place stands)) in
          let did = place_runs x l y hall first paths tells steps_law log (total_of app) state after event carried puts place p fit_there at is_place are alone (subst (λ (b : Bool). Runs x l y b (total_of app) state event carried after puts) logs (runs_is app state event carried after puts ran)) fine in
          subst (λ (c : Colour). HasPlace x l y hall paths after (path.runs_place log (length paths) c place event p).place × ArePuts (HasLoad x l y hall paths) puts (path.runs_place log (length paths) c place event p).puts) (sym c_is)
          (subst (λ (n : ℕ). HasPlace x l y hall paths after (path.runs_place log n state.colour place event p).place × ArePuts (HasLoad x l y hall paths) puts (path.runs_place log n state.colour place event p).puts) total did);
      spoilt_after = λ state after event carried puts ran is. stays_spoilt x l y (total_of app) (log_of app) state after event carried puts (runs_is app state event carried after puts ran) is;
    }

    -- and so its histories are the server's
    pub engine_run : (log : Bool) (setup : Setup) (schedule : List (ℕ × ℕ)) (end : WeaveState (PlaceState H W T) (Load W L)) (histories : List (List Entry)) (left : List (PlaceState H W T))
        → ((link : L) (trail : List Handler) (talk : T) → y.has_run link trail talk → UnlessMemory (y.view_of talk).end (StepsServed (y.steps (y.hall_of talk)) (l.tells link) trail (y.told talk) (y.view_of talk)))
        → HasRunOut x y t fits a total_of log_of log setup first hall schedule end
        → histories ≡ map (λ has. has.history) end.shards → AreByColour (λ lane. lane.state) end.setup end.shards (map (λ state. Some state) left)
        → TellsPaths x l y hall first paths → AreOpened paths → All (λ place. is_spoilt y place ≡ false) left
        → (shape : Shape) → rules_of setup ≡ server_rules shape → IsRunOfPaths shape log paths schedule histories
    engine_run log setup schedule end histories left steps_law has told states_left tells opened fine shape ruled =
        let posts : first_event (length paths) ≡ (record { 0 = 0 }, first_poll (x.tells first).total) = first_is (length paths) ∙ ap (λ (n : ℕ). (record { 0 = 0 }, first_poll n)) (sym tells.many) in
        let whole : IsWholeRun t fits a has.app setup has.states (first_event (length paths)).0 (first_event (length paths)).1 (Some (load.World (initial_load first))) schedule histories left =
        record {
          posted = has.posted;
          end = end;
          begun = subst (λ (e : Colour × Event). IsBegun t fits setup has.states e.0 e.1 (Some (load.World (initial_load first))) has.posted) (sym posts) has.begun;
          out = has.out;
          told = told;
          states_left = states_left;
        } in
        let many = has.initial.many in
        let one = there_of has.states 0 (omega (arith, many)) in
        let initial = has.initial.each 0 one.0 one.1 in
        let same_frame : t.frame_of whole.posted.given ≡ frame =
        framed_there whole one.0 one.1 ∙ framed one.0 ∙ (λ i. record { hall = initial.hall_is i; first = initial.initial.world i }) in
        server_run frame (HasPlace x l y hall paths) (HasLoad x l y hall paths) worlds_of_state worlds_of_load (is_spoilt y) log paths opened (engine_placed log has.app (has.total ∙ tells.many) has.logs tells steps_law)
        (let few = bit_small log in let total = tells.many in omega (arith, many, few, total))
        (subst (λ (n : ℕ). AreInitialPlacesBy (HasPlace x l y hall paths) n 0 has.states) tells.many (initial_places (x.tells first).total (colours_over (x.tells first).total log) has.states has.initial)) (first_world x l y hall paths first) whole same_frame fine shape ruled

-- ---- what the calls of a run leave

-- a post of an event that is the one that is told
pub begun_at : {S P F : Type 0} (t : TrailWords S F) (fits : F → Colour → Event → Option P → Type 0) (setup : Setup) (states : List S) (c : Colour) (event posted_event : Event) (load : Option P) (first posted : WeaveState S P) (reply : Registered)
    → posted_event ≡ event → length states ≡ colours_of setup → IsInitialWeave setup states first → StandsWell t fits first → PostsAt t first c posted_event load (Ok reply) posted → KeepsSetup first posted → StandsWell t fits posted
    → IsBegun t fits setup states c event load posted
begun_at t fits setup states c event posted_event load first posted reply same_event all made well posts same well_posted = record {
  first = first;
  reply = reply;
  all = all;
  made = made;
  well = well;
  posts = subst (λ (e : Event). PostsAt t first c e load (Ok reply) posted) same_event posts;
  same = same;
  well_posted = well_posted;
}

-- so it was posted
pub posted_at : {S P F : Type 0} (t : TrailWords S F) (fits : F → Colour → Event → Option P → Type 0) (setup : Setup) (states : List S) (c : Colour) (event posted_event : Event) (load : Option P) (first posted : WeaveState S P) (reply : Registered)
    → posted_event ≡ event → IsInitialWeave setup states first → StandsWell t fits first → PostCall t fits c posted_event load (Ok reply) first posted → IsPosted t fits setup states c event load posted
posted_at t fits setup states c event posted_event load first posted reply same_event made well call = record {
  first = first;
  reply = reply;
  made = made;
  well = well;
  call = subst (λ (e : Event). PostCall t fits c e load (Ok reply) first posted) same_event call;
}

-- a run of the schedule, and then a drain that was answered so
pub run_out_at : {S P F R : Type 0} (t : TrailWords S F) (fits : F → Colour → Event → Option P → Type 0) (y : AppWords R P S F) (app : R) (posted ran end : WeaveState S P) (schedule : List (ℕ × ℕ)) (ended : Drained)
    → RunsTo t fits y app posted (spelled_out schedule) went.All ran → Drains t fits y app ran ended end → StandsWell t fits end → ended ≡ Empty → IsRunOut t fits y app posted schedule end
run_out_at t fits y app posted ran end schedule ended runs drains well empty = record {
  ran = ran;
  runs = runs;
  drains = subst (λ (d : Drained). Drains t fits y app ran d end) empty drains;
  well = well;
}

-- the same from the initial states on, over as many links as the world tells
pub has_run_out : {W L T G H R : Type 0} (x : WorldWords W L) (y : TalkWords T L G H) (t : TrailWords (PlaceState H W T) (Frame H W)) (fits : Frame H W → Colour → Event → Option (Load W L) → Type 0) (a : AppWords R (Load W L) (PlaceState H W T) (Frame H W)) (total_of : R → ℕ) (log_of : R → Bool) (log : Bool)
    (setup : Setup) (first : W) (hall : H) (schedule : List (ℕ × ℕ)) (app : R) (n : ℕ) (states : List (PlaceState H W T)) (posted end : WeaveState (PlaceState H W T) (Load W L))
    → n ≡ (x.tells first).total → total_of app ≡ n → log_of app ≡ log → AreInitialPlacesOver y first hall n (colours_over n log) states → IsBegun t fits setup states (record { 0 = 0 }) (first_poll n) (Some (load.World (initial_load first))) posted → IsRunOut t fits a app posted schedule end
    → HasRunOut x y t fits a total_of log_of log setup first hall schedule end
has_run_out x y t fits a total_of log_of log setup first hall schedule app n states posted end is total logs initial begun out = record {
  app = app;
  total = total ∙ is;
  logs = logs;
  states = states;
  initial = subst (λ (k : ℕ). AreInitialPlacesOver y first hall k (colours_over k log) states) is initial;
  posted = posted;
  begun = subst (λ (k : ℕ). IsBegun t fits setup states (record { 0 = 0 }) (first_poll k) (Some (load.World (initial_load first))) posted) is begun;
  out = out;
}
