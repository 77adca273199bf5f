-- What the handlers of a run on threads have done, of the account of the weave that its fleet was closed into.
use Rattle.std.proofs.Common.{◌≡◌, ◌<◌, ℕ, suc, ◌==◌, Bool, true, List, [], ◌∷◌, Option, None, Some, map, refl, sym, ◌∙◌, ap, subst, arith}
use Rattle.std.proofs.lemmas.List.Sums.{sum_by-cons, sum_by-append}
use Rattle.std.proofs.lemmas.Option.{slice_get-map, same_Some}
use Rattle.std.specs.Prelude.{sum_by, slice_get, option_map, flat_map, if◌then◌else◌}
use Rattle.mely_event.specs.declared.colour.Colour.{Colour}
use Rattle.mely_event.specs.declared.event.Event.{Event}
use Rattle.mely_event.specs.declared.trail.Trail.{Ghosts as TrailWords}
use Rattle.mely_crew.specs.Crew.{IsRegistered, IsRegisteredIn}
use Rattle.mely_history.specs.History.{registered_of}
use Rattle.mely_history.specs.Setup.{colours_of}
use Rattle.mely_history.specs.declared.entry.Entry.{Entry}
use Rattle.mely_history.specs.declared.setup.Setup.{Setup}
use Rattle.mely_shard.specs.Shard.{ShardState}
use Rattle.mely_tally.specs.Account.{HandlerRun, IsAccounted, IsRunOf, count_put, count_puts, count_run, count_due, count_left, puts_left, sum_along, taken_of}
use Rattle.mely_tally.proofs.SumsLemmas.{sum_nowhere, sum_one}
use Rattle.mely_weave.specs.Drains.{AllFree}
use Rattle.mely_weave.specs.Side.{history_in, history_for, shard_of}
use Rattle.mely_weave.specs.Weave.{WeaveState}
use Rattle.mely_worker.specs.declared.app.App.{Ghosts as AppWords}
use Rattle.mely_worker.specs.declared.phase.Phase.{Phase}
use Rattle.mely_worker.specs.declared.phase.Phase.TheVariants.{Free, Popped, Picked, Landing, Pushing, Turning}
use Rattle.mely_worker.specs.Phase.{is_free}
use Rattle.mely_worker.specs.Worker.{WorkerState}
use Rattle.sws_link.specs.declared.Link.{Ghosts as LinkWords}
use Rattle.sws_link.specs.declared.world.World.{Ghosts as WorldWords}
use Rattle.sws_steps.specs.declared.talk.Talk.{Ghosts as TalkWords}
use Rattle.sws_handlers.specs.declared.load.Load.{Load}
use Rattle.sws_handlers.specs.declared.place.Frame.{Frame}
use Rattle.sws_handlers.specs.Counting.{colours_over}
use Rattle.sws_engine.specs.CrewLeaves.{IsAccountedBy, HandlersRan, IsServerRun, count_on, first_put}
use Rattle.sws_handlers.specs.Handling.{Put, Runs}
use Rattle.sws_handlers.specs.Initial.{first_poll}
use Rattle.sws_handlers.specs.Loads.{FitsTold}
use Rattle.sws_handlers.specs.Place.{PlaceState}
use Rattle.sws_handlers.proofs.Events.WaitingListsLemmas.{each_weaker}
use Rattle.sws_weave.proofs.Ends.PassedLemmas.{free_count}

-- an app accounts for a weave, where the event that was posted is this one
pub accounted_by : {R S P F : Type 0} (t : TrailWords S F) (fits : F → Colour → Event → Option P → Type 0) (a : AppWords R P S F) (total_of : R → ℕ) (log_of : R → Bool) (total : ℕ) (log : Bool) (colour : Colour) (carried : Option P) (weave : WeaveState S P) (app : R) (event first : Event)
    → IsAccounted t fits a app ((colour, event, carried) ∷ []) weave → event ≡ first → total_of app ≡ total → log_of app ≡ log → IsAccountedBy t fits a total_of log_of total log ((colour, first, carried) ∷ []) weave
accounted_by t fits a total_of log_of total log colour carried weave app event first accounted same links logs = record {
  app = app;
  links = links;
  logs = logs;
  accounted = subst (λ (e : Event). IsAccounted t fits a app ((colour, e, carried) ∷ []) weave) same accounted;
}

-- ---- of free workers

free_left : {S P : Type 0} (phase : Phase S P) → is_free phase ≡ true → puts_left phase ≡ []
free_left (Free place) free = refl
free_left (Popped mark) free = cc
free_left (Picked mark victim) free = cc
free_left (Landing mark) free = cc
free_left (Pushing core mark) free = cc
free_left (Turning turn hand puts) free = cc

-- what they have put and not registered was refused
due_lost : {S P : Type 0} (c : Colour) (number : Event → ℕ) (ws : List (WorkerState S P)) → ((i : ℕ) (w : WorkerState S P) → slice_get ws i ≡ Some w → is_free w.phase ≡ true)
    → sum_by (λ (w : WorkerState S P). count_due c number w) ws ≡ count_puts c number (flat_map (λ (w : WorkerState S P). w.lost) ws)
due_lost c number [] free = refl
due_lost {S} {P} c number (w ∷ ws) free =
    let left = ap (λ l. count_puts c number l) (free_left w.phase (free 0 w refl)) in
    let rest = due_lost c number ws (λ i v at. free (suc i) v at) in
    let first = sum_by-cons (λ (v : WorkerState S P). count_due c number v) w ws in
    let both = sum_by-append (count_put c number) w.lost (flat_map (λ (v : WorkerState S P). v.lost) ws) in
    omega (arith, left, rest, first, both)

-- ---- of histories

-- the history that comes out is the one of the colour's shard
shard_history : {S P : Type 0} (o : Option (ShardState S P)) (history : List Entry) → option_map (λ (has : ShardState S P). has.history) o ≡ Some history → history_in o ≡ history
shard_history None history is = cc
shard_history (Some has) history is = same_Some has.history history is

sum_same : {A : Type 0} (f g : A → ℕ) → ((a : A) → f a ≡ g a) → (xs : List A) → sum_by f xs ≡ sum_by g xs
sum_same f g same [] = refl
sum_same f g same (x ∷ xs) =
    let here = same x in
    let rest = sum_same f g same xs in
    let one = sum_by-cons f x xs in
    let other = sum_by-cons g x xs in
    omega (arith, here, rest, one, other)

module _ {R W L T G H : Type 0} (x : WorldWords W L) (l : LinkWords L) (y : TalkWords T L G H) (t : TrailWords (PlaceState H W T) (Frame H W)) (fits : Frame H W → Colour → Event → Option (Load W L) → Type 0) (a : AppWords R (Load W L) (PlaceState H W T) (Frame H W)) (total_of : R → ℕ) (log_of : R → Bool)
    (setup : Setup) (hall : H) (first : W) (log : Bool) (count : ℕ) (weave : WeaveState (PlaceState H W T) (Load W L)) (histories : List (List Entry)) (lost : List (Put W L))
    (by : IsAccountedBy t fits a total_of log_of count log (first_put count first ∷ []) weave) (registered : IsRegistered (record { 0 = 0 }) (first_poll count) weave) (many : count ≡ (x.tells first).total)
    (of_setup : weave.setup ≡ setup) (colours : colours_of setup ≡ colours_over (x.tells first).total log) (of_hall : weave.given.hall ≡ hall) (of_first : weave.given.first ≡ first)
    (histories_are : histories ≡ map (λ has. has.history) weave.shards) (free : AllFree weave) (lost_is : lost ≡ flat_map (λ w. w.lost) weave.workers)
    (colour_is : (s : PlaceState H W T) → t.colour_of s ≡ s.colour) (trail_is : (s : PlaceState H W T) → t.trail_of s ≡ s.trail) (frame_is : (s : PlaceState H W T) → t.frame_of s ≡ record { hall = s.hall; first = s.first })
    (fits_is : (frame : Frame H W) (c : Colour) (event : Event) (carried : Option (Load W L)) → fits frame c event carried → FitsTold x l y frame.hall frame.first c event carried)
    (runs_is : (app : R) (s : PlaceState H W T) (event : Event) (carried : Option (Load W L)) (after : PlaceState H W T) (puts : List (Put W L)) → a.runs app s event carried after puts → Runs x l y (log_of app) (total_of app) s event carried after puts) where
  abbrev total : ℕ
  total = (x.tells first).total

  abbrev frame_by : H → W → Frame H W
  frame_by h w = record { hall = h; first = w }

  given_is : t.frame_of weave.given ≡ frame_by hall first
  given_is = frame_is weave.given ∙ ap (λ (h : H). frame_by h weave.given.first) of_hall ∙ ap (λ (w : W). frame_by hall w) of_first

  one_run : (run : HandlerRun (PlaceState H W T) (Load W L)) → IsRunOf t fits a by.app weave.setup (t.frame_of weave.given) run → IsServerRun x l y hall first log run
  one_run run is =
      let framed : t.frame_of run.state ≡ frame_by hall first = is.framed ∙ given_is in
      let own = sym (frame_is run.state) ∙ framed in record {
        ran = subst (λ (n : ℕ). Runs x l y log n run.state run.event run.load run.becomes run.puts) (by.links ∙ many)
            (subst (λ (b : Bool). Runs x l y b (total_of by.app) run.state run.event run.load run.becomes run.puts) by.logs (runs_is by.app run.state run.event run.load run.becomes run.puts is.ran));
        there = subst (λ (n : ℕ). run.colour.0 < n) (ap (λ (s : Setup). colours_of s) of_setup ∙ colours) is.there;
        coloured = sym (colour_is run.state) ∙ is.coloured;
        over = (ap (λ (f : Frame H W). f.hall) own, ap (λ (f : Frame H W). f.first) own);
        fit = subst (λ (f : Frame H W). FitsTold x l y f.hall f.first run.colour run.event run.load) given_is (fits_is (t.frame_of weave.given) run.colour run.event run.load is.fit);
      }

  history_is : (c : Colour) (history : List Entry) → slice_get histories (shard_of weave.setup c) ≡ Some history → history_for weave.setup weave.shards c ≡ history
  history_is c history at =
      shard_history (slice_get weave.shards (shard_of weave.setup c)) history
      (sym (slice_get-map (λ (has : ShardState (PlaceState H W T) (Load W L)). has.history) weave.shards (shard_of weave.setup c)) ∙ ap (λ (hs : List (List Entry)). slice_get hs (shard_of weave.setup c)) (sym histories_are) ∙ at)

  in_setup : (c : Colour) (history : List Entry) → slice_get histories (shard_of setup c) ≡ Some history → slice_get histories (shard_of weave.setup c) ≡ Some history
  in_setup c history at = ap (λ (s : Setup). slice_get histories (shard_of s c)) of_setup ∙ at

  begun_is : (history : List Entry) → slice_get histories (shard_of setup (record { 0 = 0 })) ≡ Some history → IsRegisteredIn setup (record { 0 = 0 }) (first_poll total) history
  begun_is history at =
      let same : registered.has.history ≡ history = ap (λ o. history_in o) (sym registered.there) ∙ history_is (record { 0 = 0 }) history (in_setup (record { 0 = 0 }) history at) in
      subst (λ (n : ℕ). IsRegisteredIn setup (record { 0 = 0 }) (first_poll n) history) many
      (subst (λ (s : Setup). IsRegisteredIn s (record { 0 = 0 }) (first_poll count) history) of_setup
      (subst (λ (h : List Entry). IsRegisteredIn weave.setup (record { 0 = 0 }) (first_poll count) h) same registered.registered))

  -- they are accounted for
  pub handlers_ran : HandlersRan x l y hall first log setup histories lost
  handlers_ran = (
    by.accounted.0,
    record {
      begun = begun_is;
      each = each_weaker (IsRunOf t fits a by.app weave.setup (t.frame_of weave.given)) (IsServerRun x l y hall first log) one_run by.accounted.0 by.accounted.1.each;
      put = λ c history at number.
          let all = by.accounted.1.put c number in
          let same = ap (λ h. sum_by number (registered_of h c)) (history_is c history (in_setup c history at)) in
          let due = due_lost c number weave.workers free ∙ ap (λ l. count_puts c number l) (sym lost_is) in
          let one = sum_one (count_put c number) (first_put {L = L} count first) in
          let begins = ap (λ (n : ℕ). count_put c number (first_put {L = L} n first)) many in
          omega (arith, all, same, due, one, begins);
      ran = λ c history at number.
          let all = by.accounted.1.ran c number in
          let left = sum_nowhere (λ (w : WorkerState (PlaceState H W T) (Load W L)). count_left t c number w.phase) weave.workers (λ k w there. free_count t c number w.phase (free k w there)) in
          let same = ap (λ h. sum_along number [] (taken_of h c)) (history_is c history (in_setup c history at)) in
          let counted = sum_same (count_run t c number) (count_on c number) (λ run. ap (λ (trail : List Event). if run.colour.0 == c.0 then number trail run.event else 0) (trail_is run.state)) by.accounted.0 in
          omega (arith, all, left, same, counted);
    },
  )
