-- What the parts have come to of a weave that a crew has run.
use Rattle.std.proofs.Common.{◌≡◌, ℕ, Bool, List, [], ◌∷◌, Option, Some, map, sym, ◌∙◌, ap, subst}
use Rattle.std.specs.Prelude.{flat_map, slice_get}
use Rattle.mely_event.specs.declared.colour.Colour.{Colour}
use Rattle.mely_event.specs.declared.event.Event.{Event}
use Rattle.mely_event.specs.declared.trail.Trail.{Ghosts as TrailWords}
use Rattle.mely_chain.specs.WeaveTold.{IsTold}
use Rattle.mely_crew.specs.Crew.{RanBehind}
use Rattle.mely_history.specs.Setup.{colours_of}
use Rattle.mely_history.specs.declared.entry.Entry.{Entry}
use Rattle.mely_history.specs.declared.setup.Setup.{Setup}
use Rattle.mely_shard.specs.Shard.{ColourState}
use Rattle.mely_weave.specs.Lanes.{AreByColour}
use Rattle.mely_weave.specs.StandsWell.{StandsWell}
use Rattle.mely_weave.specs.Weave.{WeaveState}
use Rattle.mely_weave.specs.declared.draining.Drained.{Drained}
use Rattle.mely_weave.specs.declared.draining.Drained.TheVariants.{Empty}
use Rattle.mely_worker.specs.Worker.{WorkerState}
use Rattle.mely_worker.specs.declared.app.App.{Ghosts as AppWords}
use Rattle.sws_link.specs.declared.Link.{Ghosts as LinkWords}
use Rattle.sws_link.specs.declared.world.World.{Ghosts as WorldWords}
use Rattle.sws_steps.specs.declared.talk.Talk.{Ghosts as TalkWords}
use Rattle.sws_handlers.specs.declared.load.Load.{Load}
use Rattle.sws_handlers.specs.declared.place.Frame.{Frame}
use Rattle.sws_weave.specs.Begins.{IsAtRest}
use Rattle.sws_handlers.specs.Counting.{colours_over}
use Rattle.sws_weave.specs.CrewEnds.{CrewEnds}
use Rattle.sws_engine.specs.CrewLeaves.{IsToldBy, first_put}
use Rattle.sws_engine.specs.Gated.{RanBehindBy, ThreadsPassed}
use Rattle.sws_handlers.specs.Handling.{Put, Runs}
use Rattle.sws_handlers.specs.Initial.{AreInitialPlacesOver}
use Rattle.sws_handlers.specs.Loads.{Fit}
use Rattle.sws_handlers.specs.Place.{PlaceState}
use Rattle.sws_engine.proofs.Crews.CrewEndsLemmas.{crew_ends}
use Rattle.sws_weave.proofs.Ends.PartedLemmas.{none_in}

-- notes tell of an app, where the event that was posted is this one
pub told_by : {R S P F : Type 0} (t : TrailWords S F) (fits : F → Colour → Event → Option P → Type 0) (a : AppWords R P S F) (total_of : R → ℕ) (log_of : R → Bool) (given : Colour → Option S) (total : ℕ) (log : Bool) (colour : Colour) (carried : Option P) (weave : WeaveState S P) (app : R) (event first : Event)
    → IsTold t fits a app given ((colour, event, carried) ∷ []) weave → event ≡ first → total_of app ≡ total → log_of app ≡ log → IsToldBy t fits a total_of log_of given total log ((colour, first, carried) ∷ []) weave
told_by t fits a total_of log_of given total log colour carried weave app event first told same links logs = record {
  app = app;
  links = links;
  logs = logs;
  told = subst (λ (e : Event). IsTold t fits a app given ((colour, e, carried) ∷ []) weave) same told;
}

-- so it is of what was run behind a gate
pub behind_by : {R S P F : Type 0} (t : TrailWords S F) (fits : F → Colour → Event → Option P → Type 0) (a : AppWords R P S F) (total_of : R → ℕ) (log_of : R → Bool) (passed : ℕ → Colour → Event → Type 0) (given : Colour → Option S) (total : ℕ) (log : Bool) (colour : Colour) (carried : Option P) (drained : Drained) (weave : WeaveState S P) (app : R) (event first : Event)
    → RanBehind t fits a app passed given ((colour, event, carried) ∷ []) drained weave → event ≡ first → total_of app ≡ total → log_of app ≡ log → RanBehindBy t fits a total_of log_of passed given total log ((colour, first, carried) ∷ []) drained weave
behind_by t fits a total_of log_of passed given total log colour carried drained weave app event first behind same links logs = record {
  app = app;
  links = links;
  logs = logs;
  behind = subst (λ (e : Event). RanBehind t fits a app passed given ((colour, e, carried) ∷ []) drained weave) same behind;
}

module _ {R W L T G H : Type 0} (y : TalkWords T L G H) (t : TrailWords (PlaceState H W T) (Frame H W)) (fits : Frame H W → Colour → Event → Option (Load W L) → Type 0) (a : AppWords R (Load W L) (PlaceState H W T) (Frame H W)) (total_of : R → ℕ) (log_of : R → Bool) (passed : ℕ → Colour → Event → Type 0) (hall : H) (first : W) (log : Bool) where
  -- so threads have passed the gate, over as many links as the world tells
  pub threads_passed : (count total : ℕ) (histories : List (List Entry)) (states : List (PlaceState H W T)) (drained : Drained) (weave : WeaveState (PlaceState H W T) (Load W L)) → count ≡ total
      → AreInitialPlacesOver y first hall count (colours_over count log) states → RanBehindBy t fits a total_of log_of passed (λ c. slice_get states c.0) count log (first_put count first ∷ []) drained weave
      → histories ≡ map (λ has. has.history) weave.shards → ThreadsPassed y t fits a total_of log_of passed hall first total log histories
  threads_passed count total histories states drained weave same initial ran are =
      subst (λ (n : ℕ). ThreadsPassed y t fits a total_of log_of passed hall first n log histories) same (record {
        states = states;
        initial = initial;
        drained = drained;
        weave = weave;
        ran = ran;
        are = are;
      })

  pub passed_as : (total : ℕ) (histories others : List (List Entry)) → ThreadsPassed y t fits a total_of log_of passed hall first total log histories → others ≡ histories → ThreadsPassed y t fits a total_of log_of passed hall first total log others
  passed_as total histories others has same = subst (λ (hs : List (List Entry)). ThreadsPassed y t fits a total_of log_of passed hall first total log hs) (sym same) has

module _ {R W L T G H : Type 0} (x : WorldWords W L) (l : LinkWords L) (y : TalkWords T L G H) (t : TrailWords (PlaceState H W T) (Frame H W)) (fits : Frame H W → Colour → Event → Option (Load W L) → Type 0) (a : AppWords R (Load W L) (PlaceState H W T) (Frame H W)) (total_of : R → ℕ) (log_of : R → Bool)
    (setup : Setup) (hall : H) (first : W) (log : Bool) (count : ℕ) (how : Drained) (weave : WeaveState (PlaceState H W T) (Load W L)) (firsts states : List (PlaceState H W T)) (lost : List (Put W L))
    (by : IsToldBy t fits a total_of log_of (λ c. slice_get firsts c.0) count log (first_put count first ∷ []) weave) (many : count ≡ (x.tells first).total)
    (well : StandsWell t fits weave) (rests : IsAtRest setup weave how) (colours : colours_of setup ≡ colours_over (x.tells first).total log)
    (initial : AreInitialPlacesOver y first hall count (colours_over count log) firsts)
    (homes : AreByColour (λ (lane : ColourState (PlaceState H W T) (Load W L)). lane.state) weave.setup weave.shards (map (λ (s : PlaceState H W T). Some s) states)) (lost_is : lost ≡ flat_map (λ w. w.lost) weave.workers)
    (colour_is : (s : PlaceState H W T) → t.colour_of s ≡ s.colour) (frame_is : (s : PlaceState H W T) → t.frame_of s ≡ record { hall = s.hall; first = s.first })
    (fits_is : (frame : Frame H W) (c : Colour) (event : Event) (carried : Option (Load W L)) → fits frame c event carried → Fit x l frame.first c event carried)
    (runs_is : (app : R) (s : PlaceState H W T) (event : Event) (carried : Option (Load W L)) (after : PlaceState H W T) (puts : List (Put W L)) → a.runs app s event carried after puts → Runs x l y (log_of app) (total_of app) s event carried after puts) where
  runs_so : (s : PlaceState H W T) (event : Event) (carried : Option (Load W L)) (after : PlaceState H W T) (puts : List (Put W L)) → a.runs by.app s event carried after puts → Runs x l y log (x.tells first).total s event carried after puts
  runs_so s event carried after puts ran =
      subst (λ (n : ℕ). Runs x l y log n s event carried after puts) (by.links ∙ many)
      (subst (λ (b : Bool). Runs x l y b (total_of by.app) s event carried after puts) by.logs (runs_is by.app s event carried after puts ran))

  -- where all was run and nothing was refused
  pub parts_end : how ≡ Empty → lost ≡ [] → CrewEnds y (x.tells first).total log states
  parts_end empty none =
      crew_ends x l y t fits a by.app frame_is colour_is fits_is first log runs_so hall firsts states weave well
      (subst (λ (n : ℕ). IsTold t fits a by.app (λ c. slice_get firsts c.0) (first_put {L = L} n first ∷ []) weave) many by.told)
      rests.free (rests.drained empty)
      (λ core w at. none_in (λ (v : WorkerState (PlaceState H W T) (Load W L)). v.lost) weave.workers core w (sym lost_is ∙ none) at)
      (ap (λ (s : Setup). colours_of s) rests.of_setup ∙ colours)
      (subst (λ (n : ℕ). AreInitialPlacesOver y first hall n (colours_over n log) firsts) many initial) homes
