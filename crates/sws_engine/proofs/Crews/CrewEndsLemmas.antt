-- What the server has come to on threads, where all was run and nothing was refused.
use Rattle.std.proofs.Common.{◌≡◌, Bool, List, [], ◌∷◌, Option, Some, map, sym, ◌∙◌}
use Rattle.std.specs.Prelude.{slice_get}
use Rattle.mely_event.specs.declared.colour.Colour.{Colour}
use Rattle.mely_event.specs.declared.event.Event.{Event}
use Rattle.mely_event.specs.declared.trail.Trail.{Ghosts as TrailWords}
use Rattle.mely_cause.specs.Ended.{RanWithCauses}
use Rattle.mely_cause.proofs.EndedLemmas.{ran_with_causes}
use Rattle.mely_cause.proofs.SerialLawLemmas.{all_ours}
use Rattle.mely_chain.specs.Ended.{NoneLost}
use Rattle.mely_chain.specs.WeaveTold.{IsTold}
use Rattle.mely_history.specs.Setup.{colours_of}
use Rattle.mely_shard.specs.Shard.{ColourState}
use Rattle.mely_worker.specs.declared.app.App.{Ghosts as AppWords}
use Rattle.mely_weave.specs.Drains.{AllFree, HistoriesAreDrained}
use Rattle.mely_weave.specs.Lanes.{AreByColour}
use Rattle.mely_weave.specs.StandsWell.{StandsWell}
use Rattle.mely_weave.specs.Weave.{WeaveState}
use Rattle.sws_link.specs.declared.Link.{Ghosts as LinkWords}
use Rattle.sws_link.specs.declared.world.World.{Ghosts as WorldWords}
use Rattle.sws_steps.specs.declared.talk.Talk.{Ghosts as TalkWords}
use Rattle.sws_handlers.specs.declared.load.Load.{Load}
use Rattle.sws_handlers.specs.declared.place.Frame.{Frame}
use Rattle.sws_handlers.specs.Place.{PlaceState}
use Rattle.sws_handlers.specs.Loads.{Fit, at_first}
use Rattle.sws_handlers.specs.Handling.{Put, Runs}
use Rattle.sws_handlers.specs.Counting.{colours_over}
use Rattle.sws_weave.specs.CrewEnds.{CrewEnds}
use Rattle.sws_engine.specs.CrewLeaves.{first_put}
use Rattle.sws_handlers.specs.Initial.{AreInitialPlacesOver}
use Rattle.sws_engine.proofs.Crews.CrewStandsLemmas.{crew_stands}
use Rattle.sws_engine.proofs.Crews.LogTurnLemmas.{in_turn}
use Rattle.sws_weave.proofs.Runs.StartLemmas.{places_initial, starts}

module _ {W L T G H R : Type 0} (x : WorldWords W L) (l : LinkWords L) (y : TalkWords T L G H) (t : TrailWords (PlaceState H W T) (Frame H W)) (fits : Frame H W → Colour → Event → Option (Load W L) → Type 0) (z : AppWords R (Load W L) (PlaceState H W T) (Frame H W)) (app : R)
    (frame_is : (s : PlaceState H W T) → t.frame_of s ≡ record { hall = s.hall; first = s.first })
    (colour_is : (s : PlaceState H W T) → t.colour_of s ≡ s.colour)
    (fits_is : (frame : Frame H W) (c : Colour) (event : Event) (carried : Option (Load W L)) → fits frame c event carried → Fit x l frame.first c event carried)
    (first : W) (log : Bool)
    (runs_is : (s : PlaceState H W T) (event : Event) (carried : Option (Load W L)) (becomes : PlaceState H W T) (puts : List (Put W L)) → z.runs app s event carried becomes puts → Runs x l y log (at_first x l first).total s event carried becomes puts) where
  pub crew_ends : (hall : H) (firsts states : List (PlaceState H W T)) (weave : WeaveState (PlaceState H W T) (Load W L)) → StandsWell t fits weave
      → IsTold t fits z app (λ c. slice_get firsts c.0) (first_put {L = L} (x.tells first).total first ∷ []) weave → AllFree weave → HistoriesAreDrained weave → NoneLost weave
      → colours_of weave.setup ≡ colours_over (x.tells first).total log → AreInitialPlacesOver y first hall (x.tells first).total (colours_over (x.tells first).total log) firsts
      → AreByColour (λ (lane : ColourState (PlaceState H W T) (Load W L)). lane.state) weave.setup weave.shards (map (λ (s : PlaceState H W T). Some s) states) → CrewEnds y (x.tells first).total log states
  crew_ends hall firsts states weave well told free drained none many initial homes =
      let begin : Put W L = first_put (x.tells first).total first in
      let given : Colour → Option (PlaceState H W T) = λ c. slice_get firsts c.0 in
      let left : Colour → Option (PlaceState H W T) = λ c. slice_get states c.0 in
      let ran : RanWithCauses t fits z app weave begin given left = ran_with_causes t fits z app firsts begin weave well told free drained none (initial.many ∙ sym many) states homes in
      record {
        stands = crew_stands x l y t fits z app frame_is colour_is fits_is first log runs_is weave.setup (t.frame_of weave.given) begin firsts states (λ c. map (λ run. run.1) (ran.order.by_colour c)) ran.serial (all_ours t fits z app weave begin given left ran)
            (λ k s at. (initial.each k s at).initial.world)
            (starts y first (x.tells first).total log firsts (places_initial y first hall (x.tells first).total log firsts initial) first);
        in_turn = λ on i low last place. in_turn x l y t fits z app frame_is colour_is fits_is first log runs_is hall firsts states weave ran many initial homes on i low last place;
      }
