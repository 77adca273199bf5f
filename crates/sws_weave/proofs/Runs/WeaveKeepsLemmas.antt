-- A weave that runs the server's app: what stands of the run stands after every step.
use Rattle.std.proofs.Common.{◌≡◌, ℕ, Bool, List, Option, ◌∙◌, ap, subst, inl, inr}
use Rattle.mely_event.specs.declared.colour.Colour.{Colour}
use Rattle.mely_event.specs.declared.event.Event.{Event}
use Rattle.mely_event.specs.declared.trail.Trail.{Ghosts as TrailWords}
use Rattle.mely_worker.specs.declared.app.App.{Ghosts as AppWords}
use Rattle.mely_worker.specs.declared.made.Made.{Made}
use Rattle.mely_weave.specs.Runs.{StepsWell}
use Rattle.mely_weave.specs.StandsWell.{StandsWell}
use Rattle.mely_weave.specs.Weave.{WeaveState}
use Rattle.mely_weave.proofs.Runs.RunLemmas.{well_same}
use Rattle.mely_tally.specs.Tallies.{states_of, under_way}
use Rattle.mely_tally.specs.Tells.{OnlyMoves, RunsOne}
use Rattle.mely_tally.proofs.TallyLemmas.{step_tells}
use Rattle.sws_link.specs.declared.Link.{Ghosts as LinkWords}
use Rattle.sws_link.specs.declared.world.World.{Ghosts as WorldWords}
use Rattle.sws_steps.specs.declared.talk.Talk.{Ghosts as TalkWords}
use Rattle.sws_handlers.specs.declared.load.Load.{Load}
use Rattle.sws_handlers.specs.declared.place.Frame.{Frame}
use Rattle.sws_handlers.specs.Place.{PlaceState}
use Rattle.sws_handlers.specs.Loads.{Fit, at_first}
use Rattle.sws_handlers.specs.Handling.{Put, Runs}
use Rattle.sws_weave.specs.RunStands.{RunStands}
use Rattle.sws_weave.proofs.Runs.RunKeepsLemmas.{run_keeps}
use Rattle.sws_weave.proofs.Runs.SameStandsLemmas.{same_stands}

module _ {W L T G H R : Type 0} (x : WorldWords W L) (l : LinkWords L) (y : TalkWords T L G H) (t : TrailWords (PlaceState H W T) (Frame H W)) (fits : Frame H W → Colour → Event → Option (Load W L) → Type 0) (z : AppWords R (Load W L) (PlaceState H W T) (Frame H W)) (app : R)
    (frame_is : (s : PlaceState H W T) → t.frame_of s ≡ record { hall = s.hall; first = s.first })
    (colour_is : (s : PlaceState H W T) → t.colour_of s ≡ s.colour)
    (fits_is : (frame : Frame H W) (c : Colour) (event : Event) (carried : Option (Load W L)) → fits frame c event carried → Fit x l frame.first c event carried)
    (first : W) (log : Bool)
    (runs_is : (s : PlaceState H W T) (event : Event) (carried : Option (Load W L)) (becomes : PlaceState H W T) (puts : List (Put W L)) → z.runs app s event carried becomes puts → Runs x l y log (at_first x l first).total s event carried becomes puts) where
  -- the run stands, over the world that was given at first
  pub record WeaveFact (weave : WeaveState (PlaceState H W T) (Load W L)) : Type 0 where
    pub stands : RunStands y (at_first x l first).total (states_of weave) (under_way weave)
    pub framed : (t.frame_of weave.given).first ≡ first

  moved : (a b : WeaveState (PlaceState H W T) (Load W L)) → OnlyMoves a b → RunStands y (at_first x l first).total (states_of a) (under_way a) → RunStands y (at_first x l first).total (states_of b) (under_way b)
  moved a b moves was = same_stands y (at_first x l first).total (states_of a) (states_of b) (under_way a) (under_way b) moves.states moves.ways was

  ran : (a b : WeaveState (PlaceState H W T) (Load W L)) → RunsOne t fits z app a b → WeaveFact a → RunStands y (at_first x l first).total (states_of b) (under_way b)
  ran a b one was =
      let fit0 : Fit x l (t.frame_of a.given).first (t.colour_of one.state) one.event.0 one.event.1 = fits_is (t.frame_of a.given) (t.colour_of one.state) one.event.0 one.event.1 one.fit in
      let fit1 = subst (λ (w : W). Fit x l w (t.colour_of one.state) one.event.0 one.event.1) was.framed fit0 in
      let fit2 = subst (λ (c : Colour). Fit x l first c one.event.0 one.event.1) (colour_is one.state) fit1 in
      run_keeps x l y first (states_of a) (states_of b) (under_way a) (under_way b) one.state one.becomes one.event one.puts
      (record { front = one.front; back = one.back; was = one.was; is = one.is; held = one.held; ways_are = one.ways })
      was.stands fit2 log (runs_is one.state one.event.0 one.event.1 one.becomes one.puts one.ran)

  pub weave_keeps : (a b : WeaveState (PlaceState H W T) (Load W L)) (core : ℕ) (made : Made) → StandsWell t fits a → StepsWell t fits z app a core made b → WeaveFact a → WeaveFact b
  weave_keeps a b core made well step was = record {
    stands = elim (step_tells t fits z app a b core made well step.call.steps) [ inl moves ↦ moved a b moves was.stands | inr one ↦ ran a b one was ];
    framed = ap (λ (s : PlaceState H W T). (t.frame_of s).first) (well_same t fits z app a b core made step).given ∙ was.framed;
  }
