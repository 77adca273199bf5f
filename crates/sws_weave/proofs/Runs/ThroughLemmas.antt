-- A schedule and a drain keep what stands of a run.
use Rattle.std.proofs.Common.{◌≡◌, ℕ, Bool, List, Option, sym, ◌∙◌, ap, subst}
use Rattle.mely_event.specs.declared.colour.Colour.{Colour}
use Rattle.mely_event.specs.declared.event.Event.{Event}
use Rattle.mely_event.specs.declared.trail.Trail.{Ghosts as TrailWords}
use Rattle.mely_worker.specs.declared.app.App.{Ghosts as AppWords}
use Rattle.mely_weave.specs.declared.draining.Drained.{Drained}
use Rattle.mely_weave.specs.declared.running.Went.{Went}
use Rattle.mely_weave.specs.StandsWell.{StandsWell}
use Rattle.mely_weave.specs.Weave.{WeaveState}
use Rattle.mely_weave.specs.Runs.{RunsTo}
use Rattle.mely_weave.specs.Drains.{Drains}
use Rattle.mely_tally.proofs.CarryingLemmas.{carry_run, carry_drain}
use Rattle.sws_link.specs.declared.Link.{Ghosts as LinkWords}
use Rattle.sws_link.specs.declared.world.World.{Ghosts as WorldWords}
use Rattle.sws_steps.specs.declared.talk.Talk.{Ghosts as TalkWords}
use Rattle.sws_handlers.specs.declared.load.Load.{Load}
use Rattle.sws_handlers.specs.declared.place.Frame.{Frame}
use Rattle.sws_handlers.specs.Place.{PlaceState}
use Rattle.sws_handlers.specs.Loads.{Fit, at_first}
use Rattle.sws_handlers.specs.Handling.{Put, Runs}
use Rattle.sws_weave.specs.RunFact.{RunFact}
use Rattle.sws_weave.proofs.Runs.WeaveKeepsLemmas.{WeaveFact, weave_keeps}

pub through : {W L T G H R : Type 0} (x : WorldWords W L) (l : LinkWords L) (y : TalkWords T L G H) (t : TrailWords (PlaceState H W T) (Frame H W)) (fits : Frame H W → Colour → Event → Option (Load W L) → Type 0) (z : AppWords R (Load W L) (PlaceState H W T) (Frame H W)) (app : R) (first : W) (total : ℕ) (log : Bool)
    (a b c : WeaveState (PlaceState H W T) (Load W L)) (cores : List ℕ) (went : Went) (drained : Drained)
    → StandsWell t fits a → RunsTo t fits z app a cores went b → Drains t fits z app b drained c → RunFact x y first a → (x.tells first).total ≡ total
    → ((s : PlaceState H W T) → t.frame_of s ≡ record { hall = s.hall; first = s.first })
    → ((s : PlaceState H W T) → t.colour_of s ≡ s.colour)
    → ((frame : Frame H W) (k : Colour) (event : Event) (carried : Option (Load W L)) → fits frame k event carried → Fit x l frame.first k event carried)
    → ((s : PlaceState H W T) (event : Event) (carried : Option (Load W L)) (becomes : PlaceState H W T) (puts : List (Put W L)) → z.runs app s event carried becomes puts → Runs x l y log total s event carried becomes puts)
    → RunFact x y first c
through {W} {L} {T} {G} {H} x l y t fits z app first total log a b c cores went drained well runs drains fact same frame_is colour_is fits_is runs_is =
    let runs_at : (s : PlaceState H W T) (event : Event) (carried : Option (Load W L)) (becomes : PlaceState H W T) (puts : List (Put W L)) → z.runs app s event carried becomes puts → Runs x l y log (at_first x l first).total s event carried becomes puts = λ s event carried becomes puts ran. subst (λ (n : ℕ). Runs x l y log n s event carried becomes puts) (sym same) (runs_is s event carried becomes puts ran) in
    let first_of : (s : PlaceState H W T) → (t.frame_of s).first ≡ s.first = λ s. ap (λ (f : Frame H W). f.first) (frame_is s) in
    let keep = weave_keeps x l y t fits z app frame_is colour_is fits_is first log runs_at in
    let Holds : WeaveState (PlaceState H W T) (Load W L) → Type 0 = WeaveFact x l y t fits z app frame_is colour_is fits_is first log runs_at in
    let start : Holds a = record { stands = fact.stands; framed = first_of a.given ∙ fact.framed } in
    let end = carry_drain t fits z app Holds keep b c drained drains (carry_run t fits z app Holds keep a b cores went runs (well, start)) in
    record { stands = end.1.stands; framed = sym (first_of c.given) ∙ end.1.framed }
