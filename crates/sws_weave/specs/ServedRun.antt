-- A run of the server that came to its end, and which histories it wrote
-- where the world is scripted.
use Rattle.std.specs.Prelude.{◌≡◌, ℕ, Bool, false, All, List, Option, Some}
use Rattle.mely_event.specs.declared.colour.Colour.{Colour}
use Rattle.mely_event.specs.declared.event.Event.{Event}
use Rattle.mely_event.specs.declared.trail.Trail.{Ghosts as TrailWords}
use Rattle.mely_history.specs.declared.setup.Setup.{Setup}
use Rattle.mely_history.specs.declared.shape.Shape.{Shape}
use Rattle.mely_history.specs.declared.entry.Entry.{Entry}
use Rattle.mely_worker.specs.declared.app.App.{Ghosts as AppWords}
use Rattle.mely_weave.specs.Weave.{WeaveState}
use Rattle.mely_weave.specs.declared.draining.Drained.{Drained}
use Rattle.mely_weave.specs.declared.draining.Drained.TheVariants.{Empty}
use Rattle.mely_machine.specs.Rules.{rules_of}
use Rattle.mely_run.specs.WholeRuns.{IsBegun, IsRunOut}
use Rattle.sws_link.specs.declared.Link.{Ghosts as LinkWords}
use Rattle.sws_link.specs.declared.world.World.{Ghosts as WorldWords}
use Rattle.sws_steps.specs.declared.talk.Talk.{Ghosts as TalkWords}
use Rattle.sws_steps.specs.Logs.{Step}
use Rattle.sws_handlers.specs.declared.load.Load.{Load}
use Rattle.sws_handlers.specs.declared.load.Load.TheVariants as load
use Rattle.sws_handlers.specs.declared.place.Frame.{Frame}
use Rattle.sws_handlers.specs.Counting.{colours_over}
use Rattle.sws_handlers.specs.Place.{PlaceState}
use Rattle.sws_handlers.specs.Initial.{AreInitialPlacesOver, first_poll, initial_load}
use Rattle.sws_handlers.specs.PathStates.{TellsPaths, is_spoilt}
use Rattle.sws_weave.specs.Openings.{AreOpened}
use Rattle.sws_weave.specs.ServerRun.{server_rules, IsRunOfPaths}

module _ {W L T G H : Type 0} (x : WorldWords W L) (y : TalkWords T L G H) where
  -- a weave of the initial states was made, the first poll was posted with the world, the schedule
  -- was run, and a drain came to its end
  pub record HasRunOut {R : Type 0} (t : TrailWords (PlaceState H W T) (Frame H W))
      (fits : Frame H W → Colour → Event → Option (Load W L) → Type 0)
      (a : AppWords R (Load W L) (PlaceState H W T) (Frame H W)) (total_of : R → ℕ)
      (log_of : R → Bool) (log : Bool) (setup : Setup)
      (first : W) (hall : H) (schedule : List (ℕ × ℕ))
      (end : WeaveState (PlaceState H W T) (Load W L)) : Type 0 where
    pub app : R
    pub total : total_of app ≡ (x.tells first).total
    pub logs : log_of app ≡ log
    pub states : List (PlaceState H W T)
    pub initial : AreInitialPlacesOver y first hall (x.tells first).total
        (colours_over (x.tells first).total log) states
    pub posted : WeaveState (PlaceState H W T) (Load W L)
    pub begun : IsBegun t fits setup states (record { 0 = 0 }) (first_poll (x.tells first).total)
        (Some (load.World (initial_load first))) posted
    pub out : IsRunOut t fits a app posted schedule end

  -- The histories are those of the server on the paths of the world's links, by the definition
  -- of a run, and so no others. That is so where the world is scripted and each path opens once,
  -- the setup says the rules of the server at this shape, the weave was drained, and no link met
  -- want of memory.
  abbrev pub IsOfPaths : LinkWords L → H → Setup → W → Bool → List (ℕ × ℕ) → Drained
      → List (List Entry) → List (PlaceState H W T) → Type 0
  IsOfPaths l hall setup first log schedule ended histories states =
      (shape : Shape) (paths : List (List Step)) → rules_of setup ≡ server_rules shape
      → TellsPaths x l y hall first paths → AreOpened paths → ended ≡ Empty
      → All (λ place. is_spoilt y place ≡ false) states
      → IsRunOfPaths shape log paths schedule histories
