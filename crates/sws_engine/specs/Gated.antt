-- What a gate was told of a run of the server: that it was passed before each handler.
use Rattle.std.specs.Prelude.{◌≡◌, ◌≢◌, ◌⊎◌, ℕ, Bool, List, [], ◌∷◌, Option, map, slice_get}
use Rattle.mely_event.specs.declared.colour.Colour.{Colour}
use Rattle.mely_event.specs.declared.event.Event.{Event}
use Rattle.mely_event.specs.declared.trail.Trail.{Ghosts as TrailWords}
use Rattle.mely_crew.specs.Crew.{RanBehind}
use Rattle.mely_history.specs.declared.entry.Entry.{Entry}
use Rattle.mely_weave.specs.Weave.{WeaveState}
use Rattle.mely_weave.specs.declared.draining.Drained.{Drained}
use Rattle.mely_worker.specs.declared.app.App.{Ghosts as AppWords}
use Rattle.sws_steps.specs.declared.talk.Talk.{Ghosts as TalkWords}
use Rattle.sws_handlers.specs.declared.ended.Ended.{Ended}
use Rattle.sws_handlers.specs.declared.load.Load.{Load}
use Rattle.sws_handlers.specs.declared.place.Frame.{Frame}
use Rattle.sws_handlers.specs.Counting.{colours_over}
use Rattle.sws_handlers.specs.Initial.{AreInitialPlacesOver}
use Rattle.sws_handlers.specs.Place.{PlaceState}
use Rattle.sws_weave.specs.Passed.{HandlersPassed}
use Rattle.sws_weave.specs.ServerLeaves.{HasNotBegun}
use Rattle.sws_engine.specs.CrewLeaves.{first_put}

-- threads ran an app over so many links, with the log or without, behind the gate, where this was
-- posted
pub record RanBehindBy {R S P F : Type 0} (t : TrailWords S F)
    (fits : F → Colour → Event → Option P → Type 0) (a : AppWords R P S F) (total_of : R → ℕ)
    (log_of : R → Bool) (passed : ℕ → Colour → Event → Type 0) (given : Colour → Option S)
    (total : ℕ) (log : Bool) (posted : List (Colour × Event × Option P)) (drained : Drained)
    (weave : WeaveState S P) : Type 0 where
  pub app : R
  pub links : total_of app ≡ total
  pub logs : log_of app ≡ log
  pub behind : RanBehind t fits a app passed given posted drained weave

module _ {R W L T G H : Type 0} (y : TalkWords T L G H) (t : TrailWords (PlaceState H W T) (Frame H W))
    (fits : Frame H W → Colour → Event → Option (Load W L) → Type 0)
    (a : AppWords R (Load W L) (PlaceState H W T) (Frame H W)) (total_of : R → ℕ)
    (log_of : R → Bool) (passed : ℕ → Colour → Event → Type 0) (hall : H) (first : W) (total : ℕ)
    (log : Bool) where
  -- The histories are those of a weave that threads have run from the initial states on. Some core
  -- has passed the gate before each handler that they ran until their fleet was closed; what was
  -- left then was run by steps of the server that pass no gate.
  pub record ThreadsPassed (histories : List (List Entry)) : Type 0 where
    pub states : List (PlaceState H W T)
    pub initial : AreInitialPlacesOver y first hall total (colours_over total log) states
    pub drained : Drained
    pub weave : WeaveState (PlaceState H W T) (Load W L)
    pub ran : RanBehindBy t fits a total_of log_of passed (λ c. slice_get states c.0) total log
        (first_put total first ∷ []) drained weave
    pub are : histories ≡ map (λ has. has.history) weave.shards

  -- One worker has passed the gate before each handler, as core 0. Several have before each that
  -- they ran until their fleet was closed, unless memory was refused before the first event.
  pub record IsGated (cores : ℕ) (ended : Ended W L) : Type 0 where
    pub alone : cores ≡ 1 → HandlersPassed (passed 0) ended
    pub several : cores ≢ 1 → HasNotBegun first ended
        ⊎ ThreadsPassed (map (λ history. history.items) ended.histories.items)
