-- What a run of the server with a thread for each of several workers leaves, and what its handlers
-- have done.
use Rattle.std.specs.Prelude.{◌≡◌, ◌≢◌, ◌<◌, ◌==◌, ◌+◌, ◌⊎◌, if◌then◌else◌, ℕ, Bool, List, [], Option, Some, sum_by, slice_get}
use Rattle.std.specs.List.{AllByRecursion}
use Rattle.mely_event.specs.declared.colour.Colour.{Colour}
use Rattle.mely_event.specs.declared.event.Event.{Event}
use Rattle.mely_event.specs.declared.trail.Trail.{Ghosts as TrailWords}
use Rattle.mely_chain.specs.WeaveTold.{IsTold}
use Rattle.mely_crew.specs.Crew.{IsRegisteredIn}
use Rattle.mely_history.specs.History.{registered_of}
use Rattle.mely_history.specs.declared.entry.Entry.{Entry}
use Rattle.mely_history.specs.declared.setup.Setup.{Setup}
use Rattle.mely_history.specs.declared.shape.Shape.{Shape}
use Rattle.mely_tally.specs.Account.{HandlerRun, IsAccounted, count_put, count_puts, sum_along, taken_of}
use Rattle.mely_weave.specs.Side.{shard_of}
use Rattle.mely_weave.specs.Weave.{WeaveState}
use Rattle.mely_worker.specs.declared.app.App.{Ghosts as AppWords}
use Rattle.sws_link.specs.declared.Link.{Ghosts as LinkWords}
use Rattle.sws_link.specs.declared.world.World.{Ghosts as WorldWords}
use Rattle.sws_steps.specs.declared.talk.Talk.{Ghosts as TalkWords}
use Rattle.sws_handlers.specs.declared.ended.Ended.{Ended}
use Rattle.sws_handlers.specs.declared.ended.Verdict.TheVariants as verdict
use Rattle.sws_handlers.specs.declared.load.Load.{Load}
use Rattle.sws_handlers.specs.declared.load.Load.TheVariants as load
use Rattle.sws_handlers.specs.Counting.{colours_over}
use Rattle.sws_handlers.specs.Handling.{Put, Runs}
use Rattle.sws_handlers.specs.Initial.{first_poll, initial_load}
use Rattle.sws_handlers.specs.Loads.{FitsTold}
use Rattle.sws_handlers.specs.Place.{PlaceState}
use Rattle.sws_weave.specs.ServerLeaves.{HasNotBegun, HasRun, histories_in}

-- an app over so many links, with the log or without, accounts for the weave, where this was posted
pub record IsAccountedBy {R S P F : Type 0} (t : TrailWords S F)
    (fits : F → Colour → Event → Option P → Type 0) (a : AppWords R P S F) (total_of : R → ℕ)
    (log_of : R → Bool) (total : ℕ) (log : Bool) (posted : List (Colour × Event × Option P))
    (weave : WeaveState S P) : Type 0 where
  pub app : R
  pub links : total_of app ≡ total
  pub logs : log_of app ≡ log
  pub accounted : IsAccounted t fits a app posted weave

-- notes tell what the weave's workers ran of an app over so many links, with the log or without,
-- from the states that were given, where this was posted
pub record IsToldBy {R S P F : Type 0} (t : TrailWords S F)
    (fits : F → Colour → Event → Option P → Type 0) (a : AppWords R P S F) (total_of : R → ℕ)
    (log_of : R → Bool) (given : Colour → Option S) (total : ℕ) (log : Bool)
    (posted : List (Colour × Event × Option P)) (weave : WeaveState S P) : Type 0 where
  pub app : R
  pub links : total_of app ≡ total
  pub logs : log_of app ≡ log
  pub told : IsTold t fits a app given posted weave

-- the first poll of the world, with which a run begins
abbrev pub first_put : {W L : Type 0} → ℕ → W → Put W L
first_put total world =
    (record { 0 = 0 }, first_poll total, Some (load.World (initial_load world)))

-- the number of a run's event, by those that were run on the colour before it, where it is on the
-- colour
abbrev pub count_on : {H W L T : Type 0} → Colour → (List Event → Event → ℕ)
    → HandlerRun (PlaceState H W T) (Load W L) → ℕ
count_on c number run = if run.colour.0 == c.0 then number run.state.trail run.event else 0

module _ {W L T G H : Type 0} (x : WorldWords W L) (l : LinkWords L) (y : TalkWords T L G H)
    (hall : H) (first : W) (log : Bool) where
  -- a run of one of the server's handlers, which keep the log or don't, as was asked: on a state of
  -- its colour, over the hall and the world, and of an event and a load that fit
  pub record IsServerRun (run : HandlerRun (PlaceState H W T) (Load W L)) : Type 0 where
    pub ran : Runs x l y log (x.tells first).total run.state run.event run.load run.becomes run.puts
    pub there : run.colour.0 < colours_over (x.tells first).total log
    pub coloured : run.state.colour ≡ run.colour
    pub over : (run.state.hall ≡ hall) × (run.state.first ≡ first)
    pub fit : FitsTold x l y hall first run.colour run.event run.load

  -- The first poll was registered by a caller that is no core. These are the runs of the handlers:
  -- what they put, with the first poll, is what the histories say was registered, and what was
  -- refused for memory; and they were run on the events that were taken, each by those of its colour
  -- before it. So it is counted on each colour, whatever number an event has.
  pub record AreServerRuns (setup : Setup) (histories : List (List Entry)) (lost : List (Put W L))
      (runs : List (HandlerRun (PlaceState H W T) (Load W L))) : Type 0 where
    pub begun : (history : List Entry)
        → slice_get histories (shard_of setup (record { 0 = 0 })) ≡ Some history
        → IsRegisteredIn setup (record { 0 = 0 }) (first_poll (x.tells first).total) history
    pub each : AllByRecursion IsServerRun runs
    pub put : (c : Colour) (history : List Entry)
        → slice_get histories (shard_of setup c) ≡ Some history → (number : Event → ℕ)
        → sum_by number (registered_of history c) + count_puts c number lost
        ≡ count_put c number (first_put {L = L} (x.tells first).total first)
        + sum_by (λ run. count_puts c number run.puts) runs
    pub ran : (c : Colour) (history : List Entry)
        → slice_get histories (shard_of setup c) ≡ Some history
        → (number : List Event → Event → ℕ) → sum_by (count_on c number) runs
        ≡ sum_along number [] (taken_of history c)

  -- there are some that are all of them
  abbrev pub HandlersRan : Setup → List (List Entry) → List (Put W L) → Type 0
  HandlersRan setup histories lost = (runs : List (HandlerRun (PlaceState H W T) (Load W L)))
      × AreServerRuns setup histories lost runs

module _ {W L T G H : Type 0} (x : WorldWords W L) (l : LinkWords L) (y : TalkWords T L G H)
    (shape : Shape) (hall : H) (first : W) (log : Bool) (ended : Ended W L) where
  -- a run by the shape, over the world that was handed in, and the runs of its handlers; nothing
  -- that they put was lost unless memory was refused
  pub record HasRunCrew : Type 0 where
    pub run : HasRun x l y shape hall first log ended
    pub lost : List (Put W L)
    pub handled : HandlersRan x l y hall first log run.setup
        (histories_in x l y shape hall first log ended) lost
    pub none_lost : ended.verdict ≢ verdict.Memory → lost ≡ []

  -- memory was refused before the first event, or the server has run on the threads
  abbrev pub CrewLeaves : Type 0
  CrewLeaves = HasNotBegun first ended ⊎ HasRunCrew
