-- A run of a weave from its first post to the end of its drain.
use Rattle.std.specs.Prelude.{◌≡◌, ℕ, List, Option, Some, Ok, length, map}
use Rattle.mely_event.specs.declared.colour.Colour.{Colour}
use Rattle.mely_event.specs.declared.event.Event.{Event}
use Rattle.mely_event.specs.declared.trail.Trail.{Ghosts as TrailWords}
use Rattle.mely_history.specs.declared.setup.Setup.{Setup}
use Rattle.mely_history.specs.Setup.{colours_of}
use Rattle.mely_history.specs.declared.entry.Entry.{Entry}
use Rattle.mely_history.specs.declared.registered.Registered.{Registered}
use Rattle.mely_worker.specs.declared.app.App.{Ghosts as AppWords}
use Rattle.mely_weave.specs.StandsWell.{StandsWell}
use Rattle.mely_weave.specs.Weave.{WeaveState}
use Rattle.mely_weave.specs.Steps.{PostsAt}
use Rattle.mely_weave.specs.Lanes.{AreByColour}
use Rattle.mely_weave.specs.Making.{IsInitialWeave}
use Rattle.mely_weave.specs.declared.running.Went.TheVariants as went
use Rattle.mely_weave.specs.declared.draining.Drained.TheVariants as drained
use Rattle.mely_weave.specs.Runs.{RunsTo, KeepsSetup}
use Rattle.mely_history.specs.Schedules.{spelled_out}
use Rattle.mely_weave.specs.Drains.{Drains}

module _ {S P F : Type 0} (t : TrailWords S F) (fits : F → Colour → Event → Option P → Type 0) where
  -- a weave was made of these states, and the event was posted on it
  pub record IsBegun (setup : Setup) (states : List S) (c : Colour) (event : Event)
      (load : Option P) (posted : WeaveState S P) : Type 0 where
    pub first : WeaveState S P
    pub reply : Registered
    pub all : length states ≡ colours_of setup
    pub made : IsInitialWeave setup states first
    pub well : StandsWell t fits first
    pub posts : PostsAt t first c event load (Ok reply) posted
    pub same : KeepsSetup first posted
    pub well_posted : StandsWell t fits posted

  module _ {R : Type 0} (y : AppWords R P S F) (app : R) where
    -- the steps of a schedule were made, and a drain came to its end
    pub record IsRunOut (posted : WeaveState S P) (schedule : List (ℕ × ℕ))
        (end : WeaveState S P) : Type 0 where
      pub ran : WeaveState S P
      pub runs : RunsTo t fits y app posted (spelled_out schedule) went.All ran
      pub drains : Drains t fits y app ran drained.Empty end
      pub well : StandsWell t fits end

    -- a whole run: at its end the weave has these histories and, all at home, these states in
    -- the order of the colours
    pub record IsWholeRun (setup : Setup) (states : List S) (c : Colour) (event : Event)
        (load : Option P) (schedule : List (ℕ × ℕ)) (histories : List (List Entry))
        (left : List S) : Type 0 where
      pub posted : WeaveState S P
      pub end : WeaveState S P
      pub begun : IsBegun setup states c event load posted
      pub out : IsRunOut posted schedule end
      pub told : histories ≡ map (λ has. has.history) end.shards
      pub states_left : AreByColour (λ lane. lane.state) end.setup end.shards
          (map (λ state. Some state) left)
