-- What an app must be that is the server on a scripted world, in a weave.
use Rattle.std.specs.Prelude.{◌≡◌, ◌≤◌, ◌+◌, ◌==◌, ℕ, zero, suc, Bool, true, false, List, [], Option, None, Some, length, slice_get, if◌then◌else◌}
use Rattle.mely_event.specs.declared.colour.Colour.{Colour}
use Rattle.mely_event.specs.declared.event.Event.{Event}
use Rattle.mely_event.specs.declared.trail.Trail.{Ghosts as TrailWords}
use Rattle.mely_worker.specs.declared.app.App.{Ghosts as AppWords}
use Rattle.sws_steps.specs.Logs.{Step}
use Rattle.sws_weave.specs.Server.{Server}
use Rattle.sws_handlers.specs.PathPlaces.{Load, Place, polling, accepting, talking, logging, runs_place, worlds_of_place, worlds_of_load}
use Rattle.sws_weave.proofs.Model.Agrees.{PlaceAgrees, ComingAgrees}
use Rattle.sws_handlers.specs.PathStates.{AreLoads, ArePuts}

-- over a scripted world a handler makes of what a colour has and of its load what the place says,
-- unless it leaves the state spoilt, as where the link met want of memory; a state or a load that
-- is as a place or a load has as many worlds
pub record IsPlaced {S P F R : Type 0} (t : TrailWords S F)
    (fits : F → Colour → Event → Option P → Type 0) (y : AppWords R P S F) (app : R) (frame : F)
    (IsPlace : S → Place → Type 0) (IsLoad : P → Load → Type 0) (holds : S → ℕ) (carries : P → ℕ)
    (spoilt : S → Bool) (log : Bool) (whole : List (List Step)) : Type 0 where
  pub held : (state : S) (place : Place) → IsPlace state place → holds state ≡ worlds_of_place place
  pub carriage : (load : P) (l : Load) → IsLoad load l → carries load ≡ worlds_of_load (Some l)
  pub runs : (s : Server) (state after : S) (event : Event) (load : Option P) (puts : List (Colour
      × Event × Option P)) (place : Place) (l : Option Load) → t.frame_of state ≡ frame
      → fits frame (t.colour_of state) event load
      → IsPlace state place → PlaceAgrees whole s (t.colour_of state) place → AreLoads IsLoad load l
      → ComingAgrees whole s (t.colour_of state) event.handler event.arg l
      → worlds_of_place place + worlds_of_load l ≤ 1
      → y.runs app state event load after puts → spoilt after ≡ false
      → IsPlace after (runs_place log (length whole) (t.colour_of state) place event l).place
      × ArePuts IsLoad puts
      (runs_place log (length whole) (t.colour_of state) place event l).puts
  pub spoilt_after : (state after : S) (event : Event) (load : Option P) (puts : List (Colour
      × Event × Option P)) → y.runs app state event load after puts
      → spoilt state ≡ true → spoilt after ≡ true

-- the initial place of each colour: the desk, the accepting, so many connections that aren't open
-- yet, and the log
abbrev pub initial_place : ℕ → ℕ → Place
initial_place total zero = polling (record { waiting = []; last = false; resting = None })
initial_place total (suc zero) = accepting
initial_place total (suc (suc i)) = if i == total then logging else talking None

-- the states, of which the first is of this colour, are as the initial places of so many links
abbrev pub AreInitialPlacesBy : {S : Type 0} → (S → Place → Type 0) → ℕ → ℕ → List S → Type 0
AreInitialPlacesBy {S} IsPlace total n states = (i : ℕ) (state : S)
    → slice_get states i ≡ Some state → IsPlace state (initial_place total (n + i))
