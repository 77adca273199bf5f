-- What an app has in a weave: the states of the colours, and the registrations that are still to
-- be run, with their loads.
use Rattle.std.specs.Prelude.{◌≡◌, ◌+◌, ◌⊎◌, ℕ, Bool, true, false, List, [], ◌∷◌, ◌++◌, Option, None, Some, map, flat_map, IsPermutation}
use Rattle.std.proofs.Common.{inl, inr}
use Rattle.mely_event.specs.declared.colour.Colour.{Colour}
use Rattle.mely_event.specs.declared.event.Event.{Event}
use Rattle.mely_event.specs.declared.trail.Trail.{Ghosts as TrailWords}
use Rattle.mely_history.specs.declared.setup.Setup.{Setup}
use Rattle.mely_shard.specs.Shard.{ShardState, ColourState, colour_at}
use Rattle.mely_worker.specs.declared.app.App.{Ghosts as AppWords}
use Rattle.mely_worker.specs.declared.phase.Phase.{Phase}
use Rattle.mely_worker.specs.declared.phase.Phase.TheVariants as at
use Rattle.mely_worker.specs.Worker.{WorkerState}
use Rattle.mely_weave.specs.Weave.{WeaveState}
use Rattle.mely_machine.specs.Machine.{Acts}
use Rattle.mely_run.specs.Corresponds.{without_loads}

-- the state of a colour, or an event of it that comes, with its load
abbrev pub Piece : Type 0 → Type 0 → Type 0
Piece S P = Colour × (S ⊎ (Event × Option P))

-- a state, on its colour
abbrev pub state_piece : {S P : Type 0} → Colour → S → Piece S P
state_piece c state = (c, inl state)

-- an event that waits, on its colour
abbrev pub event_piece : {S P : Type 0} → Colour → Event → Option P → Piece S P
event_piece c event load = (c, inr (event, load))

-- the state of a lane, where it is at home: during a turn it isn't
abbrev pub of_state : {S P : Type 0} → Colour → Option S → List (Piece S P)
of_state c None = []
of_state c (Some state) = state_piece c state ∷ []

-- what a lane has: its state where that is at home, and the events that wait
abbrev pub of_lane : {S P : Type 0} → Colour → ColourState S P → List (Piece S P)
of_lane c lane = of_state c lane.state ++ map (λ e. event_piece c e.0 e.1) lane.events

-- what lanes have, of which the first is the one at this place of the shard
abbrev pub of_lanes : {S P : Type 0} → Setup → ℕ → ℕ → List (ColourState S P) → List (Piece S P)
of_lanes setup shard place [] = []
of_lanes setup shard place (lane ∷ lanes) =
    of_lane (colour_at setup shard place) lane ++ of_lanes setup shard (place + 1) lanes

-- what a shard has
abbrev pub of_shard : {S P : Type 0} → ShardState S P → List (Piece S P)
of_shard has = of_lanes has.setup has.shard 0 has.lanes

-- what is left to register, as an event that comes
abbrev pub of_put : {S P : Type 0} → Colour × Event × Option P → Piece S P
of_put put = event_piece put.0 put.1 put.2

-- what a phase has: a turn has its state, the events that are left and what is left to register,
-- and no other phase has anything
abbrev pub of_phase : {S P : Type 0} → Phase S P → List (Piece S P)
of_phase (at.Free place) = []
of_phase (at.Popped mark) = []
of_phase (at.Picked mark victim) = []
of_phase (at.Landing mark) = []
of_phase (at.Pushing to mark) = []
of_phase (at.Turning turn hand puts) =
    state_piece turn.colour turn.state
    ∷ (map (λ e. event_piece turn.colour e.0 e.1) turn.events ++ map of_put puts)

-- what a worker has, beside what it was refused for memory
abbrev pub of_worker : {S P : Type 0} → WorkerState S P → List (Piece S P)
of_worker w = of_phase w.phase

-- what a weave has: all its states, and all its events under way but those
-- that were refused for memory
abbrev pub pieces : {S P : Type 0} → WeaveState S P → List (Piece S P)
pieces weave = flat_map of_shard weave.shards ++ flat_map of_worker weave.workers

-- the given states, each on its colour, of which the first has this number
abbrev pub kept_from : {S P : Type 0} → ℕ → List S → List (Piece S P)
kept_from n [] = []
kept_from n (state ∷ states) = state_piece (record { 0 = n }) state ∷ kept_from (n + 1) states

-- An app is told by a function: where what it has agrees with what it is by the function, a handler
-- registers what the function says, and what the app has then agrees again, unless the handler left
-- its state spoilt, as by want of memory. Nothing of it depends on where a piece is, and a spoilt
-- state stays so.
pub record IsTold {S P F R X : Type 0} (t : TrailWords S F)
    (fits : F → Colour → Event → Option P → Type 0) (y : AppWords R P S F) (app : R) (frame : F)
    (act : Acts X) (Agrees : X → List (Piece S P) → Type 0) (spoilt : S → Bool) : Type 0 where
  pub moved : (x : X) (some others : List (Piece S P)) → IsPermutation some others
      → Agrees x some → Agrees x others
  pub runs : (x : X) (c : Colour) (event : Event) (load : Option P) (state after : S)
      (puts : List (Colour × Event × Option P)) (rest : List (Piece S P)) → t.colour_of state ≡ c
      → t.frame_of state ≡ frame → fits frame c event load
      → Agrees x (state_piece c state ∷ event_piece c event load ∷ rest)
      → y.runs app state event load after puts → spoilt after ≡ false
      → (without_loads puts ≡ (act x c event).puts)
      × Agrees (act x c event).becomes (state_piece c after ∷ (map of_put puts ++ rest))
  pub spoilt_after : (state after : S) (event : Event) (load : Option P) (puts : List (Colour
      × Event × Option P)) → y.runs app state event load after puts
      → spoilt state ≡ true → spoilt after ≡ true
