-- What a weave's calls do to all its states and all events under way. Whatever only moves things
-- keeps every sum over them, so a number of a state or of an event is counted over the whole weave
-- without a word on where each one is.
use Rattle.std.specs.Prelude.{◌≡◌, ◌+◌, ◌≤◌, ℕ, List, [], ◌∷◌, ◌++◌, Option, Some, Result, Ok, Err, ◌⊎◌, sum_by, slice_get, flat_map, length}
use Rattle.std.specs.List.{AllByRecursion}
use Rattle.mely_event.specs.declared.colour.Colour.{Colour}
use Rattle.mely_event.specs.declared.event.Event.{Event}
use Rattle.mely_event.specs.declared.trail.Trail.{Ghosts as TrailWords}
use Rattle.mely_event.specs.declared.unregistered.Unregistered.{Unregistered}
use Rattle.mely_history.specs.History.{ran_of}
use Rattle.mely_history.specs.Legal.{AreLegal, IsDrained}
use Rattle.mely_history.specs.Setup.{colours_of}
use Rattle.mely_history.specs.declared.entry.Entry.{Entry}
use Rattle.mely_history.specs.declared.registered.Registered.{Registered}
use Rattle.mely_queue.specs.Turn.{EachFits}
use Rattle.mely_worker.specs.Access.{FitsSetup}
use Rattle.mely_worker.specs.declared.app.App.{Ghosts as AppWords}
use Rattle.mely_weave.specs.Drains.{AllFree, HistoriesAreDrained}
use Rattle.mely_weave.specs.Side.{shard_of}
use Rattle.mely_weave.specs.Weave.{WeaveState}
use Rattle.mely_tally.specs.Tallies.{Carried, carried_by, states_of, under_way}

-- states and events only change their places
pub record OnlyMoves {S P : Type 0} (before after : WeaveState S P) : Type 0 where
  pub states : (f : S → ℕ) → sum_by f (states_of after) ≡ sum_by f (states_of before)
  pub ways : (g : Carried P → ℕ) → sum_by g (under_way after) ≡ sum_by g (under_way before)

module _ {R S P F : Type 0} (t : TrailWords S F) (fits : F → Colour → Event → Option P → Type 0)
    (y : AppWords R P S F) (app : R) (before after : WeaveState S P) where
  -- one event, which fitted, is run on the state of its colour by its handler, and what that put is
  -- under way; all other states and events stay
  pub record RunsOne : Type 0 where
    pub state : S
    pub event : Carried P
    pub becomes : S
    pub puts : List (Colour × Event × Option P)
    pub ran : y.runs app state event.0 event.1 becomes puts
    pub frame : t.frame_of state ≡ t.frame_of before.given
    pub fit : fits (t.frame_of before.given) (t.colour_of state) event.0 event.1
    pub held : (g : Carried P → ℕ) → g event ≤ sum_by g (under_way before)
    pub front : List S
    pub back : List S
    pub was : states_of before ≡ front ++ (state ∷ []) ++ back
    pub is : states_of after ≡ front ++ (becomes ∷ []) ++ back
    pub ways : (g : Carried P → ℕ) → sum_by g (under_way after) + g event
        ≡ sum_by g (under_way before) + sum_by g (carried_by puts)

  -- a step runs one event, or it only moves states and events
  abbrev pub StepTells : Type 0
  StepTells = OnlyMoves before after ⊎ RunsOne

-- no state changes, and these events are under way beside those that were
pub record GainsOnly {S P : Type 0} (before after : WeaveState S P)
    (more : List (Carried P)) : Type 0 where
  pub states : (f : S → ℕ) → sum_by f (states_of after) ≡ sum_by f (states_of before)
  pub ways : (g : Carried P → ℕ) → sum_by g (under_way after)
      ≡ sum_by g (under_way before) + sum_by g more

-- what was posted is under way, and a refused post changes nothing
abbrev pub PostTells : {S P : Type 0} → Event → Option P → Result Registered (Unregistered P)
    → WeaveState S P → WeaveState S P → Type 0
PostTells event load (Ok reply) before after = GainsOnly before after ((event, load) ∷ [])
PostTells event load (Err back) before after = GainsOnly before after []

-- the weave has these states, at home or in turns, and these events are
-- under way, in whatever order
pub record IsMadeOf {S P : Type 0} (weave : WeaveState S P) (all : List S)
    (left : List (Carried P)) : Type 0 where
  pub states : (f : S → ℕ) → sum_by f (states_of weave) ≡ sum_by f all
  pub ways : (g : Carried P → ℕ) → sum_by g (under_way weave) ≡ sum_by g left

-- an initial weave is made of the states that were given, with nothing under way; its workers are
-- free, and the states have its frame
pub record BeginsAs {S P F : Type 0} (t : TrailWords S F) (states : List S)
    (weave : WeaveState S P) : Type 0 where
  pub made : IsMadeOf weave states []
  pub free : AllFree weave
  pub framed : (i : ℕ) (state : S) → slice_get states i ≡ Some state
      → t.frame_of state ≡ t.frame_of weave.given

-- A weave is taken apart: it was made of these states, and of what is queued and was lost. The
-- histories are legal; where the weave's are drained so are these, and nothing is queued. There is
-- a state for each colour, with its frame, whose trail is what was run of it.
pub record IsTakenApart {S P F : Type 0} (t : TrailWords S F) (weave : WeaveState S P)
    (histories : List (List Entry)) (states : List S) (queued : List (List (Carried P)))
    (lost : List (Colour × Event × Option P)) : Type 0 where
  pub made : IsMadeOf weave states (flat_map (λ events. events) queued ++ carried_by lost)
  pub legal : AreLegal weave.setup histories
  pub drained : HistoriesAreDrained weave → (shard : ℕ) (history : List Entry)
      → slice_get histories shard ≡ Some history → IsDrained history
  pub emptied : HistoriesAreDrained weave → flat_map (λ events. events) queued ≡ []
  pub many : length states ≡ colours_of weave.setup
  pub coloured : (c : Colour) (state : S) → slice_get states c.0 ≡ Some state
      → t.colour_of state ≡ c
  pub framed : (c : Colour) (state : S) → slice_get states c.0 ≡ Some state
      → t.frame_of state ≡ t.frame_of weave.given
  pub trailed : (c : Colour) (state : S) (history : List Entry) → slice_get states c.0 ≡ Some state
      → slice_get histories (shard_of weave.setup c) ≡ Some history
      → t.trail_of state ≡ ran_of history c

-- what is still under way in the parts fits: what is queued the colour of its place,
-- and what was lost its own
pub record PartsFit {S P F : Type 0} (t : TrailWords S F)
    (fits : F → Colour → Event → Option P → Type 0) (weave : WeaveState S P)
    (waits : List (List (Carried P))) (refused : List (Colour × Event × Option P)) : Type 0 where
  pub queued : (c : Colour) (events : List (Carried P)) → slice_get waits c.0 ≡ Some events
      → EachFits (fits (t.frame_of weave.given) c) events
  pub lost : AllByRecursion (FitsSetup fits weave.setup (t.frame_of weave.given)) refused

-- a number of the whole weave: what all its states have, and what all events under way bring
abbrev pub total_of : {S P : Type 0} → (S → ℕ) → (Carried P → ℕ) → WeaveState S P → ℕ
total_of had brought weave = sum_by had (states_of weave) + sum_by brought (under_way weave)

-- whatever an event brings to a state, its handler leaves there or hands on by what it puts
abbrev pub HandlersKeep : {R S P F : Type 0} → TrailWords S F → (F → Colour → Event → Option P
    → Type 0) → AppWords R P S F → R → (S → ℕ) → (Carried P → ℕ) → Type 0
HandlersKeep {S = S} {P = P} t fits y app had brought =
    (state : S) (event : Event) (load : Option P) (becomes : S) (puts : List (Colour × Event
    × Option P)) → fits (t.frame_of state) (t.colour_of state) event load
    → y.runs app state event load becomes puts
    → had becomes + sum_by brought (carried_by puts) ≡ had state + brought (event, load)
