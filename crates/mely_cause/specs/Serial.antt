-- A run on threads as a run of one thread.
use Rattle.std.specs.Prelude.{◌≡◌, ◌==◌, List, [], ◌∷◌, ◌++◌, Option, Some, if◌then◌else◌}
use Rattle.mely_event.specs.declared.colour.Colour.{Colour}
use Rattle.mely_event.specs.declared.event.Event.{Event}
use Rattle.mely_tally.specs.Account.{HandlerRun}
use Rattle.mely_chain.specs.Runs.{runs_on}

module _ {S P : Type 0} where
  -- the states of all colours after a run
  abbrev pub states_after : (Colour → Option S) → HandlerRun S P → Colour → Option S
  states_after states run c = if c.0 == run.colour.0 then Some run.becomes else states c

  -- One thread made these runs, one after another. It has the states of all colours, and what is
  -- under way. Each run is of something that is under way, on the state of its colour, which
  -- becomes what the run leaves; what it puts is under way from then on. In the end nothing is
  -- under way, and the states are those that are left.
  abbrev pub MadeByOne : (Colour → Option S) → List (Colour × Event × Option P)
      → List (HandlerRun S P) → (Colour → Option S) → Type 0
  MadeByOne states under_way [] left = (under_way ≡ []) × ((c : Colour) → left c ≡ states c)
  MadeByOne states under_way (run ∷ later) left =
      (front back : List (Colour × Event × Option P))
      × (under_way ≡ front ++ (run.colour, run.event, run.load) ∷ back)
      × (states run.colour ≡ Some run.state)
      × MadeByOne (states_after states run) (front ++ back ++ run.puts) later left

-- There is one order of all runs, in which the runs of each colour stand in their own, and by which
-- one thread might have made them, from the first event and the states that were given.
pub record RanAsByOne {S P : Type 0} (begin : Colour × Event × Option P)
    (given left : Colour → Option S) (runs : Colour → List (HandlerRun S P)) : Type 0 where
  pub all : List (HandlerRun S P)
  pub each : (c : Colour) → runs_on c all ≡ runs c
  pub made : MadeByOne given (begin ∷ []) all left
