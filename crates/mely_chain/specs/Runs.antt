-- Runs of handlers that follow one another.
use Rattle.std.specs.Prelude.{◌≡◌, ◌==◌, List, [], ◌∷◌, Option, Some, None, if◌then◌else◌, map, filter, filter_map, flat_map}
use Rattle.mely_event.specs.declared.colour.Colour.{Colour}
use Rattle.mely_event.specs.declared.event.Event.{Event}
use Rattle.mely_tally.specs.Account.{HandlerRun}

module _ {S P : Type 0} where
  -- the event of a run with its load
  abbrev pub given_to : HandlerRun S P → Event × Option P
  given_to run = (run.event, run.load)

  -- of these runs those on a colour
  abbrev pub runs_on : Colour → List (HandlerRun S P) → List (HandlerRun S P)
  runs_on c runs = filter (λ run. run.colour.0 == c.0) runs

  -- the runs follow one another on a state: the first is on this one, each further one on what the
  -- one before it left, and the last one left that
  abbrev pub Follow : S → List (HandlerRun S P) → S → Type 0
  Follow from [] to = to ≡ from
  Follow from (run ∷ later) to = (run.state ≡ from) × Follow run.becomes later to

  -- the runs are on these events with their loads, in this order, from the one state to the other
  pub record RunThrough (from : S) (events : List (Event × Option P)) (to : S)
      (runs : List (HandlerRun S P)) : Type 0 where
    pub given : map given_to runs ≡ events
    pub follow : Follow from runs to

-- the event with its load, where it is put on the colour
abbrev pub put_on : {P : Type 0} → Colour → Colour × Event × Option P → Option (Event × Option P)
put_on c put = if put.0.0 == c.0 then Some (put.1, put.2) else None

-- what is put on a colour, with its loads, in order
abbrev pub puts_on : {P : Type 0} → Colour → List (Colour × Event × Option P)
    → List (Event × Option P)
puts_on c puts = filter_map (put_on c) puts

-- all that runs put, in order
abbrev pub puts_of : {S P : Type 0} → List (HandlerRun S P) → List (Colour × Event × Option P)
puts_of runs = flat_map (λ run. run.puts) runs
